use Rattle.std.proofs.Common.{ℕ, List, get_or, Contains, inl, subst, ◌∙◌}
use Rattle.std.proofs.lemmas.List.{take_all}
use Rattle.std.proofs.lemmas.List.Elements.{Contains-get_or}
use Rattle.class_form.specs.declared.body.Point.{Point}
use Rattle.worklists.specs.Growth.{Grows, FromOne}
use Rattle.worklists.proofs.Growing.{Grows-more}
use Rattle.reaching_defs.specs.Frames.{place, IsNumberOf}
use Rattle.reaching_defs.proofs.Places.{one_point}
use Rattle.reaching_defs.proofs.Spreading.{grows_value}
use Rattle.reaching_defs.proofs.spread.begin_value.Goals as goal

pub add-requires-clause-point : goal.add-requires-clause-point
add-requires-clause-point c =
    let p = c.point_at-point.result.now in
    let h = get_or c.items-next.result.now c.loop-target.target-index 0 in
    let there : Contains p.next h = subst (λ (xs : List ℕ). Contains xs h) c.items-next.ensures (Contains-get_or c.items-next.result.now c.loop-target.target-index 0 c.loop-target-test.true) in
    c.requires.frame.flow.goes c.args.pc h (p, c.point_at-point.ensures, inl there)

pub loop-target-preserved : goal.loop-target-preserved
loop-target-preserved c = record {
  size = c.add.ensures.size ∙ c.loop-target.invariant.size;
  set = c.in_ok-add.ensures.set;
  grown = Grows-more (λ (q n : ℕ). IsNumberOf c.args.frame.now (place q c.args.slot) n) c.items-next.result.now c.loop-target.target-index 0 c.args.found.now.items.items c.loop-target.found.items.items c.add.new.found.items.items c.loop-target-test.true c.loop-target.invariant.grown c.in_ok-add.ensures.grown;
}

pub returns-clause-grown : goal.returns-clause-grown
returns-clause-grown c =
    let p = c.point_at-point.result.now in
    let is = one_point c.args.frame.now.shape.now.points c.args.frame.now.index.now c.args.pc c.requires.start.0 p c.requires.frame.index c.requires.start.1.0 c.requires.start.1.1 c.point_at-point.ensures.0 c.point_at-point.ensures.1 in
    grows_value c.args.frame.now c.args.pc c.args.slot p c.args.found.now.items.items c.loop-target.found.items.items c.requires.frame c.point_at-point.ensures (subst (λ (x : Point). Contains x.makes c.args.slot) is c.requires.start.2)
    (subst (λ (xs : List ℕ). Grows c.args.found.now.items.items c.loop-target.found.items.items (FromOne (λ (q n : ℕ). IsNumberOf c.args.frame.now (place q c.args.slot) n) xs))
    (take_all c.loop-target.target-index c.items-next.result.now c.loop-target-test.false ∙ c.items-next.ensures) c.loop-target.invariant.grown)
