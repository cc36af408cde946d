use Rattle.std.proofs.Common.{ℕ, List, get_or, Contains, subst, ◌∙◌}
use Rattle.std.proofs.lemmas.List.{take_all}
use Rattle.std.proofs.lemmas.List.Elements.{Contains-get_or}
use Rattle.worklists.specs.Growth.{Grows, FromOne}
use Rattle.worklists.proofs.Growing.{Grows-more}
use Rattle.reaching_defs.specs.Frames.{GoesOn}
use Rattle.reaching_defs.proofs.frame.Frame.go_on_all.Goals as goal

pub go_on-requires-clause-next : goal.go_on-requires-clause-next
go_on-requires-clause-next c = subst (λ (xs : List ℕ). Contains xs (get_or c.items-next.result.now c.loop-pc.pc-index 0)) c.items-next.ensures (Contains-get_or c.items-next.result.now c.loop-pc.pc-index 0 c.loop-pc-test.true)

pub loop-pc-preserved : goal.loop-pc-preserved
loop-pc-preserved c = record {
  size = c.go_on.ensures.size ∙ c.loop-pc.invariant.size;
  set = c.in_ok-go_on.ensures.set;
  grown = Grows-more (GoesOn c.args.self.now c.args.point.now c.args.slot) c.items-next.result.now c.loop-pc.pc-index 0 c.args.found.now.items.items c.loop-pc.found.items.items c.go_on.new.found.items.items c.loop-pc-test.true c.loop-pc.invariant.grown c.in_ok-go_on.ensures.grown;
}

pub returns-clause-grown : goal.returns-clause-grown
returns-clause-grown c =
    subst (λ (xs : List ℕ). Grows c.args.found.now.items.items c.loop-pc.found.items.items (FromOne (GoesOn c.args.self.now c.args.point.now c.args.slot) xs))
    (take_all c.loop-pc.pc-index c.items-next.result.now c.loop-pc-test.false ∙ c.items-next.ensures) c.loop-pc.invariant.grown
