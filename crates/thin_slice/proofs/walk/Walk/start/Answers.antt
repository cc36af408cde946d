use Rattle.std.proofs.Common.{List, Contains, refl, sym, subst, ◌∙◌, arith}
use Rattle.std.proofs.lemmas.List.{take_all}
use Rattle.slicer_ids.specs.declared.ids.NodeId.{NodeId}
use Rattle.dep_form.specs.Slices.{ModeEdges}
use Rattle.thin_slice.specs.Marks.{found}
use Rattle.thin_slice.proofs.Starting.{starts_up, from_nothing}
use Rattle.thin_slice.proofs.walk.Walk.start.Goals as goal

pub returns-clause-walking : goal.returns-clause-walking
returns-clause-walking c = λ f mode w. record {
  of = record {
    nodes = record { set = c.add_all.ensures.set; size = c.add_all.ensures.size ∙ c.clear.ensures.size ∙ w.nodes.size };
    seeds = omega (arith, c.add_all.ensures.set.count);
  };
  at = starts_up (ModeEdges f.inputs mode) (found c.add_all.new.nodes) c.add_all.new.nodes.count (omega (arith, c.add_all.ensures.set.count));
}

pub returns-clause-seeds : goal.returns-clause-seeds
returns-clause-seeds c = λ n.
    let new = found c.add_all.new.nodes in
    let both = from_nothing (found c.clear.new.self) (found c.clear.new.self) new c.args.seeds.now c.clear.ensures.none refl c.add_all.ensures.grown n in
    let whole = take_all c.add_all.new.nodes.count new (omega (arith, c.add_all.ensures.set.count)) in
    (λ h. both.0 (subst (λ (xs : List NodeId). Contains xs n) whole h), λ h. subst (λ (xs : List NodeId). Contains xs n) (sym whole) (both.1 h))
