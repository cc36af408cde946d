use Rattle.std.proofs.Common.{List, Option, subst}
use Rattle.std.specs.Prelude.{AllPairs}
use Rattle.slicer_ids.specs.declared.ids.NodeId.{NodeId}
use Rattle.dep_form.specs.declared.input.MethodInput.{MethodInput}
use Rattle.dep_form.specs.WithinFacts.{NodeBefore}
use Rattle.checked_facts.specs.Checks.{AreAllListed, AreExits}
use Rattle.checked_facts.proofs.facts.are_exits_right.Goals as goal

pub returns : goal.returns
returns c = λ t. record {
  each = subst (λ (z : List (Option MethodInput) × List NodeId). AreExits z.0 z.1) (λ d. (c.items.ensures d, c.items-2.ensures d)) (c.are_exits.ensures c.if-not-are_exits.false);
  whole = subst (λ (z : List (Option MethodInput) × List NodeId). AreAllListed z.0 z.1) (λ d. (c.items-3.ensures d, c.items-4.ensures d)) (c.are_all_listed.ensures c.if-not-are_all_listed.false);
  order = subst (AllPairs NodeBefore) c.items-5.ensures (c.rise.ensures t);
}
