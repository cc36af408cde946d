use Rattle.std.proofs.Common.{List, Option, subst}
use Rattle.std.specs.Prelude.{All}
use Rattle.slicer_ids.specs.declared.ids.Statement.{Statement}
use Rattle.dep_form.specs.declared.access.Access.{Access}
use Rattle.dep_form.specs.declared.input.MethodInput.{MethodInput}
use Rattle.checked_facts.specs.Checks.{EndsFit, FitsHere}
use Rattle.checked_facts.proofs.facts.are_edges_right.Goals as goal

pub returns : goal.returns
returns c = λ t. record {
  fit = subst (λ (z : List (Option MethodInput) × List (Statement × Access)). All (FitsHere z.0 z.1) c.args.edges.now) (λ d. (c.items.ensures d, c.items-2.ensures d))
      (c.are_fit.ensures c.if-not-are_fit.false);
  callers = subst (λ (z : List (Option MethodInput)). All (EndsFit z c.args.edges.now) c.args.edges.now) c.items-3.ensures (c.are_of_one_caller.ensures t);
}
