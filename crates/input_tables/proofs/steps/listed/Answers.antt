use Rattle.std.proofs.Common.{◌≡◌, ◌↔◌, List, AllPairs, Contains, map, sym, subst}
use Rattle.std.proofs.lemmas.Result.{IfOk-weaker}
use Rattle.fact_form.specs.FactTables.{StepBefore}
use Rattle.input_tables.specs.declared.steps.Step.{Step}
use Rattle.input_tables.specs.Control.{pair_of, step}
use Rattle.input_tables.proofs.ControlFlow.{pairs_order, pairs_members}
use Rattle.input_tables.proofs.steps.listed.Goals as goal

pub returns-clause-order : goal.returns-clause-order
returns-clause-order c = IfOk-weaker c.pairs.result (λ v. v.items ≡ map pair_of c.as_slice.result.now) (λ v. AllPairs StepBefore v.items)
    (λ v e. pairs_order c.in_order-all.result.items c.as_slice.result.now v.items c.as_slice.ensures.value e c.in_order-all.ensures.order) c.pairs.ensures

pub returns-clause-members : goal.returns-clause-members
returns-clause-members c = IfOk-weaker c.pairs.result (λ v. v.items ≡ map pair_of c.as_slice.result.now) (λ v. (q r : _) → Contains v.items (q, r) ↔ Contains c.args.steps.items (step q r))
    (λ v e. pairs_members c.args.steps.items c.in_order-all.result.items c.as_slice.result.now v.items c.as_slice.ensures.value e c.in_order-all.ensures.members) c.pairs.ensures
