use Rattle.std.proofs.Common.{◌↔◌, AllPairs, Contains}
use Rattle.fact_form.specs.FactTables.{StepBefore}
use Rattle.input_tables.specs.Control.{step}
use Rattle.input_tables.specs.Edges.{AreRaises}
use Rattle.input_tables.proofs.Outcomes.{two_ok}
use Rattle.input_tables.proofs.RowEdges.{raises_are}
use Rattle.input_tables.proofs.raises.raises_of.Goals as goal

pub returns : goal.returns
returns c = two_ok c.listed.result (λ v. AllPairs StepBefore v.items) (λ v. (q r : _) → Contains v.items (q, r) ↔ Contains c.in_ok-steps.steps.items (step q r)) (λ v. AreRaises c.args.points.now v.items)
    (λ v order members. raises_are c.args.points.now c.in_ok-steps.steps.items v.items c.in_ok-steps.ensures order members) c.listed.ensures.order c.listed.ensures.members
