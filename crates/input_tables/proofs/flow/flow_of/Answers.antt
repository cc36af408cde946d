use Rattle.std.proofs.Common.{◌≡◌, ◌↔◌, length, Contains}
use Rattle.std.proofs.lemmas.Result.{IfOk-weaker}
use Rattle.worklists.proofs.Growing.{FromBelow}
use Rattle.input_tables.specs.Control.{IsStepAt, IsStepOf, step}
use Rattle.input_tables.proofs.ControlFlow.{step_of}
use Rattle.input_tables.proofs.flow.flow_of.Goals as goal

pub returns-clause-members : goal.returns-clause-members
returns-clause-members c =
    let xs = c.args.points.now in
    IfOk-weaker c.listed.result (λ v. (q r : _) → Contains v.items (q, r) ↔ Contains c.in_ok-steps.steps.items (step q r)) (λ v. (q r : _) → Contains v.items (q, r) ↔ IsStepOf xs q r)
    (λ v is q r. let a = is q r in let b = c.in_ok-steps.ensures (step q r) in let d = step_of xs q r in (λ h. d.0 (b.0 (a.0 h)), λ h. a.1 (b.1 (d.1 h)))) c.listed.ensures.members
