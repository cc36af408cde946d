use Rattle.std.proofs.Common.{refl}
use Rattle.script.specs.declared.command.Command.TheVariants as command
use Rattle.session_form.specs.Answers.{refuses_first}
use Rattle.sessions.specs.declared.kept.Kept.TheVariants as shown
use Rattle.sessions.proofs.States.{not_both_accesses}
use Rattle.sessions.proofs.Answering.{told_ok}
use Rattle.sessions.proofs.session.Session.explain.Goals as goal

pub explain_first-requires-clause-left : goal.explain_first-requires-clause-left
explain_first-requires-clause-left g c = (c.args.left.now, c.in-Ok.named.statement, c.in-Ok.ensures)

pub returns-in-Ok : goal.returns-in-Ok
returns-in-Ok g c = c.explain_first.ensures c.args.left.now c.in-Ok.named.statement c.in-Ok.ensures

pub returns-in-Err : goal.returns-in-Err
returns-in-Err g c =
    let f = c.args.shared.now.facts in
    let st = c.args.self.now.state in
    told_ok c.args.shared.now c.args.self.now c.requires (command.Explain c.args.left.now c.args.right.now) c.args.steps.now st c.args.self.now.widened (shown.Refused c.in-Err.error) c.requires.state c.requires.widened
    (refuses_first c.in-Err.ensures) (λ s1 s2 a b l r. absurd (not_both_accesses f c.args.left.now s1 a c.in-Err.error l c.in-Err.ensures)) (λ n. n) refl
