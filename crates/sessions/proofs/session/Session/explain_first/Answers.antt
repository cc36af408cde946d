use Rattle.std.proofs.Common.{refl}
use Rattle.script.specs.declared.command.Command.TheVariants as command
use Rattle.session_form.specs.Answers.{refuses_second}
use Rattle.sessions.specs.declared.kept.Kept.TheVariants as shown
use Rattle.sessions.proofs.States.{not_both_accesses}
use Rattle.sessions.proofs.Answering.{told_ok}
use Rattle.sessions.proofs.session.Session.explain_first.Goals as goal

pub explain_named-requires-clause-left : goal.explain_named-requires-clause-left
explain_named-requires-clause-left g c = (c.requires.left.1, c.requires.left.2.1)

pub explain_named-requires-clause-right : goal.explain_named-requires-clause-right
explain_named-requires-clause-right g c = (c.in-Ok.named.statement, c.in-Ok.ensures.1)

pub returns-in-Ok : goal.returns-in-Ok
returns-in-Ok g c = λ x s left. c.explain_named.ensures x c.args.right.now s c.in-Ok.named.statement left c.in-Ok.ensures

pub returns-in-Err : goal.returns-in-Err
returns-in-Err g c = λ x s left.
    let f = c.args.shared.now.facts in
    let st = c.args.self.now.state in
    told_ok c.args.shared.now c.args.self.now c.requires.session (command.Explain x c.args.right.now) c.args.steps.now st c.args.self.now.widened (shown.Refused c.in-Err.error) c.requires.session.state c.requires.session.widened
    (refuses_second left c.in-Err.ensures) (λ s1 s2 a b l r. absurd (not_both_accesses f c.args.right.now s2 b c.in-Err.error r c.in-Err.ensures)) (λ n. n) refl
