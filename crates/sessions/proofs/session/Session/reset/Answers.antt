use Rattle.std.proofs.Common.{None, refl}
use Rattle.script.specs.declared.command.Command.TheVariants as command
use Rattle.report.specs.Replies.{Done}
use Rattle.sessions.specs.declared.kept.Kept.TheVariants as shown
use Rattle.sessions.proofs.States.{state_after}
use Rattle.sessions.proofs.Answering.{told_ok}
use Rattle.sessions.proofs.session.Session.reset.Goals as goal

pub returns : goal.returns
returns g c =
    let sh = c.args.shared.now in
    let s = c.args.self.now in
    let st = c.reset.new.self in
    let is = c.reset.ensures sh.facts in
    told_ok sh s c.requires command.Reset c.args.steps.now st None shown.Done (state_after sh.facts s.state st command.Reset Done is c.requires.state) tt is tt (λ n. n) refl
