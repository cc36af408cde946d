use Rattle.std.proofs.Common.{refl}
use Rattle.std.proofs.lemmas.Result.{err_from_is_err_and}
use Rattle.script.specs.declared.command.Command.TheVariants as command
use Rattle.report.specs.Replies.{Done}
use Rattle.sessions.specs.declared.kept.Kept.TheVariants as shown
use Rattle.sessions.proofs.States.{state_after, kept_same, all_stay, all_seeds}
use Rattle.sessions.proofs.Answering.{told_ok, told_none}
use Rattle.sessions.proofs.session.Session.expand_all.Goals as goal

pub returns-in_err-expand_all : goal.returns-in_err-expand_all
returns-in_err-expand_all g c =
    rw (err_from_is_err_and c.from_residual.result c.from_residual.ensures.1).1 (told_none c.args.shared.now c.args.self.now c.requires command.ExpandAll c.args.steps.now c.expand_all.new.self _ c.in_err-expand_all.ensures.kept (λ n. n))

pub returns : goal.returns
returns g c =
    let sh = c.args.shared.now in
    let s = c.args.self.now in
    let st = c.expand_all.new.self in
    let is = c.in_ok-expand_all.ensures.answer in
    told_ok sh s c.requires command.ExpandAll c.args.steps.now st s.widened shown.Done
    (state_after sh.facts s.state st command.ExpandAll Done is c.requires.state)
    (kept_same sh.facts s.state st s.widened c.requires.widened (all_seeds sh.facts s.state st Done is) (all_stay sh.facts s.state st Done c.requires.state is))
    is tt (λ n. n) refl
