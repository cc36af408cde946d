use Rattle.std.proofs.Common.{sym, subst}
use Rattle.std.proofs.lemmas.Result.{err_from_is_err_and}
use Rattle.script.specs.declared.command.Command.TheVariants as command
use Rattle.report.specs.Replies.{Answer}
use Rattle.session_form.specs.Answers.{Answers}
use Rattle.session_state.specs.Telling.{answer_of}
use Rattle.session_slices.specs.Rooms.{statements_in}
use Rattle.sessions.proofs.States.{state_after, kept_told, expand_stays, expand_seeds, left_same}
use Rattle.sessions.proofs.Answering.{told_ok, told_none}
use Rattle.sessions.proofs.session.Session.expand.Goals as goal

pub returns-in_err-told : goal.returns-in_err-told
returns-in_err-told g c =
    rw (err_from_is_err_and c.from_residual.result c.from_residual.ensures.1).1 (told_none c.args.shared.now c.args.self.now c.requires (command.Expand c.args.place.now) c.args.steps.now c.expand.new.self _ c.in_err-told.ensures.kept (λ n. n))

pub returns : goal.returns
returns g c =
    let sh = c.args.shared.now in
    let s = c.args.self.now in
    let st = c.expand.new.self in
    let told = c.in_ok-told.told in
    let is = c.in_ok-told.ensures.answer in
    let tells = c.in_ok-told.ensures.seeds in
    told_ok sh s c.requires (command.Expand c.args.place.now) c.args.steps.now st c.note.new.widened c.note.result
    (state_after sh.facts s.state st (command.Expand c.args.place.now) (answer_of told) is c.requires.state)
    (kept_told sh.facts s.state st told s.widened c.note.new.widened c.requires.widened tells c.note.ensures.kept (expand_stays sh.facts s.state st c.args.place.now (answer_of told) is))
    (subst (λ (a : Answer). Answers sh.facts s.state (command.Expand c.args.place.now) a st) (sym (c.note.ensures.shown (statements_in s.finder))) is)
    tt (λ n. n)
    (left_same s.state st told s.widened c.note.new.widened tells (expand_seeds sh.facts s.state st c.args.place.now (answer_of told) is) c.note.ensures.kept)
