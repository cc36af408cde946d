use Rattle.std.proofs.Common.{List, All, refl, sym, subst}
use Rattle.std.proofs.lemmas.Result.{err_from_is_err_and}
use Rattle.slicer_ids.specs.declared.ids.Statement.{Statement}
use Rattle.dep_form.specs.LookUps.{IsStatement}
use Rattle.dep_form.specs.Slices.{Slice}
use Rattle.script.specs.declared.command.Command.TheVariants as command
use Rattle.session_form.specs.States.{SeedNodes}
use Rattle.session_form.specs.Answers.{slices, lists_lines}
use Rattle.sessions.specs.declared.kept.Kept.TheVariants as shown
use Rattle.sessions.proofs.Answering.{widened_ok, widened_none, not_wide, wide_leaves}
use Rattle.sessions.proofs.SliceLines.{all_statements, lines_of_list}
use Rattle.sessions.proofs.session.Session.wide_slice.Goals as goal

pub returns-in_err-widen_kept : goal.returns-in_err-widen_kept
returns-in_err-widen_kept g c =
    rw (err_from_is_err_and c.from_residual.result c.from_residual.ensures.1).1 (let s = c.args.self.now in
    let x = c.widen_kept.new in
    let is = c.widen_kept.ensures in
    widened_none c.args.shared.now s c.requires.session command.Slice c.args.steps.now x.pass x.kept x.steps is.kept is.pass is.inputs is.keeps is.slice
    (λ plain. not_wide s.state plain c.requires.wide) (λ plain. not_wide s.state plain c.requires.wide)
    _)

pub returns-in_err-statements : goal.returns-in_err-statements
returns-in_err-statements g c =
    rw (err_from_is_err_and c.from_residual-in_err-statements.result c.from_residual-in_err-statements.ensures.1).1 (let s = c.args.self.now in
    let x = c.widen_kept.new in
    let is = c.widen_kept.ensures in
    widened_none c.args.shared.now s c.requires.session command.Slice c.args.steps.now x.pass x.kept x.steps is.kept is.pass is.inputs is.keeps is.slice
    (λ plain. not_wide s.state plain c.requires.wide) (λ plain. not_wide s.state plain c.requires.wide)
    _)

pub returns : goal.returns
returns g c =
    let s = c.args.self.now in
    let x = c.widen_kept.new in
    let is = c.widen_kept.ensures in
    widened_ok c.args.shared.now s c.requires.session command.Slice c.args.steps.now x.pass x.kept x.steps is.kept is.pass is.inputs is.keeps is.slice
    (λ plain. not_wide s.state plain c.requires.wide) (λ plain. not_wide s.state plain c.requires.wide)
    (shown.Widened c.in_ok-statements.statements) (slices c.requires.wide.seeded c.in_ok-statements.ensures) (λ some none. absurd (c.requires.wide.expanded none)) c.in_ok-widen_kept.ensures.turns (wide_leaves s.state s.widened x.kept c.requires.wide c.in_ok-widen_kept.ensures.all)
