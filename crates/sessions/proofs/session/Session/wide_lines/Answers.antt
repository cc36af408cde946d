use Rattle.std.proofs.Common.{List, All, Contains, refl, sym, subst}
use Rattle.std.proofs.lemmas.Result.{err_from_is_err_and}
use Rattle.slicer_ids.specs.declared.ids.Statement.{Statement}
use Rattle.dep_form.specs.LookUps.{IsStatement}
use Rattle.dep_form.specs.Slices.{Slice}
use Rattle.script.specs.declared.command.Command.TheVariants as command
use Rattle.session_form.specs.States.{SeedNodes}
use Rattle.session_form.specs.Answers.{slices, lists_lines}
use Rattle.sessions.specs.declared.kept.Kept.TheVariants as shown
use Rattle.sessions.proofs.Answering.{widened_ok, widened_none, not_wide, wide_leaves}
use Rattle.sessions.proofs.SliceLines.{all_statements, lines_of_list}
use Rattle.sessions.proofs.session.Session.wide_lines.Goals as goal

pub returns-in_err-widen_kept : goal.returns-in_err-widen_kept
returns-in_err-widen_kept g c =
    rw (err_from_is_err_and c.from_residual.result c.from_residual.ensures.1).1 (let s = c.args.self.now in
    let x = c.widen_kept.new in
    let is = c.widen_kept.ensures in
    widened_none c.args.shared.now s c.requires.session command.Lines c.args.steps.now x.pass x.kept x.steps is.kept is.pass is.inputs is.keeps is.slice
    (λ plain. not_wide s.state plain c.requires.wide) (λ n. n)
    _)

pub returns-in_err-statements : goal.returns-in_err-statements
returns-in_err-statements g c =
    rw (err_from_is_err_and c.from_residual-in_err-statements.result c.from_residual-in_err-statements.ensures.1).1 (let s = c.args.self.now in
    let x = c.widen_kept.new in
    let is = c.widen_kept.ensures in
    widened_none c.args.shared.now s c.requires.session command.Lines c.args.steps.now x.pass x.kept x.steps is.kept is.pass is.inputs is.keeps is.slice
    (λ plain. not_wide s.state plain c.requires.wide) (λ n. n)
    _)

pub lines_of-requires : goal.lines_of-requires
lines_of-requires g c =
    let f = c.args.shared.now.facts in
    let st = c.args.self.now.state in
    subst (All (IsStatement f)) (sym c.as_slice.ensures.value) (all_statements f (Slice f.inputs (Contains st.expanded) (SeedNodes f st)) c.in_ok-statements.statements.items c.requires.listed c.in_ok-statements.ensures)

pub returns-in_err-lines : goal.returns-in_err-lines
returns-in_err-lines g c =
    rw (err_from_is_err_and c.from_residual-in_err-lines.result c.from_residual-in_err-lines.ensures.1).1 (let s = c.args.self.now in
    let x = c.widen_kept.new in
    let is = c.widen_kept.ensures in
    widened_none c.args.shared.now s c.requires.session command.Lines c.args.steps.now x.pass x.kept x.steps is.kept is.pass is.inputs is.keeps is.slice
    (λ plain. not_wide s.state plain c.requires.wide) (λ n. n)
    _)

pub returns : goal.returns
returns g c =
    let s = c.args.self.now in
    let x = c.widen_kept.new in
    let is = c.widen_kept.ensures in
    widened_ok c.args.shared.now s c.requires.session command.Lines c.args.steps.now x.pass x.kept x.steps is.kept is.pass is.inputs is.keeps is.slice
    (λ plain. not_wide s.state plain c.requires.wide) (λ n. n)
    (shown.Lines c.in_ok-lines.lines) (lists_lines c.requires.wide.seeded (lines_of_list c.args.shared.now.facts s.state c.in_ok-statements.statements.items c.as_slice.result.now c.in_ok-lines.lines.items c.as_slice.ensures.value c.in_ok-statements.ensures c.in_ok-lines.ensures)) (λ some none. absurd (c.requires.wide.expanded none)) c.in_ok-widen_kept.ensures.turns (wide_leaves s.state s.widened x.kept c.requires.wide c.in_ok-widen_kept.ensures.all)
