use Rattle.std.proofs.Common.{List, All, refl, sym, subst}
use Rattle.std.proofs.lemmas.Result.{err_from_is_err_and}
use Rattle.slicer_ids.specs.declared.ids.Mode.TheVariants.{Thin}
use Rattle.slicer_ids.specs.declared.ids.Statement.{Statement}
use Rattle.dep_form.specs.LookUps.{IsStatement}
use Rattle.script.specs.declared.command.Command.TheVariants as command
use Rattle.report.specs.declared.reply.CommandError.TheVariants.{NoSeed}
use Rattle.session_form.specs.States.{SeedNodes}
use Rattle.session_form.specs.Answers.{refuses_lines, lists_lines}
use Rattle.session_slices.specs.Needs.{SliceOf}
use Rattle.session_slices.specs.Rooms.{statements_in}
use Rattle.sessions.specs.declared.kept.Kept.TheVariants as shown
use Rattle.sessions.proofs.Answering.{told_ok, found_ok, found_none, none_expanded_by, not_wide, plain_leaves, thin_is}
use Rattle.sessions.proofs.SliceLines.{all_statements, lines_of_list}
use Rattle.sessions.proofs.session.Session.plain_lines.Goals as goal

pub returns-then-has_no_seed : goal.returns-then-has_no_seed
returns-then-has_no_seed g c =
    let s = c.args.self.now in
    let none = c.if-has_no_seed.ensures.yes refl in
    told_ok c.args.shared.now s c.requires.session command.Lines c.args.steps.now s.state s.widened (shown.Refused NoSeed) c.requires.session.state c.requires.session.widened (refuses_lines none) (λ some _. absurd (some none)) (λ w. w.seeded none) (plain_leaves s.state s.widened c.requires.plain)

pub returns-in_err-find_seeds : goal.returns-in_err-find_seeds
returns-in_err-find_seeds g c =
    rw (err_from_is_err_and c.from_residual.result c.from_residual.ensures.1).1 (let s = c.args.self.now in
    let x = c.find_seeds.new in
    let is = c.find_seeds.ensures in
    let some = c.if-has_no_seed.ensures.no refl in
    found_none c.args.shared.now s c.requires.session command.Lines c.args.steps.now x.finder x.pass x.seat x.steps is.finder is.pass is.inputs is.seat is.keeps is.knows
    (λ plain has. (is.had (has some (none_expanded_by s.state plain some))).1)
    (λ plain has. is.rows (has some (none_expanded_by s.state plain some)))
    _ (λ f has. f))

pub lines_of-requires : goal.lines_of-requires
lines_of-requires g c =
    let f = c.args.shared.now.facts in
    subst (All (IsStatement f)) (sym c.statements.ensures) (all_statements f (SliceOf f Thin (SeedNodes f c.args.self.now.state)) (statements_in c.find_seeds.new.finder) c.requires.listed c.in_ok-find_seeds.ensures.statements)

pub returns-in_err-lines : goal.returns-in_err-lines
returns-in_err-lines g c =
    rw (err_from_is_err_and c.from_residual-in_err-lines.result c.from_residual-in_err-lines.ensures.1).1 (let s = c.args.self.now in
    let x = c.find_seeds.new in
    let is = c.find_seeds.ensures in
    let some = c.if-has_no_seed.ensures.no refl in
    found_none c.args.shared.now s c.requires.session command.Lines c.args.steps.now x.finder x.pass x.seat x.steps is.finder is.pass is.inputs is.seat is.keeps is.knows
    (λ plain has. (is.had (has some (none_expanded_by s.state plain some))).1)
    (λ plain has. is.rows (has some (none_expanded_by s.state plain some)))
    _ (λ f has. f))

pub returns : goal.returns
returns g c =
    let s = c.args.self.now in
    let x = c.find_seeds.new in
    let is = c.find_seeds.ensures in
    let some = c.if-has_no_seed.ensures.no refl in
    let slice = thin_is c.args.shared.now.facts s.state (statements_in x.finder) (none_expanded_by s.state c.requires.plain some) c.in_ok-find_seeds.ensures.statements in
    found_ok c.args.shared.now s c.requires.session command.Lines c.args.steps.now x.finder x.pass x.seat x.steps is.finder is.pass is.inputs is.seat is.keeps is.knows
    (λ plain has. (is.had (has some (none_expanded_by s.state plain some))).1)
    (λ plain has. is.rows (has some (none_expanded_by s.state plain some)))
    (shown.Lines c.in_ok-lines.lines) (lists_lines some (lines_of_list c.args.shared.now.facts s.state (statements_in x.finder) c.statements.result.now c.in_ok-lines.lines.items c.statements.ensures slice c.in_ok-lines.ensures)) (λ _ _. c.in_ok-find_seeds.ensures.needed) (λ w. not_wide s.state c.requires.plain w) (plain_leaves s.state s.widened c.requires.plain)
