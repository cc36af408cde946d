use Rattle.std.proofs.Common.{◌++◌, ℕ, List, get_or, refl, take, subst}
use Rattle.std.proofs.lemmas.List.{take_all}
use Rattle.line_numbers.specs.LineTables.{AreLasts}
use Rattle.line_numbers.proofs.Tables.{more_lines}
use Rattle.line_numbers.proofs.filling.put_lines.Goals as goal

pub loop-start-preserved : goal.loop-start-preserved
loop-start-preserved c = λ before lasts.
    more_lines (λ (t : List (ℕ × ℕ)). AreLasts t c.put_line.new.by_pc.items) c.args.lines.now before c.loop-start.start-index (get_or c.args.lines.now c.loop-start.start-index (0, 0)) (0, 0)
    c.loop-start-test.true refl (c.in_ok-put_line.ensures (before ++ take c.loop-start.start-index c.args.lines.now) (c.loop-start.invariant before lasts))

pub returns : goal.returns
returns c = λ before lasts.
    let all = take_all c.loop-start.start-index c.args.lines.now c.loop-start-test.false in
    subst (λ (t : List (ℕ × ℕ)). AreLasts (before ++ t) c.loop-start.by_pc.items) all (c.loop-start.invariant before lasts)
