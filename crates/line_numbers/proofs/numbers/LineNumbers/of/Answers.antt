use Rattle.std.proofs.Common.{◌≡◌, ◌∙◌, [], ℕ, List, Option, None, subst, sym}
use Rattle.line_numbers.specs.LineTables.{AreLasts, IsLineAt, lines_of, lines_of_one, line_in}
use Rattle.std.specs.List.{flat_map}
use Rattle.class_form.specs.declared.class_file.CodeAttribute.{CodeAttribute}
use Rattle.line_numbers.proofs.Tables.{all_lines, nothing_yet}
use Rattle.line_numbers.proofs.numbers.LineNumbers.of.Goals as goal

pub returns : goal.returns
returns c = λ pc.
    let body = c.args.body.now in
    let made = c.put_tables.new.by_pc.items in
    let empty : AreLasts [] c.new-by_pc.result.items = subst (AreLasts []) (sym c.new-by_pc.ensures.items) nothing_yet in
    let lasts : AreLasts (lines_of body) made = subst (λ (ts : List CodeAttribute). AreLasts (flat_map lines_of_one ts) made) c.items.ensures (c.in_ok-put_tables.ensures [] empty) in
    subst (λ (by : List (Option ℕ)). IsLineAt (lines_of body) pc (line_in (record { by_pc = by }) pc)) (sym c.from_vec.ensures)
    (all_lines (lines_of body) made c.fill.new.by_pc.items lasts c.fill.ensures.size (c.fill.ensures.filled (lines_of body) lasts) pc)
