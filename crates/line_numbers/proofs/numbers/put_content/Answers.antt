use Rattle.std.proofs.Common.{◌++◌, ◌∙◌, ℕ, List, ap, sym, subst}
use Rattle.class_form.specs.declared.class_file.CodeContent.{CodeContent}
use Rattle.line_numbers.specs.LineTables.{AreLasts, lines_in}
use Rattle.line_numbers.proofs.Tables.{on_ok}
use Rattle.line_numbers.proofs.numbers.put_content.Goals as goal

pub returns-in-Lines : goal.returns-in-Lines
returns-in-Lines c =
    let is = c.items.ensures ∙ sym (ap (λ (k : CodeContent). lines_in k) c.in-Lines.is) in
    on_ok c.put_lines.result (λ h before lasts. subst (λ (t : List (ℕ × ℕ)). AreLasts (before ++ t) c.put_lines.new.by_pc.items) is (h before lasts)) c.put_lines.ensures
