use Rattle.std.proofs.lemmas.Result.{on_ok_weaker}
use Rattle.constraint_rules.specs.Settings.{place_of}
use Rattle.constraint_rules.specs.Statements.{ReadingField, ReadingElement, ReadingStatic, WritingField, WritingElement}
use Rattle.constraint_rules.proofs.Growths.{both_grown, one_grown}
use Rattle.constraint_rules.proofs.statement.push_heap.Goals as goal

pub returns : goal.returns
returns c = λ p s names set placed.
    let at = place_of c.args.x.now in
    on_ok_weaker c.push_found-5.result (λ g. (both_grown _ _ _ _ _ (one_grown (ReadingField p s names at) c.reading_field.result _ _ (c.reading_field.ensures p s names set placed) c.in_ok-push_found.ensures) (both_grown _ _ _ _ _ (one_grown (ReadingElement p s names at) c.reading_element.result _ _ (c.reading_element.ensures p s names set placed) c.in_ok-push_found-2.ensures) (both_grown _ _ _ _ _ (one_grown (ReadingStatic p s names at) c.reading_static.result _ _ (c.reading_static.ensures p s names set placed) c.in_ok-push_found-3.ensures) (both_grown _ _ _ _ _ (one_grown (WritingField p s names at) c.writing_field.result _ _ (c.writing_field.ensures p s names set placed) c.in_ok-push_found-4.ensures) (one_grown (WritingElement p s names at) c.writing_element.result _ _ (c.writing_element.ensures p s names set placed) g)))))) c.push_found-5.ensures
