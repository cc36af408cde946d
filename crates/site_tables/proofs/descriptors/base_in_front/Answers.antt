use Rattle.std.proofs.Common.{◌≡◌, Some, sym, ap, ◌∙◌}
use Rattle.std.specs.Prelude.{slice_index_or}
use Rattle.site_tables.specs.Making.{class_name_of}
use Rattle.site_tables.proofs.Spelling.{letter_front, class_front, first_taken}
use Rattle.site_tables.proofs.descriptors.base_in_front.Goals as goal

pub returns-then-letter-ne76 : goal.returns-then-letter-ne76
returns-then-letter-ne76 c = λ base rest is e.
    let bytes = c.args.bytes.now in
    let first = ap (λ xs. slice_index_or xs 0 0) c.split_at.ensures.front ∙ first_taken bytes in
    let f = letter_front base bytes rest is e (λ h. c.if-letter-ne76.true (first ∙ h)) in
    (sym f.0, c.split_at.ensures.back ∙ f.1)

pub class_in_front-requires : goal.class_in_front-requires
class_in_front-requires c =
    let bytes = c.args.bytes.now in
    let first = ap (λ xs. slice_index_or xs 0 0) c.split_at.ensures.front ∙ first_taken bytes in
    let f = class_front c.requires.0 bytes c.requires.1 c.requires.2 c.requires.3 (sym first ∙ c.if-letter-ne76.false) in
    (f.0, c.requires.1, f.2, c.split_at.ensures.back ∙ f.3)

pub returns : goal.returns
returns c = λ base rest is e.
    let bytes = c.args.bytes.now in
    let first = ap (λ xs. slice_index_or xs 0 0) c.split_at.ensures.front ∙ first_taken bytes in
    let f = class_front base bytes rest is e (sym first ∙ c.if-letter-ne76.false) in
    let g = c.class_in_front.ensures f.0 rest f.2 (c.split_at.ensures.back ∙ f.3) in
    (ap (λ n. Some n) g.0 ∙ sym (ap class_name_of f.1), g.1)
