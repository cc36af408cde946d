use Rattle.std.proofs.Common.{ℕ, List, [], ◌∷◌, get_or, ap, ◌∙◌}
use Rattle.std.proofs.lemmas.Option.{unwrap_or-slice_get}
use Rattle.text_tables.proofs.site_texts.letter_of.Goals as goal

abbrev LETTERS : List ℕ
LETTERS = 90 ∷ 67 ∷ 70 ∷ 68 ∷ 66 ∷ 83 ∷ 73 ∷ 74 ∷ []

pub returns : goal.returns
returns c = c.byte_or_none.ensures ∙ unwrap_or-slice_get LETTERS c.saturating_sub-place.result 0 ∙ ap (λ (n : ℕ). get_or LETTERS n 0) c.saturating_sub-place.ensures
