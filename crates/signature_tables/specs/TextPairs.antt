-- Names with descriptors, as code has them.
use Rattle.std.specs.Prelude.{ℕ, List, Bool}
use Rattle.std.specs.Ordering.{eq_by_cmp}
use Rattle.hierarchy.specs.Places.{Texts, texts_of, texts_cmp}
use Rattle.signature_tables.specs.declared.texts.Texts.{Texts as TextsInCode}

abbrev pub texts_in : TextsInCode → Texts
texts_in t = texts_of t.name.now t.descriptor.now

abbrev pub pair_of : TextsInCode → List ℕ × List ℕ
pair_of t = (t.name.now, t.descriptor.now)

-- whether two are the same texts
abbrev pub are_same : TextsInCode → TextsInCode → Bool
are_same a b = eq_by_cmp (λ s t. texts_cmp (texts_in s) (texts_in t)) a b
