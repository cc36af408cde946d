-- Names and descriptors of members in order.
use Rattle.std.specs.Prelude.{Bool, true, ℕ, List, [], ◌∷◌, map, ◌&&◌, not}
use Rattle.std.specs.Ordering.{nat_cmp, ordering_then, is_eq}
use Rattle.std.specs.Option.{option_cmp}
use Rattle.std.specs.Cmp.Lexicographic.{slice_cmp}
use Rattle.std.specs.declared.cmp.Ordering.{Ordering}
use Rattle.class_form.specs.Pools.{utf_at}
use Rattle.class_form.specs.declared.pool.Pool.{Pool}
use Rattle.class_form.specs.declared.class_file.Member.{Member}

-- by the texts at two indices
abbrev pub text_cmp : Pool → ℕ → ℕ → Ordering
text_cmp p i j = option_cmp (slice_cmp nat_cmp) (utf_at p i) (utf_at p j)

-- by the names, and then by the descriptors
unfoldable pub names_cmp : Pool → ℕ × ℕ → ℕ × ℕ → Ordering
names_cmp p x y = ordering_then (text_cmp p x.0 y.0) (text_cmp p x.1 y.1)

abbrev pub name_of : Member → ℕ × ℕ
name_of m = (m.name, m.descriptor)

abbrev pub names_of : List Member → List (ℕ × ℕ)
names_of ms = map name_of ms

-- each is other than the one before
abbrev pub differ_from : Pool → ℕ × ℕ → List (ℕ × ℕ) → Bool
differ_from p last [] = true
differ_from p last (x ∷ xs) = not (is_eq (names_cmp p last x)) && differ_from p x xs

abbrev pub differ : Pool → List (ℕ × ℕ) → Bool
differ p [] = true
differ p (x ∷ xs) = differ_from p x xs
