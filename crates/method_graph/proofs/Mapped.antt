-- A list that is made element by element.
use Rattle.std.proofs.Common.{◌≡◌, ◌<◌, ◌+◌, ℕ, List, [], ◌∷◌, ◌++◌, map, take, length, get_or, ap, sym, ◌∙◌}
use Rattle.std.proofs.lemmas.List.{take_more, map-append}

pub map_more : {A B : Type 0} (f : A → B) (xs : List A) (i : ℕ) (d : A) (ys : List B) → i < length xs → ys ≡ map f (take i xs) → ys ++ f (get_or xs i d) ∷ [] ≡ map f (take (i + 1) xs)
map_more {A} {B} f xs i d ys lt e = ap (λ (zs : List B). zs ++ f (get_or xs i d) ∷ []) e ∙ sym (map-append f (take i xs) (get_or xs i d ∷ [])) ∙ sym (ap (map f) (take_more xs i d lt))
