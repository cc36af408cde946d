-- A path that begins with another one.
use Rattle.std.proofs.Common.{◌≡◌, ◌↔◌, ◌++◌, ℕ, Bool, List, [], ◌∷◌, IsTrue, drop, codes, sym, ap, ◌∙◌}
use Rattle.words.specs.Scripts.{output_of}

rest_is : (front xs ys : List ℕ) → front ++ xs ≡ front ++ ys → xs ≡ ys
rest_is [] xs ys e = e
rest_is (b ∷ front) xs ys e = rest_is front xs ys (ap (λ (all : List ℕ). drop 1 all) e)

pub output_is : (script path rest : List ℕ) (same : Bool) → path ≡ script ++ rest → IsTrue same ↔ (rest ≡ codes ".out") → IsTrue same ↔ (path ≡ output_of script)
output_is script path rest same at told =
    (λ t. at ∙ ap (λ (x : List ℕ). script ++ x) (told.0 t), λ e. told.1 (rest_is script rest (codes ".out") (sym at ∙ e)))
