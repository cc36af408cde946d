-- The loops over the constants of a pool.
use Rattle.std.proofs.Common.{◌≡◌, ℕ, suc, ◌+◌, ◌-◌, ◌<◌, ◌≤◌, true, false, List, [], ◌∷◌, length, get_or, drop, Some, Ok, Err, refl, sym, ap, ◌∙◌, add-one, drop-cons, length-append, arith}
use Rattle.std.specs.Prelude.{slice_get}
use Rattle.std.specs.List.{flat_map}
use Rattle.std.proofs.Math.ListN.{drop_of_length-le}
use Rattle.std.proofs.lemmas.List.Concat.{flat_map-cons}
use Rattle.byte_form.specs.Places.{State}
use Rattle.byte_form.specs.Forms.{Broken}
use Rattle.class_form.specs.Spelling.{spell_constant}
use Rattle.class_form.specs.PoolReading.{has_kinds, has_texts, is_wide, ends_wide, read_links}
use Rattle.class_form.specs.declared.pool.Pool.{Pool}
use Rattle.class_form.specs.declared.pool.Constant.{Constant}

-- the last constant tells
pub ends_wide-last : (cs : List Constant) (c : Constant) → slice_get cs (length cs - 1) ≡ Some c → ends_wide cs ≡ is_wide c
ends_wide-last [] c e = absurd cc
ends_wide-last (b ∷ []) c e = let same : b ≡ c = cc in ap is_wide same
ends_wide-last (b ∷ d ∷ cs) c e =
    let n : suc (suc (length cs)) - 1 ≡ suc (suc (length cs) - 1) = omega arith in
    ends_wide-last (d ∷ cs) c (sym (ap (slice_get (b ∷ d ∷ cs)) n) ∙ e)

module _ (p : Pool) (cs : List Constant) (i at : ℕ) (x : Constant) (lt : i < length cs) (is : x ≡ get_or cs i x) (s : State) where
  rest_is : drop i cs ≡ x ∷ drop (i + 1) cs
  rest_is = rw add-one (drop-cons cs i x lt ∙ ap (λ y. y ∷ drop (suc i) cs) (sym is))

  pub kinds_stop : has_kinds p x ≡ false → read_links p at (drop i cs) s ≡ Err (Broken 4 at)
  unfolding read_links
  kinds_stop e = ap (λ (xs : List Constant). read_links p at xs s) rest_is ∙ rw e refl

  pub texts_stop : has_kinds p x ≡ true → has_texts p x ≡ false → read_links p at (drop i cs) s ≡ Err (Broken 5 at)
  unfolding read_links
  texts_stop e f = ap (λ (xs : List Constant). read_links p at xs s) rest_is ∙ rw (e, f) refl

  pub links_go_on : has_kinds p x ≡ true → has_texts p x ≡ true → read_links p at (drop i cs) s ≡ read_links p (at + length (spell_constant x)) (drop (i + 1) cs) s
  unfolding read_links
  links_go_on e f = ap (λ (xs : List Constant). read_links p at xs s) rest_is ∙ rw (e, f) refl

pub links_end : (p : Pool) (cs : List Constant) (i at : ℕ) (s : State) → length cs ≤ i → read_links p at (drop i cs) s ≡ Ok (tt, s)
unfolding read_links
links_end p cs i at s le = rw (drop_of_length-le cs le) refl

pub spelled_more : (cs : List Constant) (i : ℕ) (x : Constant) → i < length cs → x ≡ get_or cs i x → length (flat_map spell_constant (drop i cs)) ≡ length (spell_constant x) + length (flat_map spell_constant (drop (i + 1) cs))
spelled_more cs i x lt is =
    let cut : drop i cs ≡ x ∷ drop (i + 1) cs = rw add-one (drop-cons cs i x lt ∙ ap (λ y. y ∷ drop (suc i) cs) (sym is)) in
    ap (λ (xs : List Constant). length (flat_map spell_constant xs)) cut ∙ ap length (flat_map-cons spell_constant x (drop (i + 1) cs)) ∙ length-append (spell_constant x) (flat_map spell_constant (drop (i + 1) cs))
