-- Paths that stand once, up to a place.
use Rattle.std.proofs.Common.{◌≡◌, ◌≢◌, ℕ, ◌+◌, ◌<◌, ◌≤◌, List, length, get_or, take, All, sym, ap, ◌∙◌, arith, subst, ⊎_elim, ◌⊎◌}
use Rattle.std.proofs.lemmas.List.{get_or_default, get_or-take, length-take}
use Rattle.std.specs.Str.{IsUtf8}
use Rattle.edge_io.specs.Paths.{ArePaths}
use Rattle.edge_io.proofs.Places.{Stored}

pub record Upto (es : List Stored) (n : ℕ) : Type 0 where
  pub once : (i j : ℕ) (d : Stored) → i < j → j < n → (get_or es i d).0 ≢ (get_or es j d).0
  pub texts : (k : ℕ) (d : Stored) → k < n → IsUtf8 (get_or es k d).0

below : (i n : ℕ) → i < n + 1 → (i < n) ⊎ (i ≡ n)
below i n h = grind arith

pub more : (es : List Stored) (n : ℕ) (e : Stored) (path : List ℕ) → n < length es → e ≡ get_or es n e → path ≡ e.0 → Upto es n → IsUtf8 path × All (λ f. f.0 ≢ path) (take n es) → Upto es (n + 1)
more es n e path lt at is u p = record {
  once = λ i j d early h.
      ⊎_elim (λ (b : j < n). u.once i j d early b)
      (λ (b : j ≡ n). λ same.
      let before : i < n = omega arith in
      p.1 i d (omega (arith, length-take n es)) (get_same i d before ∙ same ∙ ap (λ (k : ℕ). (get_or es k d).0) b ∙ key d))
      (below j n h);
  texts = λ k d h.
      ⊎_elim (λ (b : k < n). u.texts k d b)
      (λ (b : k ≡ n). subst (λ (t : List ℕ). IsUtf8 t) (sym (ap (λ (m : ℕ). (get_or es m d).0) b ∙ key d)) p.0)
      (below k n h);
}
  where
    key : (d : Stored) → (get_or es n d).0 ≡ path
    key d = ap (λ (s : Stored). s.0) (get_or_default es n d e lt ∙ sym at) ∙ sym is

    get_same : (i : ℕ) (d : Stored) → i < n → (get_or (take n es) i d).0 ≡ (get_or es i d).0
    get_same i d b = ap (λ (s : Stored). s.0) (get_or-take n es i d b)

-- what holds of paths at one place
pub at_place : (es : List Stored) (n : ℕ) (e : Stored) (path : List ℕ) → n < length es → e ≡ get_or es n e → path ≡ e.0 → ArePaths es → IsUtf8 path × All (λ f. f.0 ≢ path) (take n es)
at_place es n e path lt at is p =
    let key : path ≡ (get_or es n e).0 = is ∙ ap (λ (s : Stored). s.0) at in
    (subst (λ (t : List ℕ). IsUtf8 t) (sym key) (p.texts n e lt), λ k d h same. earlier k d h same)
  where
    earlier : (k : ℕ) (d : Stored) → k < length (take n es) → (get_or (take n es) k d).0 ≢ path
    earlier k d h same =
        let b : k < n = omega (arith, length-take n es) in
        let inside : k < length es = omega arith in
        p.once k n e b lt (ap (λ (s : Stored). s.0) (get_or_default es k e d inside ∙ sym (get_or-take n es k d b)) ∙ same ∙ is ∙ ap (λ (s : Stored). s.0) at)

pub all_paths : (es : List Stored) (n : ℕ) → length es ≤ n → Upto es n → ArePaths es
all_paths es n le u = record { once = λ i j d early h. u.once i j d early (omega arith); texts = λ k d h. u.texts k d (omega arith) }
