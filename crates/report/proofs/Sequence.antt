-- Texts written one after the other.
use Rattle.std.proofs.Common.{rules, arith, ◌≡◌, ◌<◌, ◌≤◌, ◌+◌, ◌++◌, ℕ, Bool, true, List, [], ◌∷◌, Option, Some, None, suc, inl, inr, Result, Ok, Err, length, take, length-append, refl, sym, ap, subst, ◌∙◌, append_assoc}
use Rattle.std.proofs.lemmas.List.{take-append-le, take-append-drop, take_all, append-nil}
use Rattle.std.proofs.lemmas.Bool.{cases_lt}
use Rattle.std.proofs.lemmas.Grind.{flat_map-append}
use Rattle.std.proofs.Math.Seq.{take-append-add, take-suc}
use Rattle.std.specs.Prelude.{get_or, drop}
use Rattle.std.specs.List.{flat_map}
use Rattle.edge_io.specs.Faults.{Rose}
use Rattle.edge_io.specs.Reads.{appended}
use Rattle.edge_io.specs.declared.sink.SinkError.{SinkError}
use Rattle.report.specs.Writing.{Wrote}

appended_twice : (a b : List ℕ) (o : Option (List ℕ)) → appended b (appended a o) ≡ appended (a ++ b) o
appended_twice a b None = refl
appended_twice a b (Some before) = ap Some (append_assoc before a b)

appended_none : (o : Option (List ℕ)) → appended [] o ≡ o
appended_none None = refl
appended_none (Some before) = ap Some (append-nil before)

rose_later : (a b c : ℕ) → a ≤ b → Rose b c → Rose a c
rose_later a b c le r = search (rules, arith)

-- the text of one more item, and what is left after it
pub flat_more : {A : Type 0} (f : A → List ℕ) (xs : List A) (k : ℕ) (d : A) → k < length xs → flat_map f (take (k + 1) xs) ≡ flat_map f (take k xs) ++ f (get_or xs k d)
flat_more f xs k d h =
    ap (λ n. flat_map f (take n xs)) (plus_one k) ∙ ap (flat_map f) (take-suc xs k d h) ∙ flat_map-append f (take k xs) (get_or xs k d ∷ [])
    ∙ ap (λ ys. flat_map f (take k xs) ++ ys) (append-nil (f (get_or xs k d)))
  where
    plus_one : (n : ℕ) → n + 1 ≡ suc n
    plus_one n = omega arith

flat_cut : {A : Type 0} (f : A → List ℕ) (xs : List A) (k : ℕ) → flat_map f xs ≡ flat_map f (take k xs) ++ flat_map f (drop k xs)
flat_cut f xs k = ap (flat_map f) (sym (take-append-drop k xs)) ∙ flat_map-append f (take k xs) (drop k xs)

pub taken_all : {A : Type 0} (xs : List A) (k : ℕ) → (k < length xs → ⊥) → take k xs ≡ xs
taken_all xs k h = take_all k xs (elim (cases_lt k (length xs)) [ inl lt ↦ absurd (h lt) | inr ge ↦ ge ])

module _ {K : Type 0} (written : K → Option (List ℕ)) (label : K → List ℕ) (faults : K → ℕ) (steady : K → Bool) where
  joined : (a b : List ℕ) (u : Unit {0}) (r : Result (Unit {0}) SinkError) (s t v : K) → Wrote written label faults steady a (Ok u) s t →
      Wrote written label faults steady b r t v → Wrote written label faults steady (a ++ b) r s v
  joined a b u (Ok w) s t v h g = record {
    whole = g.whole ∙ ap (appended b) h.whole ∙ appended_twice a b (written s);
    part = tt;
    same_label = g.same_label ∙ h.same_label;
    count = omega (arith, h.count, g.count);
    fault = λ e. absurd (search (rules, e));
    same_steady = g.same_steady ∙ h.same_steady;
    still = λ e. g.still (h.same_steady ∙ e) ∙ h.still e;
    sure = λ e f. absurd (search (rules, f));
  }
  joined a b u (Err x) s t v h g = record {
    whole = tt;
    part = (
      length a + g.part.0,
      subst (λ n. length a + g.part.0 < n) (sym (length-append a b)) (omega (arith, g.part.1)),
      g.part.2 ∙ ap (appended (take g.part.0 b)) h.whole ∙ appended_twice a (take g.part.0 b) (written s)
          ∙ ap (λ x. appended x (written s)) (sym (take-append-add a b g.part.0)),
    );
    same_label = g.same_label ∙ h.same_label;
    count = omega (arith, h.count, g.count);
    fault = λ e. rose_later (faults s) (faults t) (faults v) h.count (g.fault e);
    same_steady = g.same_steady ∙ h.same_steady;
    still = λ e. g.still (h.same_steady ∙ e) ∙ h.still e;
    sure = λ e f. g.sure (h.same_steady ∙ e) f;
  }

  -- a text and then another
  pub then_wrote : (a b : List ℕ) (u : Unit {0}) (q r : Result (Unit {0}) SinkError) (s t v : K) → q ≡ Ok u → Wrote written label faults steady a q s t →
      Wrote written label faults steady b r t v → Wrote written label faults steady (a ++ b) r s v
  then_wrote a b u q r s t v e h g = joined a b u r s t v (subst (λ x. Wrote written label faults steady a x s t) e h) g

  ended : (a b : List ℕ) (x : SinkError) (s t : K) → Wrote written label faults steady a (Err x) s t → Wrote written label faults steady (a ++ b) (Err x) s t
  ended a b x s t h = record {
    whole = tt;
    part = (
      h.part.0,
      subst (λ n. h.part.0 < n) (sym (length-append a b)) (omega (arith, h.part.1)),
      h.part.2 ∙ ap (λ y. appended y (written s)) (sym (take-append-le h.part.0 a b (omega (arith, h.part.1)))),
    );
    same_label = h.same_label;
    count = h.count;
    fault = h.fault;
    same_steady = h.same_steady;
    still = h.still;
    sure = h.sure;
  }

  -- .. where the first was refused
  pub stopped : (a b : List ℕ) (x : SinkError) (q r : Result (Unit {0}) SinkError) (s t : K) → q ≡ Err x → r ≡ Err x → Wrote written label faults steady a q s t →
      Wrote written label faults steady (a ++ b) r s t
  stopped a b x q r s t e f h =
      subst (λ y. Wrote written label faults steady (a ++ b) y s t) (sym f) (ended a b x s t (subst (λ y. Wrote written label faults steady a y s t) e h))

  -- no text
  pub wrote_none : (u : Unit {0}) (s : K) → Wrote written label faults steady [] (Ok u) s s
  wrote_none u s = record {
    whole = sym (appended_none (written s));
    part = tt;
    same_label = refl;
    count = omega arith;
    fault = λ e. absurd (search (rules, e));
    same_steady = refl;
    still = λ e. refl;
    sure = λ e f. absurd (search (rules, f));
  }

  -- ---- the texts of a list, item by item
  module _ {A : Type 0} (f : A → List ℕ) (xs : List A) (k : ℕ) where
    pub one_more : (d : A) (u : Unit {0}) (w : Unit {0}) (q : Result (Unit {0}) SinkError) (s t v : K) → k < length xs → q ≡ Ok w →
        Wrote written label faults steady (flat_map f (take k xs)) (Ok u) s t → Wrote written label faults steady (f (get_or xs k d)) q t v →
        Wrote written label faults steady (flat_map f (take (k + 1) xs)) (Ok w) s v
    one_more d u w q s t v lt e h g =
        subst (λ ys. Wrote written label faults steady ys (Ok w) s v) (sym (flat_more f xs k d lt))
        (joined (flat_map f (take k xs)) (f (get_or xs k d)) u (Ok w) s t v h (subst (λ y. Wrote written label faults steady (f (get_or xs k d)) y t v) e g))

    pub one_refused : (d : A) (u : Unit {0}) (x : SinkError) (q r : Result (Unit {0}) SinkError) (s t v : K) → k < length xs → q ≡ Err x → r ≡ Err x →
        Wrote written label faults steady (flat_map f (take k xs)) (Ok u) s t → Wrote written label faults steady (f (get_or xs k d)) q t v →
        Wrote written label faults steady (flat_map f xs) r s v
    one_refused d u x q r s t v lt e o h g =
        let so_far = joined (flat_map f (take k xs)) (f (get_or xs k d)) u q s t v h g in
        subst (λ ys. Wrote written label faults steady ys r s v) (sym (flat_cut f xs (k + 1)))
        (stopped (flat_map f (take (k + 1) xs)) (flat_map f (drop (k + 1) xs)) x q r s v e o
        (subst (λ ys. Wrote written label faults steady ys q s v) (sym (flat_more f xs k d lt)) so_far))

    pub all_done : (u : Unit {0}) (s t : K) → (k < length xs → ⊥) → Wrote written label faults steady (flat_map f (take k xs)) (Ok u) s t →
        Wrote written label faults steady (flat_map f xs) (Ok u) s t
    all_done u s t ge h = subst (λ ys. Wrote written label faults steady (flat_map f ys) (Ok u) s t) (taken_all xs k ge) h
