-- One more pair of a table.
use Rattle.std.proofs.Common.{◌≡◌, ◌≢◌, ℕ, ◌*◌, ◌<◌, Bool, true, false, cond, List, [], ◌∷◌, ◌++◌, length, set, get_or, Contains, inl, inr, refl, sym, ap, subst, ◌∙◌, length-append, length-set, get_or-set_same, get_or-set_other, arith}
use Rattle.std.specs.Prelude.{not}
use Rattle.std.proofs.lemmas.Bool.{cases_eq, false≢true}
use Rattle.std.proofs.lemmas.List.{append-nil, set-get_or}
use Rattle.std.proofs.lemmas.List.Sums.{sum_by-set}
use Rattle.std.proofs.lemmas.List.Elements.{All-weaker, All-push, Contains-append_left, Contains-push, Contains-push_cases}
use Rattle.std.proofs.lemmas.List.Quantifiers.{all_pairs_push}
use Rattle.std.proofs.lemmas.Nat.{same_from_place, rows}
use Rattle.worklists.specs.Growth.{Grows}
use Rattle.plain_slice.specs.declared.table.Pair.{Pair}
use Rattle.plain_slice.specs.Tables.{place_of, is_in, IsTable, IsBelow, pair}

abbrev pub marked : ℕ → List Bool → Pair → List Bool
marked size marks p = set marks (place_of size p) true

abbrev pub added : ℕ → List Bool → List Pair → Pair → List Pair
added size marks pairs p = cond (is_in size marks p) pairs (pairs ++ p ∷ [])

place_of-lt : (size : ℕ) (p : Pair) → p.node < size → p.place < size → place_of size p < size * size
place_of-lt size p n e = grind (arith, rows)

same_pair : (size : ℕ) (p q : Pair) → p.place < size → q.place < size → place_of size p ≡ place_of size q → p ≡ q
same_pair size p q a b e = let h = same_from_place p.node p.place q.node q.place size a b e in ap (λ n. pair n p.place) h.0 ∙ ap (λ x. pair q.node x) h.1

module _ (size : ℕ) (marks : List Bool) (pairs : List Pair) (p : Pair) (n : p.node < size) (e : p.place < size) (t : IsTable size marks pairs) where
  pub table_add : IsTable size (marked size marks p) (added size marks pairs p)
  table_add = by_mark (is_in size marks p) refl
    where
      by_mark : (b : Bool) → is_in size marks p ≡ b → IsTable size (marked size marks p) (cond b pairs (pairs ++ p ∷ []))
      by_mark true h = subst (λ ms. IsTable size ms pairs) (sym (ap (set marks (place_of size p)) (sym h) ∙ set-get_or marks (place_of size p) false)) t
      by_mark false h = record {
        len = length-set marks (place_of size p) true ∙ t.len;
        below = All-push (IsBelow size) pairs p t.below (n, e);
        marked = λ q ab m. elim (cases_eq (place_of size q) (place_of size p)) [
          | inl is ↦ subst (λ r. Contains (pairs ++ p ∷ []) r) (sym (same_pair size q p ab.1 e is)) (Contains-push pairs p)
          | inr other ↦ Contains-append_left pairs (p ∷ []) q (t.marked q ab (sym (get_or-set_other marks (place_of size p) (place_of size q) true false other) ∙ m))
        ];
        listed = All-push (λ q. is_in size (marked size marks p) q ≡ true) pairs p (All-weaker (λ q. is_in size marks q ≡ true) (λ q. is_in size (marked size marks p) q ≡ true) stays pairs t.listed) (get_or-set_same marks (place_of size p) true false within);
        once = all_pairs_push (λ q r. q ≢ r) pairs p t.once (λ k d lt is. false≢true (sym h ∙ subst (λ r. is_in size marks r ≡ true) is (t.listed k d lt)));
        room = omega (arith, sum_by-set (λ b. cond (not b) 1 0) marks (place_of size p) true false within, h, length-append pairs (p ∷ []), t.room, unmarked);
      }
        where
          within : place_of size p < length marks
          within = omega (arith, place_of-lt size p n e, t.len)

          stays : (q : Pair) → is_in size marks q ≡ true → is_in size (marked size marks p) q ≡ true
          stays q m = elim (cases_eq (place_of size q) (place_of size p)) [
            | inl is ↦ rw is (get_or-set_same marks (place_of size p) true false within)
            | inr other ↦ get_or-set_other marks (place_of size p) (place_of size q) true false other ∙ m
          ]

          unmarked : ◌≡◌ {A = ℕ} (cond (not (is_in size marks p)) 1 0) 1
          unmarked = rw h refl

  pub grows_add : Grows pairs (added size marks pairs p) (λ q. q ≡ p)
  grows_add = by_mark (is_in size marks p) refl
    where
      by_mark : (b : Bool) → is_in size marks p ≡ b → Grows pairs (cond b pairs (pairs ++ p ∷ [])) (λ q. q ≡ p)
      by_mark true h = record { front = ([], sym (append-nil pairs)); all = λ q is. rw is (t.marked p (n, e) h); only = λ q c. inl c }
      by_mark false h = record { front = (p ∷ [], refl); all = λ q is. rw is (Contains-push pairs p); only = λ q c. elim (Contains-push_cases pairs p q c) [ inl c ↦ inl c | inr is ↦ inr (sym is) ] }

pub table_below : (size : ℕ) (marks : List Bool) (pairs : List Pair) (p : Pair) (i : ℕ) → IsTable size marks pairs → i < length pairs → p ≡ get_or pairs i p → IsBelow size p
table_below size marks pairs p i t lt is = subst (IsBelow size) (sym is) (t.below i p lt)
