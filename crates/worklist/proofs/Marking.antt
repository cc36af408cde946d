-- One number more, and one mark less.
use Rattle.std.proofs.Common.{◌≡◌, ℕ, suc, ◌+◌, ◌<◌, Bool, true, false, cond, List, [], ◌∷◌, ◌++◌, length, set, Contains, inl, inr, refl, sym, ap, subst, ◌∙◌, length-append, length-set, get_or-set_same, get_or-set_other, arith}
use Rattle.std.specs.Prelude.{not, count_by}
use Rattle.std.proofs.lemmas.Bool.{cases_eq}
use Rattle.std.proofs.lemmas.List.{append-nil, set-get_or}
use Rattle.std.proofs.lemmas.List.Sums.{sum_by-set, sum_by-cons}
use Rattle.std.proofs.lemmas.List.Elements.{All-weaker, All-push, All-nil, Contains-append_left, Contains-push, Contains-push_cases}
use Rattle.worklists.specs.Growth.{Grows}
use Rattle.worklist.specs.Worklists.{IsWorklist, is_marked}

abbrev pub added : List Bool → List ℕ → ℕ → List ℕ
added marks items n = cond (is_marked marks n) items (items ++ n ∷ [])

module _ (marks : List Bool) (items : List ℕ) (n : ℕ) (within : n < length marks) (t : IsWorklist marks items) where
  stays : (q : ℕ) → is_marked marks q ≡ true → is_marked (set marks n true) q ≡ true
  stays q m = elim (cases_eq q n) [
    | inl is ↦ rw is (get_or-set_same marks n true false within)
    | inr other ↦ get_or-set_other marks n q true false other ∙ m
  ]

  pub worklist_add : IsWorklist (set marks n true) (added marks items n)
  worklist_add = by_mark (is_marked marks n) refl
    where
      by_mark : (b : Bool) → is_marked marks n ≡ b → IsWorklist (set marks n true) (cond b items (items ++ n ∷ []))
      by_mark true h = subst (λ ms. IsWorklist ms items) (sym (ap (set marks n) (sym h) ∙ set-get_or marks n false)) t
      by_mark false h = record {
        below = rw (length-set {A = Bool}) (All-push (λ q. q < length marks) items n t.below within);
        marked = λ q m. elim (cases_eq q n) [
          | inl is ↦ subst (λ r. Contains (items ++ n ∷ []) r) (sym is) (Contains-push items n)
          | inr other ↦ Contains-append_left items (n ∷ []) q (t.marked q (sym (get_or-set_other marks n q true false other) ∙ m))
        ];
        listed = All-push (λ q. is_marked (set marks n true) q ≡ true) items n (All-weaker (λ q. is_marked marks q ≡ true) (λ q. is_marked (set marks n true) q ≡ true) stays items t.listed) (get_or-set_same marks n true false within);
        room = omega (arith, sum_by-set (λ b. cond (not b) 1 0) marks n true false within, length-set marks n true, h, length-append items (n ∷ []), t.room, unmarked);
      }
        where
          unmarked : ◌≡◌ {A = ℕ} (cond (not (is_marked marks n)) 1 0) 1
          unmarked = rw h refl

  pub grows_add : Grows items (added marks items n) (λ q. q ≡ n)
  grows_add = by_mark (is_marked marks n) refl
    where
      by_mark : (b : Bool) → is_marked marks n ≡ b → Grows items (cond b items (items ++ n ∷ [])) (λ q. q ≡ n)
      by_mark true h = record { front = ([], sym (append-nil items)); all = λ q is. rw is (t.marked n h); only = λ q c. inl c }
      by_mark false h = record { front = (n ∷ [], refl); all = λ q is. rw is (Contains-push items n); only = λ q c. elim (Contains-push_cases items n q c) [ inl c ↦ inl c | inr is ↦ inr (sym is) ] }

-- with no mark nothing is listed
one_more : (marks : List Bool) → count_by not (false ∷ marks) ≡ 1 + count_by not marks
one_more marks = sum_by-cons (λ b. cond (not b) 1 0) false marks

all_unmarked : (marks : List Bool) → ((n : ℕ) → is_marked marks n ≡ true → ⊥) → count_by not marks ≡ length marks
all_unmarked [] none = refl
all_unmarked (true ∷ marks) none = absurd (none 0 refl)
all_unmarked (false ∷ marks) none = let e = all_unmarked marks (λ n h. none (suc n) h) in omega (arith, one_more marks)

pub nothing_listed : (marks : List Bool) → ((n : ℕ) → is_marked marks n ≡ true → ⊥) → IsWorklist marks []
nothing_listed marks none = record {
  below = All-nil (λ n. n < length marks);
  marked = λ n m. absurd (none n m);
  listed = All-nil (λ n. is_marked marks n ≡ true);
  room = omega (arith, all_unmarked marks none);
}
