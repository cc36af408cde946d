-- One node more, and one mark less.
use Rattle.std.proofs.Common.{◌≡◌, ℕ, suc, ◌+◌, ◌<◌, Bool, true, false, cond, List, [], ◌∷◌, ◌++◌, length, set, Contains, inl, inr, refl, sym, ap, subst, ◌∙◌, length-append, length-set, get_or-set_same, get_or-set_other, arith}
use Rattle.std.specs.Prelude.{not, count_by}
use Rattle.std.proofs.lemmas.Bool.{cases_eq}
use Rattle.std.proofs.lemmas.List.{append-nil, set-get_or}
use Rattle.std.proofs.lemmas.List.Sums.{sum_by-set, sum_by-cons}
use Rattle.std.proofs.lemmas.List.Elements.{All-weaker, All-push, All-nil, Contains-append_left, Contains-push, Contains-push_cases}
use Rattle.worklists.specs.Growth.{Grows}
use Rattle.slicer_ids.specs.declared.ids.NodeId.{NodeId}
use Rattle.thin_slice.specs.Marks.{IsMarkedList, is_marked}

-- nodes of one number are one
pub same_node : (a b : NodeId) → a.0 ≡ b.0 → a ≡ b
same_node a b e = ap (λ n. record { 0 = n }) e

abbrev pub added : List Bool → List NodeId → NodeId → List NodeId
added marks nodes n = cond (is_marked marks n.0) nodes (nodes ++ n ∷ [])

module _ (marks : List Bool) (nodes : List NodeId) (n : NodeId) (within : n.0 < length marks) (t : IsMarkedList marks nodes) where
  stays : (q : NodeId) → is_marked marks q.0 ≡ true → is_marked (set marks n.0 true) q.0 ≡ true
  stays q m = elim (cases_eq q.0 n.0) [
    | inl is ↦ rw is (get_or-set_same marks n.0 true false within)
    | inr other ↦ get_or-set_other marks n.0 q.0 true false other ∙ m
  ]

  pub listed_add : IsMarkedList (set marks n.0 true) (added marks nodes n)
  listed_add = by_mark (is_marked marks n.0) refl
    where
      by_mark : (b : Bool) → is_marked marks n.0 ≡ b → IsMarkedList (set marks n.0 true) (cond b nodes (nodes ++ n ∷ []))
      by_mark true h = subst (λ ms. IsMarkedList ms nodes) (sym (ap (set marks n.0) (sym h) ∙ set-get_or marks n.0 false)) t
      by_mark false h = record {
        below = rw (length-set {A = Bool}) (All-push (λ (q : NodeId). q.0 < length marks) nodes n t.below within);
        marked = λ q m. elim (cases_eq q.0 n.0) [
          | inl is ↦ subst (λ r. Contains (nodes ++ n ∷ []) r) (sym (same_node q n is)) (Contains-push nodes n)
          | inr other ↦ Contains-append_left nodes (n ∷ []) q (t.marked q (sym (get_or-set_other marks n.0 q.0 true false other) ∙ m))
        ];
        listed = All-push (λ (q : NodeId). is_marked (set marks n.0 true) q.0 ≡ true) nodes n (All-weaker (λ (q : NodeId). is_marked marks q.0 ≡ true) (λ (q : NodeId). is_marked (set marks n.0 true) q.0 ≡ true) stays nodes t.listed) (get_or-set_same marks n.0 true false within);
        room = omega (arith, sum_by-set (λ b. cond (not b) 1 0) marks n.0 true false within, length-set marks n.0 true, length-append nodes (n ∷ []), t.room, unmarked);
      }
        where
          unmarked : ◌≡◌ {A = ℕ} (cond (not (is_marked marks n.0)) 1 0) 1
          unmarked = rw h refl

  pub grows_add : Grows nodes (added marks nodes n) (λ q. q ≡ n)
  grows_add = by_mark (is_marked marks n.0) refl
    where
      by_mark : (b : Bool) → is_marked marks n.0 ≡ b → Grows nodes (cond b nodes (nodes ++ n ∷ [])) (λ q. q ≡ n)
      by_mark true h = record { front = ([], sym (append-nil nodes)); all = λ q is. rw is (t.marked n h); only = λ q c. inl c }
      by_mark false h = record { front = (n ∷ [], refl); all = λ q is. rw is (Contains-push nodes n); only = λ q c. elim (Contains-push_cases nodes n q c) [ inl c ↦ inl c | inr is ↦ inr (sym is) ] }

-- with no mark nothing is listed
one_more : (marks : List Bool) → count_by not (false ∷ marks) ≡ 1 + count_by not marks
one_more marks = sum_by-cons (λ b. cond (not b) 1 0) false marks

all_unmarked : (marks : List Bool) → ((n : NodeId) → is_marked marks n.0 ≡ true → ⊥) → count_by not marks ≡ length marks
all_unmarked [] none = refl
all_unmarked (true ∷ marks) none = absurd (none (record { 0 = 0 }) refl)
all_unmarked (false ∷ marks) none = let e = all_unmarked marks (λ n h. none (record { 0 = suc n.0 }) h) in omega (arith, one_more marks)

pub nothing_listed : (marks : List Bool) → ((n : NodeId) → is_marked marks n.0 ≡ true → ⊥) → IsMarkedList marks []
nothing_listed marks none = record {
  below = All-nil (λ (n : NodeId). n.0 < length marks);
  marked = λ n m. absurd (none n m);
  listed = All-nil (λ (n : NodeId). is_marked marks n.0 ≡ true);
  room = omega (arith, all_unmarked marks none);
}
