-- The places of members, class by class.
use Rattle.std.proofs.Common.{◌≡◌, ℕ, ◌+◌, ◌<◌, ◌≤◌, ◌⊎◌, inl, inr, List, [], ◌∷◌, ◌++◌, length, get_or, refl, sym, ap, subst, ◌∙◌, arith, Some, Contains}
use Rattle.std.specs.Prelude.{All, sum_by, take}
use Rattle.std.proofs.lemmas.Bool.{cases_lt}
use Rattle.std.proofs.lemmas.Option.{slice_get_read, slice_get_within, slice_get_cases}
use Rattle.std.proofs.lemmas.List.Sums.{sum_by_more}
use Rattle.std.proofs.lemmas.List.Elements.{All-contains}
use Rattle.slicer_ids.specs.Sets.{IsOrderedListOf}
use Rattle.slicer_ids.specs.declared.ids.ClassId.{ClassId}
use Rattle.slicer_ids.proofs.GrowingOrder.{pushed, reworded, without}
use Rattle.class_form.specs.Classes.{IsClass}
use Rattle.class_form.specs.declared.class_file.ClassFile.{ClassFile}
use Rattle.hierarchy.specs.declared.members.Kind.{Kind}
use Rattle.hierarchy.specs.Places.{members_of, count_members, IsPlace, PlaceBefore, IsPlaceUpTo}
use Rattle.hierarchy.proofs.Rows.{same_class}

same_place : (c i : ℕ) (p : ClassId × ℕ) → p.0.0 ≡ c → p.1 ≡ i → ◌≡◌ {A = ClassId × ℕ} (record { 0 = c }, i) p
same_place c i p e f = ap (λ n. (record { 0 = n }, i)) (sym e) ∙ ap (λ n. (p.0, n)) (sym f)

module _ (kind : Kind) (classes : List ClassFile) where
  pub no_places : (places : List (ClassId × ℕ)) → places ≡ [] → IsOrderedListOf PlaceBefore places (IsPlaceUpTo kind classes 0 0)
  no_places places nil = without PlaceBefore places (IsPlaceUpTo kind classes 0 0) nil (λ p h. elim h.1 [ inl l ↦ omega (arith, l) | inr l ↦ omega (arith, l.1) ])

  pub one_place : (c i : ℕ) (k : ClassFile) (places : List (ClassId × ℕ)) → IsClass classes c k → i < length (members_of kind k)
      → IsOrderedListOf PlaceBefore places (IsPlaceUpTo kind classes c i) → IsOrderedListOf PlaceBefore (places ++ (record { 0 = c }, i) ∷ []) (IsPlaceUpTo kind classes c (i + 1))
  one_place c i k places at l h = pushed PlaceBefore places (record { 0 = c }, i) (IsPlaceUpTo kind classes c i) (IsPlaceUpTo kind classes c (i + 1)) h (λ p b. b.1)
      (λ p b. (b.0, elim b.1 [ inl lt ↦ inl lt | inr e ↦ inr (e.0, omega (arith, e.1)) ]))
      ((k, at, l), inr (refl, omega arith))
      (λ p b. elim b.1 [
        | inl lt ↦ inl (b.0, inl lt)
        | inr e ↦ elim (cases_lt p.1 i) [
          | inl lt ↦ inl (b.0, inr (e.0, lt))
          | inr ge ↦ inr (same_place c i p e.0 (omega (arith, e.1)))
        ]
      ])

  pub class_done : (c : ℕ) (k : ClassFile) (places : List (ClassId × ℕ)) → IsClass classes c k
      → IsOrderedListOf PlaceBefore places (IsPlaceUpTo kind classes c (length (members_of kind k))) → IsOrderedListOf PlaceBefore places (IsPlaceUpTo kind classes (c + 1) 0)
  class_done c k places at h = reworded PlaceBefore places (IsPlaceUpTo kind classes c (length (members_of kind k))) (IsPlaceUpTo kind classes (c + 1) 0)
      (λ p b. (b.0, elim b.1 [ inl lt ↦ inl (omega (arith, lt)) | inr e ↦ inl (omega (arith, e.0)) ]))
      (λ p b. (
        b.0,
        elim b.1 [
          | inl lt ↦ elim (cases_lt p.0.0 c) [
            | inl below ↦ inl below
            | inr ge ↦
                let e : p.0.0 ≡ c = omega (arith, lt) in
                inr (e, subst (λ (q : ClassFile). p.1 < length (members_of kind q)) (same_class classes c b.0.0 k (subst (λ n. IsClass classes n b.0.0) e b.0.1) at) b.0.2)
          ]
          | inr e ↦ absurd (omega (arith, e.1))
        ],
      ))
      h

  pub all_done : (n : ℕ) (places : List (ClassId × ℕ)) → length classes ≤ n → IsOrderedListOf PlaceBefore places (IsPlaceUpTo kind classes n 0) → IsOrderedListOf PlaceBefore places (IsPlace kind classes)
  all_done n places l h = reworded PlaceBefore places (IsPlaceUpTo kind classes n 0) (IsPlace kind classes) (λ p b. b.0)
      (λ p b. (b, inl (let w = slice_get_within classes p.0.0 b.0 b.1 in omega (arith, w)))) h

pub class_at : (classes : List ClassFile) (c : ℕ) (k : ClassFile) → c < length classes → k ≡ get_or classes c k → IsClass classes c k
class_at classes c k l e = slice_get_read classes (length classes) c k refl l e

pub counted_more : (kind : Kind) (classes : List ClassFile) (c m n : ℕ) → c < length classes → m ≡ count_members kind (take c classes)
    → ((k : ClassFile) → IsClass classes c k → n ≡ m + length (members_of kind k)) → n ≡ count_members kind (take (c + 1) classes)
counted_more kind classes c m n l e more = elim (slice_get_cases classes c).1 [
  | inl r ↦
      let s = sum_by_more (λ k. length (members_of kind k)) classes c r.0 l in
      let h = more r.0 r.2 in
      let p = ap (λ k. length (members_of kind k)) r.3 in
      omega (arith, s, h, p, e)
  | inr past ↦ absurd (omega (arith, past.0))
]
