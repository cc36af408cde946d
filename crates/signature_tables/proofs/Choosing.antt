-- Choices of classes, one pair of a signature and a class after another.
use Rattle.std.proofs.Common.{◌≡◌, ◌⊎◌, ◌<◌, ◌≤◌, ◌+◌, ℕ, List, [], ◌∷◌, ◌++◌, length, Option, Some, Contains, inl, inr, refl, sym, ap, subst, ◌∙◌, arith}
use Rattle.std.specs.Prelude.{slice_get}
use Rattle.std.proofs.lemmas.Bool.{cases_lt}
use Rattle.std.proofs.lemmas.Option.{same_Some, slice_get_within}
use Rattle.std.proofs.lemmas.List.Elements.{All-push, All-weaker, All-contains, Contains-push, Contains-append_left, Contains-push_cases}
use Rattle.std.proofs.lemmas.List.Quantifiers.{all_pairs_push}
use Rattle.slicer_ids.specs.declared.ids.ClassId.{ClassId}
use Rattle.slicer_ids.specs.declared.ids.MethodId.{MethodId}
use Rattle.class_form.specs.declared.class_file.ClassFile.{ClassFile}
use Rattle.hierarchy.specs.declared.tree.Select.TheVariants.{Outside}
use Rattle.hierarchy.specs.Selections.{IsSelection}
use Rattle.constraint_form.specs.ConstraintSystems.{PairBefore}
use Rattle.signature_tables.specs.Selections.{Choice, ChoiceBefore, IsChosen, IsChoiceOf, IsAsked, AreChoicesUpTo, AreChoices}

-- the pair before the next is the pair itself, or one before it
pair_cases : (h d g c : ℕ) → PairBefore (h, d) (g, c + 1) → PairBefore (h, d) (g, c) ⊎ ((h ≡ g) × (d ≡ c))
pair_cases h d g c (inl lt) = inl (inl lt)
pair_cases h d g c (inr (e, lt)) = elim (cases_lt d c) [ inl less ↦ inl (inr (e, less)) | inr le ↦ inr (e, omega (arith, le, lt)) ]

pair_wider : (h d g c : ℕ) → PairBefore (h, d) (g, c) → PairBefore (h, d) (g, c + 1)
pair_wider h d g c (inl lt) = inl lt
pair_wider h d g c (inr (e, lt)) = inr (e, omega (arith, lt))

pair_asym : (h d g c : ℕ) → PairBefore (h, d) (g, c) → (h ≡ g) → (d ≡ c) → ⊥
pair_asym h d g c (inl lt) e f = omega (arith, lt, e)
pair_asym h d g c (inr (x, lt)) e f = omega (arith, lt, f)

module _ (classes : List ClassFile) (gs : List (List ℕ × List ℕ)) where
  -- what was asked stays so where a choice for another pair is added
  kept : (xs : List Choice) (x : Choice) (nd : List ℕ × List ℕ) (g : ℕ) (c : ClassId) → ((x.0 ≡ g) → (x.1 ≡ c) → ⊥) → IsAsked classes xs nd g c → IsAsked classes (xs ++ x ∷ []) nd g c
  kept xs x nd g c other (inl (o, has)) = inl (o, Contains-append_left xs (x ∷ []) (g, c, o) has)
  kept xs x nd g c other (inr (none, out)) = inr (
    λ o has. elim (Contains-push_cases xs x (g, c, o) has) [
      | inl before ↦ none o before
      | inr e ↦ other (ap (λ (y : Choice). y.0) e) (ap (λ (y : Choice). y.1) e)
    ],
    out,
  )

  pub chosen : (g c : ℕ) (o : Option MethodId) (nd : List ℕ × List ℕ) (xs : List Choice) → slice_get gs g ≡ Some nd → c < length classes → IsChosen classes nd c o →
      AreChoicesUpTo classes gs g c xs → AreChoicesUpTo classes gs g (c + 1) (xs ++ (g, record { 0 = c }, o) ∷ [])
  chosen g c o nd xs at lt is h = record {
    each = All-push (λ (x : Choice). IsChoiceOf classes gs x × PairBefore (x.0, x.1.0) (g, c + 1)) xs (g, record { 0 = c }, o)
        (All-weaker (λ (x : Choice). IsChoiceOf classes gs x × PairBefore (x.0, x.1.0) (g, c)) (λ (x : Choice). IsChoiceOf classes gs x × PairBefore (x.0, x.1.0) (g, c + 1))
        (λ x y. (y.0, pair_wider x.0 x.1.0 g c y.1)) xs h.each)
        ((nd, at, lt, is), inr (refl, omega arith));
    order = all_pairs_push ChoiceBefore xs (g, record { 0 = c }, o) h.order (λ k d within. (h.each k d within).1);
    asked = λ md f d there below before. elim (pair_cases f d.0 g c before) [
      | inl earlier ↦ kept xs (g, record { 0 = c }, o) md f d (λ e q. pair_asym f d.0 g c earlier (sym e) (sym (ap (λ (z : ClassId). z.0) q))) (h.asked md f d there below earlier)
      | inr (e, q) ↦
          let class : ◌≡◌ {A = ClassId} (record { 0 = c }) d = ap (λ n. record { 0 = n }) (sym q) in
          let x : Choice = (g, record { 0 = c }, o) in
          inl (o, subst (λ n. Contains (xs ++ x ∷ []) (n, d, o)) (sym e) (subst (λ (z : ClassId). Contains (xs ++ x ∷ []) (g, z, o)) class (Contains-push xs x)))
    ];
  }

  pub none_chosen : (g c : ℕ) (nd : List ℕ × List ℕ) (xs : List Choice) → slice_get gs g ≡ Some nd → IsSelection classes c nd.0 nd.1 Outside →
      AreChoicesUpTo classes gs g c xs → AreChoicesUpTo classes gs g (c + 1) xs
  none_chosen g c nd xs at out h = record {
    each = All-weaker (λ (x : Choice). IsChoiceOf classes gs x × PairBefore (x.0, x.1.0) (g, c)) (λ (x : Choice). IsChoiceOf classes gs x × PairBefore (x.0, x.1.0) (g, c + 1))
        (λ x y. (y.0, pair_wider x.0 x.1.0 g c y.1)) xs h.each;
    order = h.order;
    asked = λ md f d there below before. elim (pair_cases f d.0 g c before) [
      | inl earlier ↦ h.asked md f d there below earlier
      | inr (e, q) ↦
          let same : nd ≡ md = same_Some nd md (sym at ∙ subst (λ n. slice_get gs n ≡ Some md) e there) in
          inr (
            λ o has. pair_asym f d.0 g c (All-contains (λ (x : Choice). IsChoiceOf classes gs x × PairBefore (x.0, x.1.0) (g, c)) xs (f, d, o) h.each has).1 e q,
            subst (λ z. IsSelection classes d.0 z.0 z.1 Outside) same (subst (λ n. IsSelection classes n nd.0 nd.1 Outside) (sym q) out),
          )
    ];
  }

  pub signature_done : (g count : ℕ) (xs : List Choice) → count ≡ length classes → AreChoicesUpTo classes gs g count xs → AreChoicesUpTo classes gs (g + 1) 0 xs
  signature_done g count xs e h = record {
    each = All-weaker (λ (x : Choice). IsChoiceOf classes gs x × PairBefore (x.0, x.1.0) (g, count)) (λ (x : Choice). IsChoiceOf classes gs x × PairBefore (x.0, x.1.0) (g + 1, 0))
        (λ x y. (y.0, elim y.1 [ inl lt ↦ inl (omega (arith, lt)) | inr (f, lt) ↦ inl (omega (arith, f)) ])) xs h.each;
    order = h.order;
    asked = λ nd f d there below before. h.asked nd f d there below (earlier f d.0 below before);
  }
    where
      earlier : (f d : ℕ) → d < length classes → PairBefore (f, d) (g + 1, 0) → PairBefore (f, d) (g, count)
      earlier f d below (inl lt) = elim (cases_lt f g) [ inl less ↦ inl less | inr le ↦ inr (omega (arith, le, lt), omega (arith, e, below)) ]
      earlier f d below (inr (x, lt)) = absurd (omega (arith, lt))

  pub no_choices : (xs : List Choice) → xs ≡ [] → AreChoicesUpTo classes gs 0 0 xs
  no_choices xs nil = subst (AreChoicesUpTo classes gs 0 0) (sym nil) (record {
    each = λ k d lt. absurd (omega (arith, lt));
    order = λ i j d lt within. absurd (omega (arith, within));
    asked = λ nd f d there below before. absurd (elim before [ inl lt ↦ omega (arith, lt) | inr (e, lt) ↦ omega (arith, lt) ]);
  })

  pub all_chosen : (count : ℕ) (xs : List Choice) → length gs ≤ count → AreChoicesUpTo classes gs count 0 xs → AreChoices classes gs xs
  all_chosen count xs le h = record {
    each = All-weaker (λ (x : Choice). IsChoiceOf classes gs x × PairBefore (x.0, x.1.0) (count, 0)) (IsChoiceOf classes gs) (λ x y. y.0) xs h.each;
    order = h.order;
    asked = λ nd g c at below. h.asked nd g c at below (inl (omega (arith, slice_get_within gs g nd at, le)));
  }
