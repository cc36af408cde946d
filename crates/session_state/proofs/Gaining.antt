-- Lists in order that take up one item of another list after another.
use Rattle.std.proofs.Common.{◌≡◌, ◌⊎◌, ◌<◌, ◌+◌, ℕ, List, [], ◌∷◌, ◌++◌, Contains, Some, take, get_or, length, inl, inr, sym, ap, subst, ◌∙◌, arith}
use Rattle.std.specs.Prelude.{slice_get}
use Rattle.std.proofs.lemmas.List.{take_more, length-take, get_or-take, get_or_default}
use Rattle.std.proofs.lemmas.List.Elements.{All-contains, All-contains_itself, All-weaker, Contains-push, Contains-push_cases, Contains-append_left}
use Rattle.std.proofs.lemmas.Option.{slice_get-get_or, slice_get_within, get_or_from_slice_get}
use Rattle.slicer_ids.specs.declared.ids.Statement.{Statement}
use Rattle.slicer_ids.specs.Sets.{IsOrderedListOf}
use Rattle.slicer_ids.specs.Order.{StatementBefore}
use Rattle.slicer_ids.proofs.GrowingOrder.{pushed, reworded}
use Rattle.dep_form.specs.declared.access.Access.{Access}
use Rattle.dep_form.specs.declared.facts.Facts.{Facts}
use Rattle.dep_form.specs.Orders.{RiseBy, statement_cmp}
use Rattle.dep_form.specs.Keys.{key_of_access}
use Rattle.session_form.specs.Places.{IsAccess}
use Rattle.session_form.specs.States.{Gains}
use Rattle.session_state.proofs.StatementOrder.{less_before, fall}

-- ---- the first items of a list, and one more
module _ {X : Type 0} (xs : List X) (i : ℕ) (d : X) (lt : i < length xs) where
  cut : take (i + 1) xs ≡ take i xs ++ get_or xs i d ∷ []
  cut = take_more xs i d lt

  pub split : (x : X) → Contains (take (i + 1) xs) x → Contains (take i xs) x ⊎ (get_or xs i d ≡ x)
  split x c = Contains-push_cases (take i xs) (get_or xs i d) x (subst (λ ys. Contains ys x) cut c)

  pub early : (x : X) → Contains (take i xs) x → Contains (take (i + 1) xs) x
  early x c = subst (λ ys. Contains ys x) (sym cut) (Contains-append_left (take i xs) (get_or xs i d ∷ []) x c)

  pub now : Contains (take (i + 1) xs) (get_or xs i d)
  now = subst (λ ys. Contains ys (get_or xs i d)) (sym cut) (Contains-push (take i xs) (get_or xs i d))

-- ---- seeds
pub none_gained : (old more : List Statement) → RiseBy statement_cmp (λ s. s) old → Gains old (Contains (take 0 more)) old
none_gained old more rise = record {
  each = All-weaker (Contains old) (λ t. Contains old t ⊎ Contains (take 0 more) t) (λ t c. inl c) old (All-contains_itself old);
  order = fall old rise;
  whole = λ t h. elim h [ inl c ↦ c | inr m ↦ absurd (omega (arith, m.1, length-take 0 more)) ];
}

pub gain_more : (old mid new more : List Statement) (i : ℕ) (d : Statement) → i < length more → Gains old (Contains (take i more)) mid → Gains mid (λ t. t ≡ get_or more i d) new
    → Gains old (Contains (take (i + 1) more)) new
gain_more old mid new more i d lt before step = record {
  each = All-weaker (λ t. Contains mid t ⊎ (t ≡ get_or more i d)) (λ t. Contains old t ⊎ Contains (take (i + 1) more) t) (λ t h. elim h [
    | inl c ↦ elim (All-contains (λ u. Contains old u ⊎ Contains (take i more) u) mid t before.each c) [ inl o ↦ inl o | inr m ↦ inr (early more i d lt t m) ]
    | inr e ↦ inr (subst (Contains (take (i + 1) more)) (sym e) (now more i d lt))
  ]) new step.each;
  order = step.order;
  whole = λ t h. elim h [
    | inl o ↦ step.whole t (inl (before.whole t (inl o)))
    | inr m ↦ elim (split more i d lt t m) [
      | inl k ↦ step.whole t (inl (before.whole t (inr k)))
      | inr e ↦ step.whole t (inr (sym e))
    ]
  ];
}

-- ---- accesses
abbrev pub IsAccessIn : List (Statement × Access) → Statement → Type 0
IsAccessIn xs s = (a : Access) × Contains {X = Statement × Access} xs (s, a)

pub no_access_yet : (xs : List (Statement × Access)) → IsOrderedListOf StatementBefore [] (IsAccessIn (take 0 xs))
no_access_yet xs = record {
  each = λ k d lt. absurd (omega (arith, lt));
  order = λ i j d lt within. absurd (omega (arith, within));
  whole = λ s h. absurd (omega (arith, h.1.1, length-take 0 xs));
}

pub access_more : (xs : List (Statement × Access)) (i : ℕ) (d : Statement × Access) (all : List Statement) → i < length xs → RiseBy statement_cmp key_of_access xs
    → IsOrderedListOf StatementBefore all (IsAccessIn (take i xs)) → IsOrderedListOf StatementBefore (all ++ (get_or xs i d).0 ∷ []) (IsAccessIn (take (i + 1) xs))
access_more xs i d all lt rise h =
    let x : Statement × Access = get_or xs i d in
    pushed StatementBefore all x.0 (IsAccessIn (take i xs)) (IsAccessIn (take (i + 1) xs)) h
    (λ y p.
    let short : p.1.0 < i = omega (arith, p.1.1, length-take i xs) in
    let e : Statement × Access = (y, p.0) in
    let there : get_or xs p.1.0 e ≡ e = sym (get_or-take i xs p.1.0 e short) ∙ p.1.2 in
    let here : get_or xs i e ≡ x = get_or_default xs i e d lt in
    subst (λ (z : Statement × Access). StatementBefore y z.0) here (subst (λ (z : Statement × Access). StatementBefore z.0 (get_or xs i e).0) there (less_before _ _ (rise p.1.0 i e short lt))))
    (λ y p. (p.0, early xs i d lt (y, p.0) p.1))
    (x.1, now xs i d lt)
    (λ y q. elim (split xs i d lt (y, q.0) q.1) [ inl c ↦ inl (q.0, c) | inr e ↦ inr (ap (λ (z : Statement × Access). z.0) e) ])

pub all_accesses_are : (f : Facts) (all : List Statement) → IsOrderedListOf StatementBefore all (IsAccessIn f.accesses) → IsOrderedListOf StatementBefore all (IsAccess f)
all_accesses_are f all h = reworded StatementBefore all (IsAccessIn f.accesses) (IsAccess f)
    (λ s x. (x.0, (x.1.0, slice_get-get_or f.accesses x.1.0 (s, x.0) x.1.1 ∙ ap (λ (z : Statement × Access). Some z) x.1.2)))
    (λ s x. (x.0, (x.1.0, slice_get_within f.accesses x.1.0 (s, x.0) x.1.1, get_or_from_slice_get f.accesses x.1.0 (s, x.0) (s, x.0) x.1.1)))
    h

pub access_next : (xs : List (Statement × Access)) (i : ℕ) (x : Statement × Access) (all new : List Statement) → i < length xs → RiseBy statement_cmp key_of_access xs → x ≡ get_or xs i x
    → new ≡ all ++ x.0 ∷ [] → IsOrderedListOf StatementBefore all (IsAccessIn (take i xs)) → IsOrderedListOf StatementBefore new (IsAccessIn (take (i + 1) xs))
access_next xs i x all new lt rise is grown h =
    subst (λ (ys : List Statement). IsOrderedListOf StatementBefore ys (IsAccessIn (take (i + 1) xs))) (ap (λ (z : Statement × Access). all ++ z.0 ∷ []) (sym is) ∙ sym grown) (access_more xs i x all lt rise h)
