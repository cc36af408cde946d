-- Lists that grow in order.
use Rattle.std.proofs.Common.{◌≡◌, ◌<◌, ◌≤◌, ◌+◌, ℕ, suc, List, [], ◌∷◌, ◌++◌, length, take, get_or, AllPairs, Contains, ◌⊎◌, inl, inr, refl, sym, ap, subst, ◌∙◌, append_assoc, arith}
use Rattle.std.proofs.lemmas.Bool.{cases_lt}
use Rattle.std.proofs.lemmas.List.{append-nil, take_more, take_all, length-take-le, get_or-take, get_or_default}
use Rattle.std.proofs.lemmas.List.Elements.{All-append, All-cons, All-nil, All-weaker, All-contains, Contains-get_or, Contains-append_left, Contains-append_right, Contains-push, Contains-push_cases}
use Rattle.std.proofs.lemmas.List.Kept.{AllPairs-cons}
use Rattle.slicer_ids.specs.Sets.{IsOrderedListOf}
use Rattle.worklists.specs.Growth.{FromOne}
use Rattle.worklists.proofs.Growing.{FromBelow}
use Rattle.class_form.proofs.Indices.{later}
use Rattle.variable_tables.specs.Growth.{IsChosen, GrowsBut}

-- what stands before an element of a list in order
pub before_next : {X : Type 0} (C : X → X → Type 0) (xs : List X) (i : ℕ) (x y : X) → AllPairs C xs → i < length xs → x ≡ get_or xs i x → Contains (take i xs) y → C y x
before_next C xs i x y order lt e (j, within, is) =
    let size : length (take i xs) ≡ i = length-take-le i xs (omega (arith, lt)) in
    let below : j < i = omega (arith, within, size) in
    let first = sym (get_or-take i xs j y below) ∙ is in
    let second = get_or_default xs i y x lt ∙ sym e in
    subst (λ z. C y z) second (subst (λ z. C z (get_or xs i y)) first (order j i y below lt))

module _ {A : Type 0} (B : A → A → Type 0) where
  pairs_append : (xs ys : List A) → AllPairs B xs → AllPairs B ys → ((a b : A) → Contains xs a → Contains ys b → B a b) → AllPairs B (xs ++ ys)
  pairs_append [] ys p q cross = q
  pairs_append (x ∷ xs) ys p q cross =
      AllPairs-cons B x (xs ++ ys)
      (All-append (B x) xs ys (λ k d lt. p 0 (suc k) d (omega arith) (omega (arith, lt))) (λ k d lt. cross x (get_or ys k d) (0, omega arith, refl) (Contains-get_or ys k d lt)))
      (pairs_append xs ys (λ i j d lt within. p (suc i) (suc j) d (omega (arith, lt)) (omega (arith, within))) q (λ a b c d. cross a b (later x a xs c) d))

  module _ (Other : A → Type 0) where
    joined : (xs ys : List A) (P Q R : A → Type 0) → IsChosen B xs P Other → IsChosen B ys Q Other → ((a b : A) → P a → Q b → B a b)
        → ((a : A) → R a → P a ⊎ Q a) → ((a : A) → P a ⊎ Q a → R a) → IsChosen B (xs ++ ys) R Other
    joined xs ys P Q R p q cross to from =
        record {
          each = All-append R xs ys (All-weaker P R (λ a h. from a (inl h)) xs p.each) (All-weaker Q R (λ a h. from a (inr h)) ys q.each);
          apart = All-append (λ a. Other a → ⊥) xs ys p.apart q.apart;
          order = pairs_append xs ys p.order q.order (λ a b c d. cross a b (All-contains P xs a p.each c) (All-contains Q ys b q.each d));
          whole = λ a r. elim (to a r) [
            | inl h ↦ elim (p.whole a h) [ inl c ↦ inl (Contains-append_left xs ys a c) | inr o ↦ inr o ]
            | inr h ↦ elim (q.whole a h) [ inl c ↦ inl (Contains-append_right xs ys a c) | inr o ↦ inr o ]
          ];
        }

    chosen_none : (P : A → Type 0) → ((a : A) → P a → Other a) → IsChosen B [] P Other
    chosen_none P other =
        record {
          each = All-nil P;
          apart = All-nil (λ a. Other a → ⊥);
          order = λ i j d lt within. absurd (omega (arith, within));
          whole = λ a p. inr (other a p);
        }

    -- nothing more
    pub grows_none : (xs : List A) (P : A → Type 0) → ((a : A) → P a → Other a) → GrowsBut B Other xs xs P
    grows_none xs P other = ([], sym (append-nil xs), chosen_none P other)

    -- one more
    pub grows_one : (old new : List A) (x : A) (P : A → Type 0) → new ≡ old ++ x ∷ [] → P x → (Other x → ⊥) → ((a : A) → P a → x ≡ a) → GrowsBut B Other old new P
    grows_one old new x P e here apart only = (
      x ∷ [],
      e,
      record {
        each = All-cons P x [] here (All-nil P);
        apart = All-cons (λ a. Other a → ⊥) x [] apart (All-nil (λ a. Other a → ⊥));
        order = λ i j d lt within. absurd (omega (arith, lt, within));
        whole = λ a p. inl (0, omega arith, only a p);
      },
    )

    pub grows_then : (old mid new : List A) (P Q R : A → Type 0) → GrowsBut B Other old mid P → GrowsBut B Other mid new Q → ((a b : A) → P a → Q b → B a b)
        → ((a : A) → R a → P a ⊎ Q a) → ((a : A) → P a ⊎ Q a → R a) → GrowsBut B Other old new R
    grows_then old mid new P Q R (xs, e, p) (ys, f, q) cross to from =
        (xs ++ ys, f ∙ ap (λ (zs : List A). zs ++ ys) e ∙ append_assoc old xs ys, joined xs ys P Q R p q cross to from)

    -- a step of a loop over elements
    pub grows_each : {X : Type 0} (R : X → A → Type 0) (xs : List X) (i : ℕ) (x : X) (old mid new : List A) → i < length xs → x ≡ get_or xs i x
        → ((y : X) (a b : A) → Contains (take i xs) y → R y a → R x b → B a b)
        → GrowsBut B Other old mid (FromOne R (take i xs)) → GrowsBut B Other mid new (R x) → GrowsBut B Other old new (FromOne R (take (i + 1) xs))
    grows_each {X} R xs i x old mid new lt e cross g h =
        subst (λ ys. GrowsBut B Other old new (FromOne R ys)) (sym (take_more xs i x lt ∙ ap (λ (z : X). take i xs ++ z ∷ []) (sym e)))
        (grows_then old mid new (FromOne R (take i xs)) (R x) (FromOne R (take i xs ++ x ∷ [])) g h (λ a b f s. cross f.0 a b f.1 f.2 s) to from)
      where
        to : (a : A) → FromOne R (take i xs ++ x ∷ []) a → FromOne R (take i xs) a ⊎ R x a
        to a f = elim (Contains-push_cases (take i xs) x f.0 f.1) [ inl c ↦ inl (f.0, c, f.2) | inr is ↦ inr (subst (λ z. R z a) (sym is) f.2) ]

        from : (a : A) → FromOne R (take i xs) a ⊎ R x a → FromOne R (take i xs ++ x ∷ []) a
        from a (inl f) = (f.0, Contains-append_left (take i xs) (x ∷ []) f.0 f.1, f.2)
        from a (inr r) = (x, Contains-push (take i xs) x, r)

    -- .. over elements in order, of which each gives its members before the next
    pub grows_rising : {X : Type 0} (C : X → X → Type 0) (R : X → A → Type 0) (xs : List X) (i : ℕ) (x : X) (old mid new : List A) → AllPairs C xs
        → ((y z : X) (a b : A) → C y z → R y a → R z b → B a b) → i < length xs → x ≡ get_or xs i x
        → GrowsBut B Other old mid (FromOne R (take i xs)) → GrowsBut B Other mid new (R x) → GrowsBut B Other old new (FromOne R (take (i + 1) xs))
    grows_rising C R xs i x old mid new order cross lt e g h =
        grows_each R xs i x old mid new lt e (λ y a b c r s. cross y x a b (before_next C xs i x y order lt e c) r s) g h

    -- .. where the element is read with a default
    pub grows_read : {X : Type 0} (C : X → X → Type 0) (R : X → A → Type 0) (xs : List X) (i : ℕ) (d : X) (old mid new : List A) → AllPairs C xs
        → ((y z : X) (a b : A) → C y z → R y a → R z b → B a b) → i < length xs
        → GrowsBut B Other old mid (FromOne R (take i xs)) → GrowsBut B Other mid new (R (get_or xs i d)) → GrowsBut B Other old new (FromOne R (take (i + 1) xs))
    grows_read C R xs i d old mid new order cross lt g h =
        grows_rising C R xs i (get_or xs i d) old mid new order cross lt (get_or_default xs i d (get_or xs i d) lt) g h

    -- before the first element
    pub grows_start : {X : Type 0} (R : X → A → Type 0) (xs : List A) → GrowsBut B Other xs xs (FromOne R [])
    grows_start R xs = grows_none xs (FromOne R []) (λ a f. absurd (omega (arith, f.1.1)))

    -- a step of a loop over numbers
    pub grows_next : (R : ℕ → A → Type 0) (n : ℕ) (old mid new : List A) → ((i : ℕ) (a b : A) → i < n → R i a → R n b → B a b)
        → GrowsBut B Other old mid (FromBelow R n) → GrowsBut B Other mid new (R n) → GrowsBut B Other old new (FromBelow R (n + 1))
    grows_next R n old mid new cross g h =
        grows_then old mid new (FromBelow R n) (R n) (FromBelow R (n + 1)) g h (λ a b f s. cross f.0 a b f.1 f.2 s) to from
      where
        to : (a : A) → FromBelow R (n + 1) a → FromBelow R n a ⊎ R n a
        to a f = elim (cases_lt f.0 n) [ inl lt ↦ inl (f.0, lt, f.2) | inr le ↦ let e : f.0 ≡ n = omega (arith, le, f.1) in inr (subst (λ i. R i a) e f.2) ]

        from : (a : A) → FromBelow R n a ⊎ R n a → FromBelow R (n + 1) a
        from a (inl f) = (f.0, omega (arith, f.1), f.2)
        from a (inr r) = (n, omega arith, r)

    chosen_same : (xs : List A) (P Q Than : A → Type 0) → ((a : A) → P a → Q a) → ((a : A) → Q a → P a) → ((a : A) → P a → Other a → Than a) → ((a : A) → P a → Than a → Other a)
        → IsChosen B xs P Other → IsChosen B xs Q Than
    chosen_same xs P Q Than to from other back g =
        record {
          each = All-weaker P Q to xs g.each;
          apart = λ k d lt t. g.apart k d lt (back (get_or xs k d) (g.each k d lt) t);
          order = g.order;
          whole = λ a q. elim (g.whole a (from a q)) [ inl c ↦ inl c | inr o ↦ inr (other a (from a q) o) ];
        }

    -- the same members, said otherwise
    pub grows_same : (old new : List A) (P Q Than : A → Type 0) → ((a : A) → P a → Q a) → ((a : A) → Q a → P a) → ((a : A) → P a → Other a → Than a) → ((a : A) → P a → Than a → Other a)
        → GrowsBut B Other old new P → GrowsBut B Than old new Q
    grows_same old new P Q Than to from other back (xs, e, g) = (xs, e, chosen_same xs P Q Than to from other back g)

    -- a list that grew from nothing
    pub from_nothing : (old new : List A) (P : A → Type 0) → old ≡ [] → GrowsBut B Other old new P → IsChosen B new P Other
    from_nothing old new P none (more, e, g) =
        let same : new ≡ more = e ∙ ap (λ (zs : List A). zs ++ more) none in
        subst (λ (zs : List A). IsChosen B zs P Other) (sym same) g

    -- .. by the whole of another
    pub from_whole : {X : Type 0} (R : X → A → Type 0) (xs : List X) (i : ℕ) (old new : List A) → length xs ≤ i → GrowsBut B Other old new (FromOne R (take i xs))
        → GrowsBut B Other old new (FromOne R xs)
    from_whole {X} R xs i old new le g = subst (λ (ys : List X). GrowsBut B Other old new (FromOne R ys)) (take_all i xs le) g

  -- all members
  pub chosen_all : (xs : List A) (P : A → Type 0) → IsChosen B xs P (λ a. ⊥) → IsOrderedListOf B xs P
  chosen_all xs P g = record { each = g.each; order = g.order; whole = λ a p. elim (g.whole a p) [ inl c ↦ c | inr o ↦ absurd o ] }
