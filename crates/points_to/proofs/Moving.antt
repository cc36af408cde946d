-- How what was found moves on under rules.
use Rattle.std.proofs.Common.{◌≡◌, ◌≢◌, ◌⊎◌, ◌↔◌, ℕ, ◌+◌, ◌<◌, ◌≤◌, ◌/◌, ◌%◌, ◌^◌, Bool, true, false, IsTrue, List, [], ◌∷◌, ◌++◌, Option, Some, None, length, get_or, take, Contains, All, slice_get, inl, inr, refl, sym, ap, subst, ◌∙◌, arith}
use Rattle.std.proofs.lemmas.Bool.{cases_eq, cases_lt}
use Rattle.std.proofs.lemmas.List.{take_more, take_all, get_or_past}
use Rattle.std.proofs.lemmas.List.Elements.{All-contains, Contains-get_or, Contains-append_left, Contains-push, Contains-push_cases}
use Rattle.std.specs.Int.{bit_at}
use Rattle.std.specs.Option.{option_map_or}
use Rattle.std.proofs.lemmas.Option.{slice_get_past, slice_get_read}
use Rattle.std.proofs.lemmas.Nat.Bits.{bit_at-zero}
use Rattle.slicer_ids.specs.declared.ids.CallId.{CallId}
use Rattle.slicer_ids.specs.declared.ids.MethodId.{MethodId}
use Rattle.slicer_ids.specs.Sets.{IsOrderedListOf}
use Rattle.slicer_ids.proofs.GrowingOrder.{reworded, without}
use Rattle.dep_form.specs.declared.rules.Constraint.{Constraint}
use Rattle.dep_form.specs.declared.system.System.{System}
use Rattle.dep_form.specs.PointsTo.{Has, Cell as Holds, Calls, OutsideAt, Reached}
use Rattle.dep_form.specs.Constraints.{IsRoot, SystemFact, SystemHolds}
use Rattle.dep_form.proofs.Closed.{all_in}
use Rattle.points_to.specs.declared.found.Found.{Found}
use Rattle.points_to.specs.declared.place.Place.{Place}
use Rattle.points_to.specs.declared.place.Place.TheVariants.{Receivers, Static, Running}
use Rattle.points_to.specs.declared.places.Places.{Places}
use Rattle.points_to.specs.Bits.{IsMember, row_of}
use Rattle.points_to.specs.Items.{Item, At, Under, under, Each, each, Nothing, Below, IfSome, Or, OneOf, Where, Those, AllOf, IsClosed, Adds, adds, Flows, flows, Filters, filters}
use Rattle.points_to.specs.Rules.{CallDoes, Constrains, Follows, IfOutside, InForce, call}
use Rattle.points_to.specs.Meaning.{MeansTrue, coded}
use Rattle.points_to.specs.States.{AreSorted, row_in, row_at, Knows, IsQuiet, IsShape, IsSound, HasSome, IsGone, Moves, Pours, Opens}
use Rattle.points_to.proofs.Closure.{followed}
use Rattle.points_to.proofs.Soundness.{true_closed}

pub all_of : (K L : Item → Type 0) → ((f : Item) → K f → L f) → (ps : List Item) → AllOf K ps → AllOf L ps
all_of K L to [] a = tt
all_of K L to (p ∷ ps) a = (to p a.0, all_of K L to ps a.1)

pub still_closed : (R : List Item → Item → Type 0) (K L : Item → Type 0) → ((f : Item) → K f → L f) → ((f : Item) → L f → K f) → IsClosed R K → IsClosed R L
still_closed R K L to from c = λ ps f r a. to f (c ps f r (all_of L K from ps a))

-- nothing was done, and nothing was to be done
pub Moves-none : (s : System) (st : Found) (R : List Item → Item → Type 0) → (IsQuiet st → IsClosed R (Knows st)) → Moves s st st R
Moves-none s st R c = record { sound = λ h t. t; grows = λ f k. k; quiet = λ q. (q, λ f k. k, c q) }

pub Moves-as : (s : System) (old new : Found) (R S : List Item → Item → Type 0) → (IsSound s old → IsClosed S (MeansTrue s) → IsClosed R (MeansTrue s)) → (IsClosed R (Knows old) → IsClosed S (Knows old)) → Moves s old new R → Moves s old new S
Moves-as s old new R S by to m = record {
  sound = λ c t. m.sound (by t c) t;
  grows = m.grows;
  quiet = λ q. let h = m.quiet q in (h.0, h.1, to h.2);
}

pub Moves-then : (s : System) (old mid new : Found) (R S : List Item → Item → Type 0) → Moves s old mid R → Moves s mid new S → Moves s old new (Or R S)
Moves-then s old mid new R S a b = record {
  sound = λ c t. b.sound (λ ps f r h. c ps f (inr r) h) (a.sound (λ ps f r h. c ps f (inl r) h) t);
  grows = λ f k. b.grows f (a.grows f k);
  quiet = λ q. let h = b.quiet q in let k = a.quiet h.0 in
      (k.0, λ f x. k.1 f (h.1 f x), λ ps f r all. elim r [ inl x ↦ k.2 ps f x all | inr x ↦ still_closed S (Knows mid) (Knows old) k.1 a.grows h.2 ps f x all ]);
}

-- a premise that is known
pub Moves-under : (s : System) (old new : Found) (p : Item) (R : List Item → Item → Type 0) → Knows old p → Moves s old new R → Moves s old new (Under p R)
Moves-under s old new p R known = Moves-as s old new R (Under p R)
    (λ t c ps f r all. c (p ∷ ps) f (under r) (t.each p known, all))
    (λ c ps f r all. closed c ps f r all)
  where
    closed : IsClosed R (Knows old) → (ps : List Item) (f : Item) → Under p R ps f → AllOf (Knows old) ps → Knows old f
    closed c _ f (under {ps} r) all = c ps f r all.1

-- a premise that is not
pub Moves-not_under : (s : System) (st : Found) (p : Item) (R : List Item → Item → Type 0) → (Knows st p → ⊥) → Moves s st st (Under p R)
Moves-not_under s st p R unknown = Moves-none s st (Under p R) (λ q ps f r all. closed ps f r all)
  where
    closed : (ps : List Item) (f : Item) → Under p R ps f → AllOf (Knows st) ps → Knows st f
    closed _ f (under {ps} r) all = absurd (unknown all.0)

-- a loop
pub Moves-start : {X : Type 0} (s : System) (st : Found) (R : X → List Item → Item → Type 0) → Moves s st st (OneOf R [])
Moves-start s st R = Moves-none s st (OneOf R []) (λ q ps f r all. absurd (omega (arith, r.1.1)))

pub Moves-more : {X : Type 0} (s : System) (R : X → List Item → Item → Type 0) (xs : List X) (i : ℕ) (d : X) (old mid new : Found) → i < length xs
    → Moves s old mid (OneOf R (take i xs)) → Moves s mid new (R (get_or xs i d)) → Moves s old new (OneOf R (take (i + 1) xs))
Moves-more {X} s R xs i d old mid new lt a b = subst (λ ys. Moves s old new (OneOf R ys)) (sym (take_more xs i d lt)) (Moves-as s old new (Or (OneOf R (take i xs)) (R (get_or xs i d))) (OneOf R (take i xs ++ get_or xs i d ∷ []))
    (λ t c ps f r all. c ps f (from ps f r) all) (λ c ps f r all. c ps f (to ps f r) all) (Moves-then s old mid new (OneOf R (take i xs)) (R (get_or xs i d)) a b))
  where
    to : (ps : List Item) (f : Item) → OneOf R (take i xs ++ get_or xs i d ∷ []) ps f → Or (OneOf R (take i xs)) (R (get_or xs i d)) ps f
    to ps f r = elim (Contains-push_cases (take i xs) (get_or xs i d) r.0 r.1) [ inl c ↦ inl (r.0, c, r.2) | inr is ↦ inr (subst (λ y. R y ps f) (sym is) r.2) ]

    from : (ps : List Item) (f : Item) → Or (OneOf R (take i xs)) (R (get_or xs i d)) ps f → OneOf R (take i xs ++ get_or xs i d ∷ []) ps f
    from ps f (inl r) = (r.0, Contains-append_left (take i xs) (get_or xs i d ∷ []) r.0 r.1, r.2)
    from ps f (inr r) = (get_or xs i d, Contains-push (take i xs) (get_or xs i d), r)

pub Moves-all : {X : Type 0} (s : System) (R : X → List Item → Item → Type 0) (xs : List X) (i : ℕ) (old new : Found) → length xs ≤ i → Moves s old new (OneOf R (take i xs)) → Moves s old new (OneOf R xs)
Moves-all s R xs i old new le m = subst (λ ys. Moves s old new (OneOf R ys)) (take_all i xs le) m

-- ---- one row
some_same : (o : Option ℕ) (a b : ℕ) → o ≡ Some a → o ≡ Some b → a ≡ b
some_same o a b e f = grind (arith, e, f)

at_same : (old new : Found) (to : ℕ) (P : ℕ → Type 0) → Pours old new to P → (p : Place) → row_at new p ≡ row_at old p
at_same old new to P d p = ap (λ ps. row_in ps p) d.places

pub shaped : (old new : Found) (to : ℕ) (P : ℕ → Type 0) → Pours old new to P → IsShape old → IsShape new
shaped old new to P d h = record {
  rows = λ p r e. subst (λ n. r < n) (sym d.len) (h.rows p r (sym (at_same old new to P d p) ∙ e));
  short = d.short h.short;
  sorted = subst (λ (ps : Places). AreSorted ps.cells.items) (sym d.places) h.sorted;
  few = subst (λ (ps : Places). length ps.cells.items ≤ 2 ^ 32) (sym d.places) h.few;
}

-- a place's row has what P holds of, by these rules
module _ (s : System) (old new : Found) (q : Place) (to : ℕ) (P : ℕ → Type 0) (R : List Item → Item → Type 0) (is : row_at old q ≡ Some to) (d : Pours old new to P) where
  back : (r n : ℕ) → IsMember (row_of new.rows.items r) n → IsMember (row_of old.rows.items r) n ⊎ ((r ≡ to) × P n)
  back r n m = elim (cases_eq r to) [
    | inl e ↦ elim (d.only n (subst (λ x. IsMember (row_of new.rows.items x) n) e m)) [ inl o ↦ inl (subst (λ x. IsMember (row_of old.rows.items x) n) (sym e) o) | inr p ↦ inr (e, p) ]
    | inr ne ↦ inl (subst (λ xs. IsMember xs n) (d.other r ne) m)
  ]

  kept : (r n : ℕ) → IsMember (row_of old.rows.items r) n → IsMember (row_of new.rows.items r) n
  kept r n m = elim (cases_eq r to) [
    | inl e ↦ subst (λ x. IsMember (row_of new.rows.items x) n) (sym e) (d.keeps n (subst (λ x. IsMember (row_of old.rows.items x) n) e m))
    | inr ne ↦ subst (λ xs. IsMember xs n) (sym (d.other r ne)) m
  ]

  grows : (f : Item) → Knows old f → Knows new f
  grows (At p n) k = (k.0, at_same old new to P d p ∙ k.1, kept k.0 n k.2)

  quiet : IsQuiet new → (f : Item) → Knows new f → Knows old f
  quiet u (At p n) k = (
    k.0,
    sym (at_same old new to P d p) ∙ k.1,
    elim (back k.0 n k.2) [
      | inl m ↦ m
      | inr h ↦ subst (λ x. IsMember (row_of old.rows.items x) n) (sym h.0) ((d.quiet u).2 n h.1)
    ],
  )

  sound : ((n : ℕ) → P n → MeansTrue s (At q n)) → IsSound s old → IsSound s new
  sound holds t = record {
    each = holds_each;
    same = λ p p' r n e e' h. t.same p p' r n (sym (at_same old new to P d p) ∙ e) (sym (at_same old new to P d p') ∙ e') h;
  }
    where
      holds_each : (f : Item) → Knows new f → MeansTrue s f
      holds_each (At p n) k = let e = sym (at_same old new to P d p) ∙ k.1 in elim (back k.0 n k.2) [
        | inl m ↦ t.each (At p n) (k.0, e, m)
        | inr h ↦ t.same q p to n is (e ∙ ap Some h.0) (holds n h.1)
      ]

  pub poured : (IsSound s old → IsClosed R (MeansTrue s) → (n : ℕ) → P n → MeansTrue s (At q n)) → (((n : ℕ) → P n → Knows old (At q n)) → IsClosed R (Knows old)) → Moves s old new R
  poured by to_closed = record {
    sound = λ c t. sound (by t c) t;
    grows = grows;
    quiet = λ u. let h = d.quiet u in (h.0, quiet u, to_closed (λ n p. (to, is, h.2 n p)));
  }

module _ (s : System) (old new : Found) (p q : Place) (from to : ℕ) (at : row_at old p ≡ Some from) (is : row_at old q ≡ Some to) where
  pub flowed : Pours old new to (IsMember (row_of old.rows.items from)) → Moves s old new (Flows p q)
  flowed d = poured s old new q to (IsMember (row_of old.rows.items from)) (Flows p q) is d
      (λ t c n m. c (At p n ∷ []) (At q n) flows (t.each (At p n) (from, at, m), tt))
      (λ h. closed h)
    where
      closed : ((n : ℕ) → IsMember (row_of old.rows.items from) n → Knows old (At q n)) → (ps : List Item) (f : Item) → Flows p q ps f → AllOf (Knows old) ps → Knows old f
      closed h _ _ (flows {n}) all = h n (subst (λ r. IsMember (row_of old.rows.items r) n) (some_same (row_at old p) all.0.0 from all.0.1 at) all.0.2)

  pub filtered : (mask : List ℕ) → Pours old new to (λ k. IsMember (row_of old.rows.items from) k × IsMember mask k) → Moves s old new (Filters (IsMember mask) p q)
  filtered mask d = poured s old new q to (λ k. IsMember (row_of old.rows.items from) k × IsMember mask k) (Filters (IsMember mask) p q) is d
      (λ t c n m. c (At p n ∷ []) (At q n) (filters m.1) (t.each (At p n) (from, at, m.0), tt))
      (λ h. closed h)
    where
      closed : ((n : ℕ) → IsMember (row_of old.rows.items from) n × IsMember mask n → Knows old (At q n)) → (ps : List Item) (f : Item) → Filters (IsMember mask) p q ps f → AllOf (Knows old) ps → Knows old f
      closed h _ _ (filters {n} k) all = h n (subst (λ r. IsMember (row_of old.rows.items r) n) (some_same (row_at old p) all.0.0 from all.0.1 at) all.0.2, k)

pub gave : (s : System) (old new : Found) (q : Place) (to n : ℕ) → row_at old q ≡ Some to → Pours old new to (λ k. k ≡ n) → Moves s old new (Adds q n)
gave s old new q to n is d = poured s old new q to (λ k. k ≡ n) (Adds q n) is d
    (λ t c k e. subst (λ x. MeansTrue s (At q x)) (sym e) (c [] (At q n) adds tt))
    (λ h. closed h)
  where
    closed : ((k : ℕ) → k ≡ n → Knows old (At q k)) → (ps : List Item) (f : Item) → Adds q n ps f → AllOf (Knows old) ps → Knows old f
    closed h _ _ adds all = h n refl

-- ---- a rule for each number of a place
pub Moves-each : (s : System) (old new : Found) (p : Place) (R : ℕ → List Item → Item → Type 0) (list : List ℕ) → IsOrderedListOf (λ a b. a < b) list (λ n. Knows old (At p n)) → Moves s old new (OneOf R list) → Moves s old new (Each p R)
Moves-each s old new p R list is = Moves-as s old new (OneOf R list) (Each p R)
    (λ t c ps f r all. c (At p r.0 ∷ ps) f (each r.2) (t.each (At p r.0) (All-contains (λ n. Knows old (At p n)) list r.0 is.each r.1), all))
    closed
  where
    closed : IsClosed (OneOf R list) (Knows old) → (ps : List Item) (f : Item) → Each p R ps f → AllOf (Knows old) ps → Knows old f
    closed c _ f (each {n} {ps} r) all = c ps f (n, is.whole n all.0, r) all.1

pub Moves-first : (s : System) (old mid new : Found) (R : List Item → Item → Type 0) → Moves s old mid Nothing → Moves s mid new R → Moves s old new R
Moves-first s old mid new R a b = Moves-as s old new (Or Nothing R) R (λ t c ps f r all. elim r [ inl x ↦ absurd x | inr x ↦ c ps f x all ]) (λ c ps f r all. c ps f (inr r) all) (Moves-then s old mid new Nothing R a b)

pub Moves-below : (s : System) (R : ℕ → List Item → Item → Type 0) (k : ℕ) (old mid new : Found) → Moves s old mid (Below R k) → Moves s mid new (R k) → Moves s old new (Below R (k + 1))
Moves-below s R k old mid new a b = Moves-as s old new (Or (Below R k) (R k)) (Below R (k + 1))
    (λ t c ps f r all. elim r [ inl x ↦ c ps f (x.0, omega (arith, x.1), x.2) all | inr x ↦ c ps f (k, omega arith, x) all ])
    (λ c ps f r all. elim (cases_lt r.0 k) [ inl lt ↦ c ps f (inl (r.0, lt, r.2)) all | inr le ↦ let e : r.0 ≡ k = omega (arith, r.1, le) in c ps f (inr (subst (λ n. R n ps f) e r.2)) all ])
    (Moves-then s old mid new (Below R k) (R k) a b)

-- nothing flows from a place without a row
pub flowed_none : (s : System) (st : Found) (p q : Place) → row_at st p ≡ None → Moves s st st (Flows p q)
flowed_none s st p q e = Moves-none s st (Flows p q) (λ u. closed)
  where
    closed : (ps : List Item) (f : Item) → Flows p q ps f → AllOf (Knows st) ps → Knows st f
    closed _ _ flows all = absurd (grind (arith, e, all.0.1))

pub filtered_none : (s : System) (st : Found) (mask : List ℕ) (p q : Place) → row_at st p ≡ None → Moves s st st (Filters (IsMember mask) p q)
filtered_none s st mask p q e = Moves-none s st (Filters (IsMember mask) p q) (λ u. closed)
  where
    closed : (ps : List Item) (f : Item) → Filters (IsMember mask) p q ps f → AllOf (Knows st) ps → Knows st f
    closed _ _ (filters m) all = absurd (grind (arith, e, all.0.1))

-- no member where there is no row
nothing_past : (st : Found) (r n : ℕ) → length st.rows.items ≤ r → IsMember (row_of st.rows.items r) n → ⊥
nothing_past st r n le m = let e : row_of st.rows.items r ≡ [] = ap (λ o. option_map_or (λ row. row.items) o []) (slice_get_past st.rows.items r le) in
    let z : IsMember [] n = subst (λ xs. IsMember xs n) e m in omega (arith, z, bit_at-zero (n % 64))

-- ---- a place that got a row
module _ (old new : Found) (place : Place) (row : ℕ) (none : row_at old place ≡ None) (o : Opens old new place row) (h : IsShape old) where
  keeps : (p : Place) (r : ℕ) → row_at old p ≡ Some r → row_at new p ≡ Some r
  keeps p r e = elim (o.places.other p) [
    | inl same ↦ let e' : row_at old place ≡ Some r = subst (λ q. row_at old q ≡ Some r) same e in absurd (grind (arith, none, e'))
    | inr same ↦ same ∙ e
  ]

  only : (p : Place) (r : ℕ) → row_at new p ≡ Some r → (row_at old p ≡ Some r) ⊎ ((p ≡ place) × (r ≡ row))
  only p r e = elim (o.places.other p) [
    | inl same ↦ let e' : row_at new place ≡ Some r = subst (λ q. row_at new q ≡ Some r) same e in inr (same, some_same (row_at new place) r row e' o.places.is)
    | inr same ↦ inl (sym same ∙ e)
  ]

  pub opened_shape : IsShape new
  opened_shape = record {
    rows = λ p r e. elim (only p r e) [ inl a ↦ omega (arith, h.rows p r a, o.len) | inr a ↦ omega (arith, a.1, o.fresh, o.len) ];
    short = λ r. rw (o.rows r) (h.short r);
    sorted = o.places.sorted h.sorted;
    few = o.places.few h.few;
  }

  pub opened : (s : System) → Moves s old new Nothing
  opened s = record {
    sound = λ c t. record { each = each_holds t; same = same_holds t };
    grows = grows_to;
    quiet = λ u. ((sym o.full ∙ u.0, sym o.changed ∙ u.1), back, λ ps f r all. absurd r);
  }
    where
      grows_to : (f : Item) → Knows old f → Knows new f
      grows_to (At p n) k = (k.0, keeps p k.0 k.1, subst (λ xs. IsMember xs n) (sym (o.rows k.0)) k.2)

      back : (f : Item) → Knows new f → Knows old f
      back (At p n) k = let m = subst (λ xs. IsMember xs n) (o.rows k.0) k.2 in elim (only p k.0 k.1) [
        | inl e ↦ (k.0, e, m)
        | inr e ↦ absurd (nothing_past old k.0 n (omega (arith, e.1, o.fresh)) m)
      ]

      each_holds : IsSound s old → (f : Item) → Knows new f → MeansTrue s f
      each_holds t f k = t.each f (back f k)

      same_holds : IsSound s old → (p q : Place) (r n : ℕ) → row_at new p ≡ Some r → row_at new q ≡ Some r → MeansTrue s (At p n) → MeansTrue s (At q n)
      same_holds t p q r n e e' x = elim (only p r e) [
        | inl a ↦ elim (only q r e') [
          | inl b ↦ t.same p q r n a b x
          | inr b ↦ absurd (omega (arith, h.rows p r a, b.1, o.fresh))
        ]
        | inr a ↦ elim (only q r e') [
          | inl b ↦ absurd (omega (arith, h.rows q r b, a.1, o.fresh))
          | inr b ↦ subst (λ y. MeansTrue s (At y n)) (a.0 ∙ sym b.0) x
        ]
      ]

pub list_knows : (st : Found) (p : Place) (row : ℕ) (list : List ℕ) → row_at st p ≡ Some row → IsOrderedListOf (λ a b. a < b) list (IsMember (row_of st.rows.items row)) → IsOrderedListOf (λ a b. a < b) list (λ n. Knows st (At p n))
list_knows st p row list e h = reworded (λ a b. a < b) list (IsMember (row_of st.rows.items row)) (λ n. Knows st (At p n))
    (λ n m. (row, e, m)) (λ n k. subst (λ r. IsMember (row_of st.rows.items r) n) (some_same (row_at st p) k.0 row k.1 e) k.2) h

pub list_nothing : (st : Found) (p : Place) (list : List ℕ) → row_at st p ≡ None → list ≡ [] → IsOrderedListOf (λ a b. a < b) list (λ n. Knows st (At p n))
list_nothing st p list e nil = without (λ a b. a < b) list (λ n. Knows st (At p n)) nil (λ n k. grind (arith, e, k.1))

pub some_listed : (st : Found) (p : Place) (list : List ℕ) (b : Bool) → IsOrderedListOf (λ a b. a < b) list (λ n. Knows st (At p n)) → ((b ≡ true) ↔ (0 < length list)) → (b ≡ true) ↔ HasSome st p
some_listed st p list b h is = (
  λ e. (get_or list 0 0, h.each 0 0 (is.0 e)),
  λ k. let c = h.whole k.0 k.1 in is.1 (omega (arith, c.1)),
)

pub Moves-begin : (s : System) (st : Found) (R : ℕ → List Item → Item → Type 0) → Moves s st st (Below R 0)
Moves-begin s st R = Moves-none s st (Below R 0) (λ q ps f r all. absurd (omega (arith, r.1)))

pub Moves-nothing : (s : System) (st : Found) → Moves s st st Nothing
Moves-nothing s st = Moves-none s st Nothing (λ q ps f r all. absurd r)

pub Moves-if_some : {X : Type 0} (s : System) (old new : Found) (R : X → List Item → Item → Type 0) (o : Option X) (x : X) → o ≡ Some x → Moves s old new (R x) → Moves s old new (IfSome R o)
Moves-if_some s old new R o x e m = subst (λ y. Moves s old new (IfSome R y)) (sym e) m

pub Moves-if_none : {X : Type 0} (s : System) (st : Found) (R : X → List Item → Item → Type 0) (o : Option X) → o ≡ None → Moves s st st (IfSome R o)
Moves-if_none s st R o e = subst (λ y. Moves s st st (IfSome R y)) (sym e) (Moves-nothing s st)

-- the rule of an element, if it is there
pub Moves-at : {X : Type 0} (s : System) (old new : Found) (R : X → List Item → Item → Type 0) (xs : List X) (i : ℕ) (x : X) → i < length xs → x ≡ get_or xs i x → Moves s old new (R x) → Moves s old new (IfSome R (slice_get xs i))
Moves-at s old new R xs i x lt e m = Moves-if_some s old new R (slice_get xs i) x (slice_get_read xs (length xs) i x refl lt e) m

pub Moves-past : {X : Type 0} (s : System) (st : Found) (R : X → List Item → Item → Type 0) (xs : List X) (i : ℕ) → length xs ≤ i → Moves s st st (IfSome R (slice_get xs i))
Moves-past s st R xs i le = Moves-if_none s st R (slice_get xs i) (slice_get_past xs i le)

pub is_known : (st : Found) (f : Item) (b : Bool) → IsTrue b ↔ Knows st f → b ≡ true → Knows st f
is_known st f b h e = h.0 (search (arith, e))

pub not_known : (st : Found) (f : Item) (b : Bool) → IsTrue b ↔ Knows st f → b ≡ false → Knows st f → ⊥
not_known st f b h e k = let t : IsTrue b = h.1 k in grind (arith, t, e)

-- a rule that is the same for each element of a list
pub Moves-for_any : (s : System) (old new : Found) (R : List Item → Item → Type 0) (xs : List ℕ) → 0 < length xs → Moves s old new R → Moves s old new (OneOf (λ (n : ℕ). R) xs)
Moves-for_any s old new R xs lt = Moves-as s old new R (OneOf (λ (n : ℕ). R) xs)
    (λ t c ps f r all. c ps f (get_or xs 0 0, Contains-get_or xs 0 0 lt, r) all)
    (λ c ps f r all. c ps f r.2 all)

-- rules that need not be tried, where not every rule is
pub Moves-skip : (s : System) (st : Found) (R : List Item → Item → Type 0) → st.full ≡ false → Moves s st st R
Moves-skip s st R e = record { sound = λ c t. t; grows = λ f k. k; quiet = λ q. absurd (true_false q.0) }
  where
    true_false : st.full ≡ true → ⊥
    true_false t = grind (arith, e, t)

-- a rule where P holds
pub Moves-where : (s : System) (old new : Found) (P : Type 0) (R : List Item → Item → Type 0) → P → Moves s old new R → Moves s old new (Where P R)
Moves-where s old new P R p = Moves-as s old new R (Where P R) (λ t c ps f r all. c ps f (p, r) all) (λ c ps f r all. c ps f r.1 all)

pub Moves-not_where : (s : System) (st : Found) (P : Type 0) (R : List Item → Item → Type 0) → (P → ⊥) → Moves s st st (Where P R)
Moves-not_where s st P R np = Moves-none s st (Where P R) (λ q ps f r all. absurd (np r.0))

-- the rule of the things of which P holds
pub Moves-those : {X : Type 0} (s : System) (old new : Found) (P : X → Type 0) (R : X → List Item → Item → Type 0) (xs : List X) → ((x : X) → Contains xs x → P x) → ((x : X) → P x → Contains xs x) → Moves s old new (OneOf R xs) → Moves s old new (Those P R)
Moves-those s old new P R xs to from = Moves-as s old new (OneOf R xs) (Those P R) (λ t c ps f r all. c ps f (r.0, to r.0 r.1, r.2) all) (λ c ps f r all. c ps f (r.0, from r.0 r.1, r.2) all)

-- .. of the one thing
pub Moves-that : {X : Type 0} (s : System) (old new : Found) (P : X → Type 0) (R : X → List Item → Item → Type 0) (x : X) → P x → ((y : X) → P y → x ≡ y) → Moves s old new (R x) → Moves s old new (Those P R)
Moves-that s old new P R x p one = Moves-as s old new (R x) (Those P R) (λ t c ps f r all. c ps f (x, p, r) all) (λ c ps f r all. c ps f (subst (λ y. R y ps f) (sym (one r.0 r.1)) r.2) all)

-- .. of none
pub Moves-those_none : {X : Type 0} (s : System) (st : Found) (P : X → Type 0) (R : X → List Item → Item → Type 0) → ((x : X) → P x → ⊥) → Moves s st st (Those P R)
Moves-those_none s st P R none = Moves-none s st (Those P R) (λ q ps f r all. absurd (none r.0 r.1))

-- after a round in which nothing changed
pub still_sound : (s : System) (old new : Found) → IsSound s old → Moves s old new (Follows s) → IsSound s new
still_sound s old new t m = m.sound (true_closed s) t

-- .. after one constraint, after all calls
pub sound_by_one : (s : System) (old new : Found) (c : Constraint) → Contains s.constraints c → Moves s old new (Constrains s c) → IsSound s old → IsSound s new
sound_by_one s old new c has m t = m.sound (λ ps f r all. true_closed s ps f (inl (c, has, r)) all) t

pub sound_by_calls : (s : System) (old new : Found) → Moves s old new (Below (λ c. IfSome (CallDoes s (call c)) (slice_get s.calls c)) (length s.calls)) → IsSound s old → IsSound s new
sound_by_calls s old new m t = m.sound (λ ps f r all. true_closed s ps f (inr r) all) t

means_coded : (s : System) (f : SystemFact) → MeansTrue s (coded f) → SystemHolds s f
means_coded s (Reached m) h = h
means_coded s (Has v h') h = h
means_coded s (Holds o f h') h = h
means_coded s (Calls c t) h = h
means_coded s (OutsideAt c (Some h')) h = h
means_coded s (OutsideAt c None) h = h

pub exact : (s : System) (old new : Found) → IsSound s old → Moves s old new (Follows s) → new.full ≡ true → new.changed ≡ false → (f : SystemFact) → Knows new (coded f) ↔ SystemHolds s f
exact s old new t m full quiet f = (
  λ k. means_coded s f ((still_sound s old new t m).each (coded f) k),
  λ h. m.grows (coded f) (all_in s (λ g. Knows old (coded g)) (followed s (Knows old) (m.quiet (full, quiet)).2) h.0 h.1 f h.2),
)

-- a rule of a call that goes outside
pub Moves-if_outside : (s : System) (old new : Found) (c : CallId) (R : List Item → Item → Type 0) → IsGone old c → Moves s old new R → Moves s old new (IfOutside c R)
Moves-if_outside s old new c R gone = Moves-as s old new R (IfOutside c R)
    (λ t k ps f r all. elim gone [
      | inl g ↦ k (At (Receivers c) g.0 ∷ ps) f (inl (each r)) (t.each (At (Receivers c) g.0) g.1, all)
      | inr g ↦ k (At (Static c) 0 ∷ ps) f (inr (under r)) (t.each (At (Static c) 0) g, all)
    ])
    (λ k ps f r all. closed k ps f r all)
  where
    closed : IsClosed R (Knows old) → (ps : List Item) (f : Item) → IfOutside c R ps f → AllOf (Knows old) ps → Knows old f
    closed k _ f (inl (each {n} {ps} r)) all = k ps f r all.1
    closed k _ f (inr (under {ps} r)) all = k ps f r all.1

pub Moves-not_outside : (s : System) (st : Found) (c : CallId) (R : List Item → Item → Type 0) → (IsGone st c → ⊥) → Moves s st st (IfOutside c R)
Moves-not_outside s st c R none = Moves-none s st (IfOutside c R) (λ q. closed)
  where
    closed : (ps : List Item) (f : Item) → IfOutside c R ps f → AllOf (Knows st) ps → Knows st f
    closed _ f (inl (each {n} {ps} r)) all = absurd (none (inl (n, all.0)))
    closed _ f (inr (under {ps} r)) all = absurd (none (inr all.0))

-- a rule that is in force
pub Moves-of_root : (s : System) (old new : Found) (m : MethodId) (R : List Item → Item → Type 0) → IsRoot s m → Moves s old new R → Moves s old new (InForce s m R)
Moves-of_root s old new m R root = Moves-as s old new R (InForce s m R)
    (λ t k ps f r all. k ps f (inl (root, r)) all)
    (λ k ps f r all. closed k ps f r all)
  where
    closed : IsClosed R (Knows old) → (ps : List Item) (f : Item) → InForce s m R ps f → AllOf (Knows old) ps → Knows old f
    closed k ps f (inl r) all = k ps f r.1 all
    closed k _ f (inr (under {ps} r)) all = k ps f r all.1

pub Moves-of_reached : (s : System) (old new : Found) (m : MethodId) (R : List Item → Item → Type 0) → (IsRoot s m → ⊥) → Moves s old new (Under (At Running m.0) R) → Moves s old new (InForce s m R)
Moves-of_reached s old new m R other = Moves-as s old new (Under (At Running m.0) R) (InForce s m R)
    (λ t k ps f r all. k ps f (inr r) all)
    (λ k ps f r all. elim r [ inl x ↦ absurd (other x.0) | inr x ↦ k ps f x all ])

-- the rule of an element of a list that is read
pub Moves-got : {X : Type 0} (s : System) (old new : Found) (R : X → List Item → Item → Type 0) (xs ys : List X) (i : ℕ) (x : X) → ys ≡ xs → i < length ys → x ≡ get_or ys i x → Moves s old new (R x) → Moves s old new (IfSome R (slice_get xs i))
Moves-got s old new R xs ys i x same lt e m = subst (λ zs. Moves s old new (IfSome R (slice_get zs i))) same (Moves-at s old new R ys i x lt e m)

pub Moves-got_none : {X : Type 0} (s : System) (st : Found) (R : X → List Item → Item → Type 0) (xs ys : List X) (i : ℕ) → ys ≡ xs → length ys ≤ i → Moves s st st (IfSome R (slice_get xs i))
Moves-got_none s st R xs ys i same le = subst (λ zs. Moves s st st (IfSome R (slice_get zs i))) same (Moves-past s st R ys i le)

-- ---- what is poured in parts, where not every rule is tried
pub Pours-none : (st : Found) (to : ℕ) (P : ℕ → Type 0) → st.full ≡ false → Pours st st to P
Pours-none st to P partly = record {
  places = refl;
  len = refl;
  other = λ r ne. refl;
  keeps = λ k m. m;
  only = λ k m. inl m;
  quiet = λ q. let clash : true ≡ false = sym q.0 ∙ partly in absurd (cc clash);
  short = λ a. a;
}

pub Pours-more : (old mid new : Found) (from to : ℕ) → from ≢ to → new.full ≡ false → Pours old mid to (IsMember (row_of old.rows.items from)) → Pours mid new to (IsMember (row_of mid.rows.items from))
    → Pours old new to (IsMember (row_of old.rows.items from))
Pours-more old mid new from to ne partly a b = record {
  places = b.places ∙ a.places;
  len = b.len ∙ a.len;
  other = λ r n. b.other r n ∙ a.other r n;
  keeps = λ k m. b.keeps k (a.keeps k m);
  only = λ k m. elim (b.only k m) [ inl x ↦ a.only k x | inr p ↦ inr (subst (λ xs. IsMember xs k) (a.other from ne) p) ];
  quiet = λ q. let clash : true ≡ false = sym q.0 ∙ partly in absurd (cc clash);
  short = λ s. b.short (a.short s);
}
