-- Lists of numbers as lists of things, and tables of such lists.
use Rattle.std.proofs.Common.{◌≡◌, ◌≢◌, ◌⊎◌, ◌↔◌, ◌<◌, ◌≤◌, ◌+◌, ℕ, zero, suc, Bool, true, false, List, [], ◌∷◌, ◌++◌, Option, Some, None, Contains, length, get_or, take, slice_get, inl, inr, refl, sym, ap, subst, ◌∙◌, arith}
use Rattle.std.specs.Prelude.{AllPairs}
use Rattle.std.proofs.lemmas.Bool.{cases_lt}
use Rattle.std.proofs.lemmas.List.{take_more, get_or-take, get_or_default, length-take}
use Rattle.std.proofs.lemmas.List.Elements.{All-contains, Contains-append_left, Contains-push, Contains-push_cases}
use Rattle.std.proofs.lemmas.Option.{slice_get_within}
use Rattle.slicer_ids.specs.Sets.{IsOrderedListOf}
use Rattle.slicer_ids.specs.declared.ids.SiteId.{SiteId}
use Rattle.slicer_ids.proofs.GrowingOrder.{pushed, reworded, without}
use Rattle.slicer_ids.specs.declared.ids.FieldId.{FieldId}
use Rattle.dep_form.specs.Solutions.{CellBefore, IsSolutionOf, ReceiverBefore}
use Rattle.slicer_ids.specs.Order.{SiteBefore}
use Rattle.slicer_ids.specs.declared.ids.CallId.{CallId}
use Rattle.slicer_ids.specs.declared.ids.MethodId.{MethodId}
use Rattle.dep_form.specs.declared.rules.Var.{Var}
use Rattle.dep_form.specs.declared.solution.Solution.{Solution}
use Rattle.dep_form.specs.declared.system.System.{System}
use Rattle.dep_form.specs.PointsTo.{Has, Cell as Holds, Calls, OutsideAt, Reached}
use Rattle.dep_form.specs.Constraints.{SystemHolds}
use Rattle.points_to.specs.declared.found.Found.{Found}
use Rattle.points_to.specs.declared.place.Place.TheVariants.{Variable, Targets, Receivers, Static}
use Rattle.points_to.specs.Items.{At}
use Rattle.points_to.specs.Meaning.{coded}
use Rattle.points_to.specs.Rules.{method}
use Rattle.points_to.specs.Solved.{AreCells, AreReceiversOf, AreSitesOf, AreTargetsOf, IsReachedAt, IsReceiverUpTo, IsTableOf, KnowsCell}
use Rattle.points_to.specs.States.{IsExact, Knows}

-- things with numbers, in the order of these
pub listed : {X : Type 0} (of : X → ℕ) → ((x y : X) → of x ≡ of y → x ≡ y) → (numbers : List ℕ) (xs : List X) (K : ℕ → Type 0) → length xs ≡ length numbers → ((k : ℕ) (d : X) → k < length numbers → of (get_or xs k d) ≡ get_or numbers k (of d))
    → IsOrderedListOf (λ a b. a < b) numbers K → IsOrderedListOf (λ a b. of a < of b) xs (λ x. K (of x))
listed {X} of one numbers xs K len each h = record {
  each = λ k d lt. let l : k < length numbers = omega (arith, lt, len) in subst K (sym (each k d l)) (h.each k (of d) l);
  order = λ i j d lt within. let l : j < length numbers = omega (arith, within, len) in omega (arith, each i d (omega (arith, lt, l)), each j d l, h.order i j (of d) lt l);
  whole = λ x kx. let c = h.whole (of x) kx in (c.0, omega (arith, c.1, len), one (get_or xs c.0 x) x (each c.0 x c.1 ∙ c.2));
}

-- ---- tables
pub no_rows : {X : Type 0} (P : ℕ → X → Type 0) (xs : List X) → xs ≡ [] → IsTableOf P xs
no_rows {X} P xs nil k x e = absurd (omega (arith, slice_get_within xs k x e, ap (λ ys. length ys) nil))

pub last_or_before : {X : Type 0} (xs : List X) (y x : X) (k : ℕ) → slice_get (xs ++ y ∷ []) k ≡ Some x → (slice_get xs k ≡ Some x) ⊎ ((k ≡ length xs) × (y ≡ x))
last_or_before {X} [] y x zero e = inr (refl, cc e)
last_or_before {X} [] y x (suc k) e = absurd (grind (arith, e))
last_or_before {X} (z ∷ xs) y x zero e = inl e
last_or_before {X} (z ∷ xs) y x (suc k) e = elim (last_or_before xs y x k e) [ inl h ↦ inl h | inr h ↦ inr (omega (arith, h.0), h.1) ]

pub one_row : {X : Type 0} (P : ℕ → X → Type 0) (xs : List X) (y : X) (n : ℕ) → length xs ≡ n → IsTableOf P xs → P n y → IsTableOf P (xs ++ y ∷ [])
one_row {X} P xs y n len h p k x e = elim (last_or_before xs y x k e) [
  | inl o ↦ h k x o
  | inr l ↦ subst (λ m. P m x) (sym (l.0 ∙ len)) (subst (P n) l.1 p)
]

-- ---- receivers
pub no_receiver : (alone : Bool) (xs : List (Option SiteId)) → alone ≡ false → xs ≡ [] → IsOrderedListOf ReceiverBefore xs (IsReceiverUpTo alone [])
no_receiver alone xs e nil = without ReceiverBefore xs (IsReceiverUpTo alone []) nil none
  where
    none : (o : Option SiteId) → IsReceiverUpTo alone [] o → ⊥
    none None h = grind (arith, e, h)
    none (Some h') h = omega (arith, h.1)

pub alone_receiver : (alone : Bool) (xs : List (Option SiteId)) → alone ≡ true → xs ≡ None ∷ [] → IsOrderedListOf ReceiverBefore xs (IsReceiverUpTo alone [])
alone_receiver alone xs e is = subst (λ (ys : List (Option SiteId)). IsOrderedListOf ReceiverBefore ys (IsReceiverUpTo alone [])) (sym is) (record { each = first; order = λ i j d lt within. absurd (omega (arith, lt, within)); whole = only })
  where
    first : (k : ℕ) (d : Option SiteId) → k < 1 → IsReceiverUpTo alone [] (get_or (None ∷ []) k d)
    first zero d lt = e
    first (suc k) d lt = absurd (omega (arith, lt))

    only : (o : Option SiteId) → IsReceiverUpTo alone [] o → Contains (None ∷ []) o
    only None h = (0, omega arith, refl)
    only (Some h') h = absurd (omega (arith, h.1))

abbrev object : ℕ → SiteId
object n = record { 0 = n }

pub one_receiver : (alone : Bool) (numbers : List ℕ) (i n : ℕ) (xs ys : List (Option SiteId)) → AllPairs (λ a b. a < b) numbers → i < length numbers → n ≡ get_or numbers i n → ys ≡ xs ++ Some (object n) ∷ []
    → IsOrderedListOf ReceiverBefore xs (IsReceiverUpTo alone (take i numbers)) → IsOrderedListOf ReceiverBefore ys (IsReceiverUpTo alone (take (i + 1) numbers))
one_receiver alone numbers i n xs ys rise lt at is h = subst (λ (zs : List (Option SiteId)). IsOrderedListOf ReceiverBefore zs (IsReceiverUpTo alone (take (i + 1) numbers))) (sym is)
    (pushed ReceiverBefore xs (Some (object n)) (IsReceiverUpTo alone (take i numbers)) (IsReceiverUpTo alone (take (i + 1) numbers)) h before more new only)
  where
    take_below : (zs : List ℕ) (m k : ℕ) → k < length (take m zs) → k < m
    take_below zs m k l = let q = length-take m zs in omega (arith, q, l)

    get_or_same : (zs : List ℕ) (m a b : ℕ) → m < length zs → get_or zs m a ≡ get_or zs m b
    get_or_same zs m a b l = get_or_default zs m a b l

    grown : take (i + 1) numbers ≡ take i numbers ++ n ∷ []
    grown = take_more numbers i n lt ∙ ap (λ m. take i numbers ++ m ∷ []) (sym at)

    before : (o : Option SiteId) → IsReceiverUpTo alone (take i numbers) o → ReceiverBefore o (Some (object n))
    before None p = tt
    before (Some a) p =
        let k : p.0 < i = take_below numbers i p.0 p.1 in
        let e : get_or numbers p.0 a.0 ≡ a.0 = sym (get_or-take i numbers p.0 a.0 k) ∙ p.2 in
        let e' : get_or numbers i a.0 ≡ n = get_or_same numbers i a.0 n lt ∙ sym at in
        omega (arith, e, e', rise p.0 i a.0 k lt)

    more : (o : Option SiteId) → IsReceiverUpTo alone (take i numbers) o → IsReceiverUpTo alone (take (i + 1) numbers) o
    more None p = p
    more (Some a) p = subst (λ (zs : List ℕ). Contains zs a.0) (sym grown) (Contains-append_left (take i numbers) (n ∷ []) a.0 p)

    new : IsReceiverUpTo alone (take (i + 1) numbers) (Some (object n))
    new = subst (λ (zs : List ℕ). Contains zs n) (sym grown) (Contains-push (take i numbers) n)

    only : (o : Option SiteId) → IsReceiverUpTo alone (take (i + 1) numbers) o → IsReceiverUpTo alone (take i numbers) o ⊎ (Some (object n) ≡ o)
    only None p = inl p
    only (Some a) p = elim (Contains-push_cases (take i numbers) n a.0 (subst (λ (zs : List ℕ). Contains zs a.0) grown p)) [ inl c ↦ inl c | inr e ↦ inr (ap (λ m. Some (object m)) e) ]

pub get_or_itself : {X : Type 0} (xs : List X) (i : ℕ) (d : X) → i < length xs → get_or xs i d ≡ get_or xs i (get_or xs i d)
get_or_itself xs i d lt = get_or_default xs i d (get_or xs i d) lt

-- ---- what places have, as lists of sites, methods and receivers
module _ (st : Found) where
  pub sites_listed : (v : Var) (numbers slice : List ℕ) (sites hs : List SiteId) → slice ≡ numbers → IsOrderedListOf (λ a b. a < b) numbers (λ n. Knows st (At (Variable v) n)) → length sites ≡ length slice
      → ((k : ℕ) (d : SiteId) → k < length slice → (get_or sites k d).0 ≡ get_or slice k d.0) → hs ≡ sites → AreSitesOf st v.0 hs
  sites_listed v numbers slice sites hs same h len each is = subst (λ (xs : List SiteId). AreSitesOf st v.0 xs) (sym is)
      (listed (λ (x : SiteId). x.0) (λ x y e. ap (λ (n : ℕ). object n) e) slice sites (λ n. Knows st (At (Variable v) n)) len each (subst (λ (xs : List ℕ). IsOrderedListOf (λ a b. a < b) xs (λ n. Knows st (At (Variable v) n))) (sym same) h))

  pub targets_listed : (c : CallId) (numbers slice : List ℕ) (methods ms : List MethodId) → slice ≡ numbers → IsOrderedListOf (λ a b. a < b) numbers (λ n. Knows st (At (Targets c) n)) → length methods ≡ length slice
      → ((k : ℕ) (d : MethodId) → k < length slice → (get_or methods k d).0 ≡ get_or slice k d.0) → ms ≡ methods → AreTargetsOf st c.0 ms
  targets_listed c numbers slice methods ms same h len each is = subst (λ (xs : List MethodId). AreTargetsOf st c.0 xs) (sym is)
      (listed (λ (x : MethodId). x.0) (λ x y e. ap (λ (n : ℕ). method n) e) slice methods (λ n. Knows st (At (Targets c) n)) len each (subst (λ (xs : List ℕ). IsOrderedListOf (λ a b. a < b) xs (λ n. Knows st (At (Targets c) n))) (sym same) h))

  pub receivers_listed : (c : CallId) (numbers slice : List ℕ) (alone : Bool) (receivers os : List (Option SiteId)) → slice ≡ numbers → IsOrderedListOf (λ a b. a < b) numbers (λ n. Knows st (At (Receivers c) n))
      → (alone ≡ true) ↔ Knows st (At (Static c) 0) → IsOrderedListOf ReceiverBefore receivers (IsReceiverUpTo alone slice) → os ≡ receivers → AreReceiversOf st c.0 os
  receivers_listed c numbers slice alone receivers os same h static list is = subst (λ (xs : List (Option SiteId)). AreReceiversOf st c.0 xs) (sym is)
      (reworded ReceiverBefore receivers (IsReceiverUpTo alone slice) (λ o. Knows st (coded (OutsideAt c o))) to from list)
    where
      to : (o : Option SiteId) → IsReceiverUpTo alone slice o → Knows st (coded (OutsideAt c o))
      to None p = static.0 p
      to (Some a) p = All-contains (λ n. Knows st (At (Receivers c) n)) numbers a.0 h.each (subst (λ (xs : List ℕ). Contains xs a.0) same p)

      from : (o : Option SiteId) → Knows st (coded (OutsideAt c o)) → IsReceiverUpTo alone slice o
      from None p = static.1 p
      from (Some a) p = subst (λ (xs : List ℕ). Contains xs a.0) (sym same) (h.whole a.0 p)

-- ---- the solution
pub solved : (s : System) (st : Found) (sol : Solution) → IsExact s st → length sol.sites ≡ s.vars → IsTableOf (AreSitesOf st) sol.sites → length sol.targets ≡ length s.calls → IsTableOf (AreTargetsOf st) sol.targets
    → length sol.outside ≡ length s.calls → IsTableOf (AreReceiversOf st) sol.outside → AreCells st sol.cells → length sol.reached ≡ length s.methods → IsTableOf (IsReachedAt st) sol.reached → IsSolutionOf s sol
solved s st sol exact vars sites calls targets outside_calls outside cells methods reached = record {
  vars = vars;
  calls = calls;
  outside_calls = outside_calls;
  methods = methods;
  sites = λ v hs e. reworded SiteBefore hs (λ h. Knows st (coded (Has v h))) (λ h. SystemHolds s (Has v h)) (λ h. (exact (Has v h)).0) (λ h. (exact (Has v h)).1) (sites v.0 hs e);
  targets = λ c ms e. reworded (λ (a : MethodId) (b : MethodId). a.0 < b.0) ms (λ m. Knows st (coded (Calls c m))) (λ m. SystemHolds s (Calls c m)) (λ m. (exact (Calls c m)).0) (λ m. (exact (Calls c m)).1) (targets c.0 ms e);
  outside = λ c os e. reworded ReceiverBefore os (λ o. Knows st (coded (OutsideAt c o))) (λ o. SystemHolds s (OutsideAt c o)) (λ o. (exact (OutsideAt c o)).0) (λ o. (exact (OutsideAt c o)).1) (outside c.0 os e);
  cells = reworded CellBefore sol.cells (KnowsCell st) (λ x. SystemHolds s (Holds x.0 x.1 x.2)) (λ x. (exact (Holds x.0 x.1 x.2)).0) (λ x. (exact (Holds x.0 x.1 x.2)).1) cells;
  reached = λ m b e. let h = reached m.0 b e in (λ t. (exact (Reached m)).0 (h.0 t), λ k. h.1 ((exact (Reached m)).1 k));
}

pub solved_by : (s : System) (st : Found) (sol : Solution) (sites : List (List SiteId)) (targets : List (List MethodId)) (outside : List (List (Option SiteId))) (cells : List (SiteId × FieldId × SiteId)) (reached : List Bool)
    → sol.sites ≡ sites → sol.targets ≡ targets → sol.outside ≡ outside → sol.cells ≡ cells → sol.reached ≡ reached → IsExact s st → length sites ≡ s.vars → IsTableOf (AreSitesOf st) sites → length targets ≡ length s.calls → IsTableOf (AreTargetsOf st) targets
    → length outside ≡ length s.calls → IsTableOf (AreReceiversOf st) outside → AreCells st cells → length reached ≡ length s.methods → IsTableOf (IsReachedAt st) reached → IsSolutionOf s sol
solved_by s st sol sites targets outside cells reached es et eo ec er exact vars ts calls tt' outside_calls to cs methods tr = solved s st sol exact
    (ap (λ xs. length xs) es ∙ vars) (subst (λ xs. IsTableOf (AreSitesOf st) xs) (sym es) ts) (ap (λ xs. length xs) et ∙ calls) (subst (λ xs. IsTableOf (AreTargetsOf st) xs) (sym et) tt')
    (ap (λ xs. length xs) eo ∙ outside_calls) (subst (λ xs. IsTableOf (AreReceiversOf st) xs) (sym eo) to) (subst (λ xs. AreCells st xs) (sym ec) cs) (ap (λ xs. length xs) er ∙ methods) (subst (λ xs. IsTableOf (IsReachedAt st) xs) (sym er) tr)
