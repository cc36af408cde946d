-- Rows of tables, as they grow.
use Rattle.std.proofs.Common.{◌≡◌, ◌≢◌, ◌⊎◌, ◌↔◌, ◌<◌, ◌≤◌, ◌+◌, ℕ, zero, suc, List, [], ◌∷◌, ◌++◌, Some, None, Contains, length, get_or, set, take, inl, inr, refl, sym, ap, subst, ◌∙◌, arith}
use Rattle.std.specs.Prelude.{slice_get}
use Rattle.std.specs.Global.{Vec}
use Rattle.std.specs.Option.{option_map_or}
use Rattle.std.proofs.lemmas.Bool.{cases_eq, cases_lt}
use Rattle.std.proofs.lemmas.Option.{same_Some, slice_get_past, slice_get_read, slice_get_within}
use Rattle.slicer_ids.specs.declared.ids.CallId.{CallId}
use Rattle.slicer_ids.specs.declared.ids.MethodId.{MethodId}
use Rattle.slicer_ids.specs.declared.ids.Statement.{Statement}
use Rattle.worklists.specs.Growth.{FromOne}
use Rattle.worklists.proofs.Growing.{FromBelow}
use Rattle.dep_form.specs.declared.call_site.CallSite.{CallSite}
use Rattle.dep_form.specs.declared.effects.Location.{Location}
use Rattle.dep_form.specs.declared.system.System.{System}
use Rattle.dep_form.specs.Constraints.{IsCallSite, SystemHolds}
use Rattle.dep_form.specs.Effects.{MayCall}
use Rattle.dep_form.specs.PointsTo.{Calls}
use Rattle.points_to.proofs.Slots.{get_set_same, get_set_other}
use Rattle.mod_ref.specs.Gains.{Gains}
use Rattle.mod_ref.specs.Rows.{AreSources, AtCaller, AtSource, RowsGain, method, row_of}
use Rattle.mod_ref.specs.declared.effects.Effect.{Effect}
use Rattle.mod_ref.proofs.Gaining.{gains_none, gains_push, gains_same, gains_first, gains_more, gains_all, gains_next, gains_start, gained}
use Rattle.mod_ref.proofs.Orders.{effect_is}

pub row_read : {X : Type 0} (rows : List (Vec X)) (k : ℕ) (row : Vec X) → k < length rows → row ≡ get_or rows k row → row.items ≡ row_of rows k
row_read {X} rows k row lt e = sym (ap (λ o. option_map_or (λ (v : Vec X). v.items) o []) (slice_get_read rows (length rows) k row refl lt e))

pub row_past : {X : Type 0} (rows : List (Vec X)) (k : ℕ) → length rows ≤ k → row_of rows k ≡ []
row_past {X} rows k le = ap (λ o. option_map_or (λ (v : Vec X). v.items) o []) (slice_get_past rows k le)

row_same : {X : Type 0} (rows : List (Vec X)) (k : ℕ) (row : Vec X) → k < length rows → row_of (set rows k row) k ≡ row.items
row_same {X} rows k row lt = ap (λ o. option_map_or (λ (v : Vec X). v.items) o []) (get_set_same rows k row lt)

row_other : {X : Type 0} (rows : List (Vec X)) (k j : ℕ) (row : Vec X) → j ≢ k → row_of (set rows k row) j ≡ row_of rows j
row_other {X} rows k j row ne = ap (λ o. option_map_or (λ (v : Vec X). v.items) o []) (get_set_other rows k j row ne)

pub none_more : {X : Type 0} (rows : List (Vec X)) (row : Vec X) → row.items ≡ [] → ((k : ℕ) → row_of rows k ≡ []) → (k : ℕ) → row_of (rows ++ row ∷ []) k ≡ []
none_more [] row e h zero = e
none_more [] row e h (suc k) = row_past (row ∷ []) (suc k) (omega arith)
none_more (x ∷ rows) row e h zero = h zero
none_more (x ∷ rows) row e h (suc k) = none_more rows row e (λ j. h (suc j)) k

-- the row that was written got an element, and no other changed
pub row_pushed : {X : Type 0} (rows : List (Vec X)) (k : ℕ) (old new : Vec X) (x : X) → k < length rows → old ≡ get_or rows k old → new.items ≡ old.items ++ x ∷ [] → RowsGain rows (set rows k new) (λ j y. (j ≡ k) × (y ≡ x))
row_pushed {X} rows k old new x lt at is j within = elim (cases_eq j k) [
  | inl e ↦
      let here : Gains (row_of rows k) (row_of (set rows k new) k) (λ y. y ≡ x) = gains_push (row_of rows k) (row_of rows k) (row_of (set rows k new) k) x (λ y. (λ c. c, λ c. c)) (row_same rows k new lt ∙ is ∙ ap (λ (ys : List X). ys ++ x ∷ []) (row_read rows k old lt at)) in
      gains_same (row_of rows j) (row_of (set rows k new) j) (λ y. y ≡ x) (λ y. (j ≡ k) × (y ≡ x)) (λ y. (λ p. (e, p), λ p. p.1)) (subst (λ i. Gains (row_of rows i) (row_of (set rows k new) i) (λ y. y ≡ x)) (sym e) here)
  | inr ne ↦ subst (λ (ys : List X). Gains (row_of rows j) ys (λ y. (j ≡ k) × (y ≡ x))) (sym (row_other rows k j new ne)) (gains_none (row_of rows j) (λ y. (j ≡ k) × (y ≡ x)) (λ y p. ne p.0))
]

-- nothing changed
pub rows_none : {X : Type 0} (rows : List (Vec X)) (P : ℕ → X → Type 0) → ((k : ℕ) (x : X) → k < length rows → P k x → ⊥) → RowsGain rows rows P
rows_none rows P never k lt = gains_none (row_of rows k) (P k) (λ x. never k x lt)

pub rows_same : {X : Type 0} (old new : List (Vec X)) (P Q : ℕ → X → Type 0) → ((k : ℕ) (x : X) → k < length old → P k x ↔ Q k x) → RowsGain old new P → RowsGain old new Q
rows_same old new P Q is g k lt = gains_same (row_of old k) (row_of new k) (P k) (Q k) (λ x. is k x lt) (g k lt)

-- a loop over elements
pub rows_first : {X Y : Type 0} (R : Y → ℕ → X → Type 0) (ys : List Y) (rows : List (Vec X)) → RowsGain rows rows (λ k. FromOne (λ y. R y k) (take 0 ys))
rows_first R ys rows k lt = gains_first (λ y. R y k) ys (row_of rows k)

pub rows_more : {X Y : Type 0} (R : Y → ℕ → X → Type 0) (ys : List Y) (i : ℕ) (d : Y) (old mid new : List (Vec X)) → i < length ys → length mid ≡ length old
    → RowsGain old mid (λ k. FromOne (λ y. R y k) (take i ys)) → RowsGain mid new (R (get_or ys i d)) → RowsGain old new (λ k. FromOne (λ y. R y k) (take (i + 1) ys))
rows_more R ys i d old mid new lt len g h k within = gains_more (λ y. R y k) ys i d (row_of old k) (row_of mid k) (row_of new k) lt (g k within) (h k (omega (arith, within, len)))

pub rows_all : {X Y : Type 0} (R : Y → ℕ → X → Type 0) (ys : List Y) (i : ℕ) (old new : List (Vec X)) → length ys ≤ i → RowsGain old new (λ k. FromOne (λ y. R y k) (take i ys)) → RowsGain old new (λ k. FromOne (λ y. R y k) ys)
rows_all R ys i old new le g k lt = gains_all (λ y. R y k) ys i (row_of old k) (row_of new k) le (g k lt)

-- ---- methods by location
pub source_is : (locations : List Location) (x : Effect) (n : ℕ) → ((k : ℕ) → (Some n ≡ Some k) ↔ (slice_get locations k ≡ Some x.location)) → (k : ℕ) (m : MethodId)
    → ((k ≡ n) × (m ≡ x.method)) ↔ AtSource locations x k m
source_is locations x n is k m = (
  λ (e, f). (x.location, (is k).0 (ap (λ (i : ℕ). Some i) (sym e)), effect_is x (record { location = x.location; method = m }) refl (sym f)),
  λ (l, at, e). (
    sym (same_Some n k ((is k).1 (at ∙ ap (λ (y : Effect). Some y.location) (sym e)))),
    ap (λ (y : Effect). y.method) (sym e),
  ),
)

pub sources_are : (locations : List Location) (effects : List Effect) (none rows : List (Vec MethodId)) → length none ≡ length locations → ((k : ℕ) → row_of none k ≡ [])
    → RowsGain none rows (λ k. FromOne (λ x. AtSource locations x k) effects) → AreSources locations effects rows
sources_are locations effects none rows len empty g k l at m =
    let within : k < length none = omega (arith, len, slice_get_within locations k l at) in
    let is = gained (row_of none k) (row_of rows k) (FromOne (λ x. AtSource locations x k) effects) (empty k) (g k within) m in (
      λ c. let f = is.0 c in
          let same : f.2.0 ≡ l = same_Some f.2.0 l (sym f.2.1 ∙ at) in
          subst (λ (y : Location). Contains effects (record { location = y; method = m })) same (subst (Contains effects) f.2.2 f.1),
      λ c. is.1 (record { location = l; method = m }, c, (l, at, refl)),
    )

-- ---- callers
pub targets_is : (s : System) (c : CallId) (targets : List MethodId) (k : CallSite) (t : Statement) → IsCallSite s c k → k.place ≡ Some t
    → ((m : MethodId) → Contains targets m ↔ SystemHolds s (Calls c m)) → (n : ℕ) (m : MethodId)
    → FromOne (λ (y : MethodId) m. (y.0 ≡ n) × (m ≡ t.method)) targets m ↔ AtCaller s c n m
targets_is s c targets k t site place is n m = (
  λ (y, there, (e, f)). (k, t, site, place, sym f, subst (λ (i : ℕ). SystemHolds s (Calls c (method i))) e ((is y).0 there)),
  λ (other, u, at, by, f, calls).
      let same : other ≡ k = same_Some other k (sym at ∙ site) in
      let there : u ≡ t = same_Some u t (sym by ∙ ap (λ (z : CallSite). z.place) same ∙ place) in
      (method n, (is (method n)).1 calls, (refl, sym f ∙ ap (λ (z : Statement). z.method) there)),
)

pub no_caller : (s : System) (c : CallId) (k : CallSite) (n : ℕ) (m : MethodId) → IsCallSite s c k → k.place ≡ None → AtCaller s c n m → ⊥
no_caller s c k n m site none (other, u, at, by, f, calls) =
    let same : other ≡ k = same_Some other k (sym at ∙ site) in
    cc (sym by ∙ ap (λ (z : CallSite). z.place) same ∙ none)

pub callers_is : (s : System) (n : ℕ) (m : MethodId) → FromBelow (λ c. AtCaller s (record { 0 = c }) n) (length s.calls) m ↔ MayCall s m (method n)
callers_is s n m = (
  λ (c, lt, (k, t, site, place, e, calls)). (record { 0 = c }, k, t, site, place, e, calls),
  λ (c, k, t, site, place, e, calls). (c.0, slice_get_within s.calls c.0 k site, (k, t, site, place, e, calls)),
)
