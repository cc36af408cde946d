-- The lists by method are the sets of what a method, or one that its calls lead to, defines or uses.
use Rattle.std.proofs.Common.{◌≡◌, ◌⊎◌, ◌↔◌, ◌<◌, ◌≤◌, ℕ, Bool, List, [], ◌∷◌, All, Contains, Some, length, get_or, inl, inr, refl, sym, ap, subst, ◌∙◌, arith}
use Rattle.std.specs.Prelude.{slice_get}
use Rattle.std.specs.Global.{Vec}
use Rattle.std.proofs.lemmas.Bool.{cases_lt}
use Rattle.std.proofs.lemmas.List.Elements.{All-contains, Contains-get_or}
use Rattle.std.proofs.lemmas.Option.{get_or_from_slice_get, slice_get-get_or, slice_get_cases, slice_get_within}
use Rattle.slicer_ids.specs.Sets.{IsOrderedListOf}
use Rattle.slicer_ids.specs.Walks.{IsWalk, LeadsBy}
use Rattle.slicer_ids.specs.declared.ids.CallId.{CallId}
use Rattle.slicer_ids.specs.declared.ids.LocId.{LocId}
use Rattle.slicer_ids.specs.declared.ids.MethodId.{MethodId}
use Rattle.slicer_ids.specs.declared.ids.Statement.{Statement}
use Rattle.dep_form.specs.declared.call_site.CallSite.{CallSite}
use Rattle.dep_form.specs.declared.effects.Location.{Location}
use Rattle.dep_form.specs.declared.rules.Touch.{Touch}
use Rattle.dep_form.specs.declared.system.System.{System}
use Rattle.dep_form.specs.declared.effects.ModRef.{ModRef}
use Rattle.dep_form.specs.Effects.{DefinedIn, IsModRefOf, IsTraced, LocationBefore, MayCall, Mod, Ref, TouchedIn, UsedIn}
use Rattle.mod_ref.specs.Rows.{AreCallers, AreSetsBelow, AreSources, CallsTo, LeadsInto, list_of, method, row_of}
use Rattle.mod_ref.specs.Traced.{AreSetsOf}
use Rattle.mod_ref.specs.declared.effects.Effect.{Effect}
use Rattle.mod_ref.proofs.TableRows.{row_past}
use Rattle.mod_ref.proofs.Within.{place_within, touch_method}

-- ---- methods within the system
touched_within : (s : System) (write : Bool) (m : MethodId) (l : Location) → TouchedIn s write m l → m.0 < length s.methods
touched_within s write m l (t, spot, e, c, at) =
    let x : Touch = record { place = t; write = write; spot = spot } in
    let here : slice_get s.touches c.0 ≡ Some x = slice_get-get_or s.touches c.0 x c.1 ∙ ap (λ (y : Touch). Some y) c.2 in
    subst (λ (n : MethodId). n.0 < length s.methods) e (touch_method s c.0 x here)

call_within : (s : System) (m : MethodId) (k : CallSite) (n : ℕ) → slice_get s.calls n ≡ Some k → ((t : Statement) × (k.place ≡ Some t) × (t.method ≡ m)) → m.0 < length s.methods
call_within s m k n site (t, place, e) = subst (λ (i : MethodId). i.0 < length s.methods) e (place_within s n k t site place)

pub defined_within : (s : System) (m : MethodId) (l : Location) → DefinedIn s m l → m.0 < length s.methods
defined_within s m l (reached, inl t) = touched_within s _ m l t
defined_within s m l (reached, inr (c, k, r, is, d)) = call_within s m k c.0 is.0 is.2

pub used_within : (s : System) (m : MethodId) (l : Location) → UsedIn s m l → m.0 < length s.methods
used_within s m l (reached, inl t) = touched_within s _ m l t
used_within s m l (reached, inr (c, k, r, is, d)) = call_within s m k c.0 is.0 is.2

caller_within : (s : System) (a b : MethodId) → MayCall s a b → a.0 < length s.methods
caller_within s a b (c, k, t, site, place, e, calls) = call_within s a k c.0 site (t, place, e)

-- ---- callers
module _ (s : System) (callers : List (Vec MethodId)) (are : AreCallers s callers) where
  has_row : (a b : MethodId) → CallsTo callers a b → b.0 < length s.methods
  has_row a b c = elim (cases_lt b.0 (length s.methods)) [
    | inl lt ↦ lt
    | inr past ↦ absurd (omega (arith, c.1, ap (λ (ms : List MethodId). length ms) (row_past callers b.0 (omega (arith, past, are.len)))))
  ]

  pub callers_within : (k : ℕ) → All (λ (m : MethodId). m.0 < length callers) (row_of callers k)
  callers_within k i d lt =
      let m = get_or (row_of callers k) i d in
      let there = Contains-get_or (row_of callers k) i d lt in
      omega (arith, are.len, caller_within s m (method k) ((are.each k (has_row m (method k) there) m).0 there))

  walk_to : (a b : MethodId) (xs : List MethodId) → IsWalk (CallsTo callers) a xs b → IsWalk (MayCall s) a xs b
  walk_to a b [] e = e
  walk_to a b (x ∷ xs) (call, rest) = ((are.each x.0 (has_row a x call) a).0 call, walk_to x b xs rest)

  first_within : (a b : MethodId) (xs : List MethodId) → b.0 < length s.methods → IsWalk (MayCall s) a xs b → a.0 < length s.methods
  first_within a b [] lt e = subst (λ (n : MethodId). n.0 < length s.methods) (sym e) lt
  first_within a b (x ∷ xs) lt (call, rest) = caller_within s a x call

  walk_from : (a b : MethodId) (xs : List MethodId) → b.0 < length s.methods → IsWalk (MayCall s) a xs b → IsWalk (CallsTo callers) a xs b
  walk_from a b [] lt e = e
  walk_from a b (x ∷ xs) lt (call, rest) = ((are.each x.0 (first_within x b xs lt rest) a).1 call, walk_from x b xs lt rest)

  -- ---- what was collected of one kind
  module _ (D : MethodId → Location → Type 0) (within : (m : MethodId) (l : Location) → D m l → m.0 < length s.methods) (Traced : Location → Type 0)
      (effects : List Effect) (is : (x : Effect) → Contains effects x ↔ D x.method x.location)
      (locations : List Location) (traced : (l : Location) → Contains locations l ↔ Traced l)
      (sources : List (Vec MethodId)) (len : length sources ≡ length locations) (by : AreSources locations effects sources) where
    pub sources_within : (k : ℕ) → All (λ (m : MethodId). m.0 < length callers) (row_of sources k)
    sources_within k i d lt = elim (slice_get_cases locations k).1 [
      | inl (l, low, at, same) ↦
          let m = get_or (row_of sources k) i d in
          let there = (by k l at m).0 (Contains-get_or (row_of sources k) i d lt) in
          omega (arith, are.len, within m l ((is (record { location = l; method = m })).0 there))
      | inr past ↦ absurd (omega (arith, lt, ap (λ (ms : List MethodId). length ms) (row_past sources k (omega (arith, past.0, len)))))
    ]

    module _ (lists : List (List LocId)) (sets : AreSetsBelow callers sources lists (length sources)) where
      abbrev Comes : MethodId → Location → Type 0
      Comes m l = Traced l × (t : MethodId) × LeadsBy (MayCall s) m t × D t l

      abbrev Has : MethodId → LocId → Type 0
      Has m n = (l : Location) × (slice_get locations n.0 ≡ Some l) × Comes m l

      into : (m : MethodId) (n : LocId) → LeadsInto callers (row_of sources n.0) m → n.0 < length sources → Has m n
      into m n (t, there, (xs, walk)) lt = elim (slice_get_cases locations n.0).1 [
        | inl (l, low, at, same) ↦ (l, at, ((traced l).0 (n.0, low, get_or_from_slice_get locations n.0 l l at), t, (xs, walk_to m t xs walk), (is (record { location = l; method = t })).0 ((by n.0 l at t).0 there)))
        | inr past ↦ absurd (omega (arith, lt, len, past.0))
      ]

      from : (m : MethodId) (n : LocId) → Has m n → LeadsInto callers (row_of sources n.0) m
      from m n (l, at, (tr, t, (xs, walk), d)) = (t, (by n.0 l at t).1 ((is (record { location = l; method = t })).1 d), (xs, walk_from m t xs (within t l d) walk))

      method_below : (m : MethodId) (ls : List LocId) → slice_get lists m.0 ≡ Some ls → m.0 < length callers
      method_below m ls at = omega (arith, slice_get_within lists m.0 ls at, sets.len)

      list_is : (m : MethodId) (ls : List LocId) → slice_get lists m.0 ≡ Some ls → IsOrderedListOf (λ (a : LocId) (b : LocId). a.0 < b.0) ls (Has m)
      list_is m ls at =
          let lt = method_below m ls at in
          let e : list_of lists m.0 ≡ ls = get_or_from_slice_get lists m.0 ls [] at in
          subst (λ (xs : List LocId). IsOrderedListOf (λ (a : LocId) (b : LocId). a.0 < b.0) xs (Has m)) e (record {
            each = λ i d within. let n = get_or (list_of lists m.0) i d in let h = (sets.members m.0 lt n).0 (Contains-get_or (list_of lists m.0) i d within) in into m n h.1 h.0;
            order = sets.rises m.0;
            whole = λ n h. (sets.members m.0 lt n).1 (omega (arith, len, slice_get_within locations n.0 h.0 h.1), from m n h);
          })

      numbers_within : (m : ℕ) (ls : List LocId) → slice_get lists m ≡ Some ls → All (λ (l : LocId). l.0 < length locations) ls
      numbers_within m ls at =
          let lt : m < length callers = omega (arith, slice_get_within lists m ls at, sets.len) in
          let e : list_of lists m ≡ ls = get_or_from_slice_get lists m ls [] at in
          subst (All (λ (l : LocId). l.0 < length locations)) e (λ i d within. let h = (sets.members m lt (get_or (list_of lists m) i d)).0 (Contains-get_or (list_of lists m) i d within) in omega (arith, h.0, len))

      pub sets_are : AreSetsOf s (λ m l. Traced l × (t : MethodId) × LeadsBy (MayCall s) m t × D t l) locations lists
      sets_are = record { methods = sets.len ∙ are.len; each = list_is; within = numbers_within }

-- ---- the answer
pub answer_is : (s : System) (mr : ModRef) (locations : List Location) (changed used : List (List LocId)) → mr.locations ≡ locations → mr.changed ≡ changed → mr.used ≡ used
    → IsOrderedListOf LocationBefore locations (IsTraced s) → AreSetsOf s (Mod s) locations changed → AreSetsOf s (Ref s) locations used → IsModRefOf s mr
answer_is s mr locations changed used l c u order mods refs =
    let h : AreSetsOf s (Mod s) mr.locations mr.changed = subst (λ (ls : List Location). AreSetsOf s (Mod s) ls mr.changed) (sym l) (subst (AreSetsOf s (Mod s) locations) (sym c) mods) in
    let g : AreSetsOf s (Ref s) mr.locations mr.used = subst (λ (ls : List Location). AreSetsOf s (Ref s) ls mr.used) (sym l) (subst (AreSetsOf s (Ref s) locations) (sym u) refs) in
    record {
      locations = subst (λ (ls : List Location). IsOrderedListOf LocationBefore ls (IsTraced s)) (sym l) order;
      changed = h.each;
      used = g.each;
      changed_methods = h.methods;
      used_methods = g.methods;
    }
