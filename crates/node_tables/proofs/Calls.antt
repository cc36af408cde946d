-- The calls of statements, and what the methods that they may go to use.
use Rattle.std.proofs.Common.{◌≡◌, ◌⊎◌, ◌↔◌, ◌<◌, ◌++◌, ℕ, Bool, true, false, not, List, [], ◌∷◌, Contains, length, Option, Some, inl, inr, refl, sym, ap, subst, ◌∙◌, append_assoc, arith}
use Rattle.std.specs.Prelude.{slice_get}
use Rattle.std.specs.Ordering.{nat_cmp}
use Rattle.std.specs.declared.cmp.Ordering.TheVariants.{Less, Equal}
use Rattle.std.proofs.lemmas.Bool.{cases_lt}
use Rattle.std.proofs.lemmas.Cmp.{nat_cmp_total, tied_itself}
use Rattle.std.proofs.lemmas.List.{append-nil}
use Rattle.std.proofs.lemmas.Option.{same_Some}
use Rattle.slicer_ids.specs.Sets.{IsOrderedListOf}
use Rattle.slicer_ids.specs.declared.ids.CallId.{CallId}
use Rattle.slicer_ids.specs.declared.ids.LocId.{LocId}
use Rattle.slicer_ids.specs.declared.ids.MethodId.{MethodId}
use Rattle.slicer_ids.specs.declared.ids.Statement.{Statement}
use Rattle.dep_form.specs.declared.call_site.CallSite.{CallSite}
use Rattle.dep_form.specs.declared.effects.ModRef.{ModRef}
use Rattle.dep_form.specs.declared.node.Node.{Node}
use Rattle.dep_form.specs.declared.node.Node.TheVariants.{Own}
use Rattle.dep_form.specs.declared.system.System.{System}
use Rattle.dep_form.specs.PointsTo.{Calls}
use Rattle.dep_form.specs.Constraints.{IsCallSite, SystemHolds}
use Rattle.dep_form.specs.Nodes.{ComesBefore}
use Rattle.dep_form.specs.Orders.{statement_cmp}
use Rattle.dep_form.proofs.Searching.{statement_total}
use Rattle.program_form.specs.Systems.{IsCallOf}
use Rattle.worklists.specs.Growth.{FromOne}
use Rattle.method_facts.specs.Calls.{ArePlaced, IsCallAt, place_of, statement_or_first}
use Rattle.method_facts.specs.Numbers.{HasNumber, LocBefore}
use Rattle.fact_form.proofs.ItemLists.{pair_at}
use Rattle.node_tables.specs.Segments.{AddsNodes}
use Rattle.node_tables.specs.Statements.{AtCall, AtStatement, IsChangedAt, IsUsedAt}
use Rattle.node_tables.proofs.Joining.{ordered_both, ordered_none, ordered_one, ordered_same}
use Rattle.node_tables.proofs.StatementNodes.{own_before}

pub not_empty : (b : Bool) → (b ≡ true → ⊥) → not b ≡ true
not_empty true h = absurd (h refl)
not_empty false h = refl

pub was_empty : (b : Bool) → not b ≡ true → b ≡ false
was_empty true h = absurd (cc h)
was_empty false h = refl

-- ---- one call at a statement
module _ (calls : List CallSite) (are : ArePlaced calls) (t : Statement) where
  -- where the place of a call is known, so is its comparison
  placed : (k l : CallSite) → k.place ≡ Some t → l.place ≡ Some t → statement_cmp (place_of k) (place_of l) ≡ Equal
  placed k l e f =
      subst (λ (o : Option Statement). statement_cmp (statement_or_first o) (place_of l) ≡ Equal) (sym e)
      (subst (λ (o : Option Statement). statement_cmp t (statement_or_first o) ≡ Equal) (sym f) (tied_itself statement_total t))

  never : (c d : CallId) → IsCallAt calls t c → IsCallAt calls t d → c.0 < d.0 → ⊥
  never c d (k, at, e) (l, there, f) lt =
      let less : statement_cmp (place_of k) (place_of l) ≡ Less = pair_at (λ (a b : CallSite). statement_cmp (place_of a) (place_of b) ≡ Less) calls are.order c.0 d.0 k l lt at there in
      let tied = placed k l e f in
      absurd (cc (sym less ∙ tied))

  pub one_call : (c d : CallId) → IsCallAt calls t c → IsCallAt calls t d → c ≡ d
  one_call c d h g = elim (cases_lt c.0 d.0) [
    | inl lt ↦ absurd (never c d h g lt)
    | inr ge ↦ elim (cases_lt d.0 c.0) [
      | inl lt ↦ absurd (never d c g h lt)
      | inr le ↦ let e : c.0 ≡ d.0 = omega (arith, ge, le) in ap (λ (n : ℕ). record { 0 = n }) e
    ]
  ]

-- ---- locations of the methods that a call may go to
module _ (s : System) (mr : ModRef) (c : CallId) (lists : List (List LocId)) (targets : List MethodId) (is : (m : MethodId) → Contains targets m ↔ SystemHolds s (Calls c m)) (ls : List LocId)
    (o : IsOrderedListOf LocBefore ls (FromOne (HasNumber lists) targets)) where
  pub used_listed : lists ≡ mr.used → IsOrderedListOf LocBefore ls (IsUsedAt s mr c)
  used_listed same = ordered_same LocBefore ls (FromOne (HasNumber lists) targets) (IsUsedAt s mr c)
      (λ n w. (w.0, (is w.0).0 w.1, subst (λ (xs : List (List LocId)). HasNumber xs w.0 n) same w.2))
      (λ n w. (w.0, (is w.0).1 w.1, subst (λ (xs : List (List LocId)). HasNumber xs w.0 n) (sym same) w.2)) o

  pub changed_listed : lists ≡ mr.changed → IsOrderedListOf LocBefore ls (IsChangedAt s mr c)
  changed_listed same = ordered_same LocBefore ls (FromOne (HasNumber lists) targets) (IsChangedAt s mr c)
      (λ n w. (w.0, (is w.0).0 w.1, subst (λ (xs : List (List LocId)). HasNumber xs w.0 n) same w.2))
      (λ n w. (w.0, (is w.0).1 w.1, subst (λ (xs : List (List LocId)). HasNumber xs w.0 n) (sym same) w.2)) o

-- ---- nodes of a statement
pub adds_none : (old : List Node) (P : Node → Type 0) → ((x : Node) → P x → ⊥) → AddsNodes old old P
adds_none old P never = ([], sym (append-nil old), ordered_none ComesBefore P never)

module _ (s : System) (mr : ModRef) (t : Statement) (answers : Bool) where
  -- no call stands there
  pub own_alone : (old new : List Node) → new ≡ old ++ Own t.pc ∷ [] → ((c : CallId) → IsCallAt s.calls t c → ⊥) → AddsNodes old new (AtStatement s mr t answers)
  own_alone old new e none = (Own t.pc ∷ [], e, ordered_same ComesBefore (Own t.pc ∷ []) (λ x. x ≡ Own t.pc) (AtStatement s mr t answers) (λ x h. inl h) from (ordered_one ComesBefore (Own t.pc)))
    where
      from : (x : Node) → AtStatement s mr t answers x → x ≡ Own t.pc
      from x (inl h) = h
      from x (inr (c, k, (site, place), at)) = absurd (none c (k, site, place))

  pub own_and_call : (old mid new : List Node) (c : CallId) (k : CallSite) → ArePlaced s.calls → IsCallSite s c k → k.place ≡ Some t → mid ≡ old ++ Own t.pc ∷ [] → AddsNodes mid new (AtCall s mr c k t.pc answers)
      → AddsNodes old new (AtStatement s mr t answers)
  own_and_call old mid new c k are site place e (more, f, o) = (
    Own t.pc ∷ [] ++ more,
    f ∙ ap (λ (xs : List Node). xs ++ more) e ∙ append_assoc old (Own t.pc ∷ []) more,
    ordered_same ComesBefore (Own t.pc ∷ [] ++ more) (λ x. (x ≡ Own t.pc) ⊎ AtCall s mr c k t.pc answers x) (AtStatement s mr t answers) to from
        (ordered_both ComesBefore (Own t.pc ∷ []) more (λ x. x ≡ Own t.pc) (AtCall s mr c k t.pc answers) (ordered_one ComesBefore (Own t.pc)) o (own_before s mr t.pc c k answers)),
  )
    where
      to : (x : Node) → (x ≡ Own t.pc) ⊎ AtCall s mr c k t.pc answers x → AtStatement s mr t answers x
      to x (inl h) = inl h
      to x (inr at) = inr (c, k, (site, place), at)

      same_site : (d : CallId) (l : CallSite) → d ≡ c → IsCallSite s d l → l ≡ k
      same_site d l same there = same_Some l k (sym (subst (λ (z : CallId). IsCallSite s z l) same there) ∙ site)

      from : (x : Node) → AtStatement s mr t answers x → (x ≡ Own t.pc) ⊎ AtCall s mr c k t.pc answers x
      from x (inl h) = inl h
      from x (inr (d, l, (there, here), at)) =
          let same : d ≡ c = one_call s.calls are t d c (l, there, here) (k, site, place) in
          inr (subst (λ (z : CallSite). AtCall s mr c z t.pc answers x) (same_site d l same there) (subst (λ (z : CallId). AtCall s mr z l t.pc answers x) same at))

pub compares_equal : (x y : ℕ) → x ≡ y → nat_cmp x y ≡ Equal
compares_equal x y e = ap (λ z. nat_cmp z y) e ∙ tied_itself nat_cmp_total y
