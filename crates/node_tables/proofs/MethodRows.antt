-- The rows of methods and of the root.
use Rattle.std.proofs.Common.{◌≡◌, ◌⊎◌, ◌↔◌, ◌<◌, ◌+◌, ◌*◌, ◌++◌, ℕ, suc, Bool, true, List, [], ◌∷◌, Contains, length, length-append, Some, inl, inr, refl, sym, ap, subst, ◌∙◌, append_assoc, arith}
use Rattle.std.specs.Prelude.{slice_get, nat_lt}
use Rattle.std.proofs.lemmas.Option.{slice_get_within}
use Rattle.std.proofs.lemmas.Bool.{cases_lt}
use Rattle.slicer_ids.specs.Sets.{IsOrderedListOf}
use Rattle.slicer_ids.specs.declared.ids.LocId.{LocId}
use Rattle.slicer_ids.specs.declared.ids.MethodId.{MethodId}
use Rattle.dep_form.specs.declared.effects.ModRef.{ModRef}
use Rattle.dep_form.specs.declared.node.Node.{Node}
use Rattle.dep_form.specs.declared.node.Node.TheVariants.{Formal, HeapIn, Return, Thrown, HeapOut}
use Rattle.dep_form.specs.declared.system.System.{System}
use Rattle.dep_form.specs.Nodes.{ComesBefore, is_exit, is_formal, rank}
use Rattle.dep_form.specs.Effects.{IsModRefOf}
use Rattle.fact_form.specs.NodeNumbers.{ChangedBy, UsedBy}
use Rattle.worklists.proofs.Growing.{FromBelow}
use Rattle.method_facts.specs.Numbers.{LocBefore}
use Rattle.method_facts.proofs.LocNumbers.{list_listed}
use Rattle.node_tables.specs.Rows.{AtBody, AtEntryNumber, AtMethod, AtRoot}
use Rattle.node_tables.specs.Segments.{AddsNodes}
use Rattle.node_tables.specs.Statements.{AtEntry, AtEntryCall, AtExit}
use Rattle.node_tables.specs.declared.scene.Scene.{Scene}
use Rattle.node_tables.proofs.Joining.{ordered_both, ordered_same}
use Rattle.node_tables.proofs.PartOrder.{adds_then, by_group, by_place}
use Rattle.node_tables.proofs.Calls.{adds_none}
use Rattle.node_tables.proofs.StatementNodes.{entry_call_place, statement_place}

-- ---- the locations of a method
module _ (s : System) (mr : ModRef) (effects : IsModRefOf s mr) (m : MethodId) (ls : List LocId) where
  pub uses_listed : slice_get mr.used m.0 ≡ Some ls → IsOrderedListOf LocBefore ls (UsedBy mr m)
  uses_listed at = list_listed mr.used m ls at (effects.used m ls at).order

  pub changes_listed : slice_get mr.changed m.0 ≡ Some ls → IsOrderedListOf LocBefore ls (ChangedBy mr m)
  changes_listed at = list_listed mr.changed m ls at (effects.changed m ls at).order

-- ---- groups
module _ (x : Scene) (m : MethodId) where
  entry_group : (n : Node) → AtEntry x.system.now x.effects.now m n → (rank n).group < 2
  entry_group n (inl (v, i, vars, lt, e)) = subst (λ z. (rank z).group < 2) (sym e) (omega arith)
  entry_group n (inr (l, used, e)) = subst (λ z. (rank z).group < 2) (sym e) (omega arith)

  pub body_group : (n : Node) → AtBody x m n → (rank n).group ≡ 2
  body_group n (b, among, e, (i, inside, (point, at))) = (statement_place x.system.now x.effects.now (record { method = b.method; pc = i.pc }) (nat_lt 0 i.leaves) n at).0

  exit_group : (answers : Bool) (n : Node) → AtExit x.system.now x.effects.now m answers n → 2 < (rank n).group
  exit_group answers n (inl (a, e)) = subst (λ z. 2 < (rank z).group) (sym e) (omega arith)
  exit_group answers n (inr (inl (v, h, vars, has_it, e))) = subst (λ z. 2 < (rank z).group) (sym e) (omega arith)
  exit_group answers n (inr (inr (l, changed, e))) = subst (λ z. 2 < (rank z).group) (sym e) (omega arith)

  module _ (answers : Bool) (zero one two three : List Node) (entry : AddsNodes zero one (AtEntry x.system.now x.effects.now m)) (body : AddsNodes one two (AtBody x m))
      (exit : AddsNodes two three (AtExit x.system.now x.effects.now m answers)) where
    abbrev Inner : Node → Type 0
    Inner n = AtEntry x.system.now x.effects.now m n ⊎ AtBody x m n

    inner : AddsNodes zero two Inner
    inner = adds_then zero one two (AtEntry x.system.now x.effects.now m) (AtBody x m) Inner (λ a b p q. by_group a b (omega (arith, entry_group a p, body_group b q))) (λ n h. h) (λ n h. h) entry body

    before : (a b : Node) → Inner a → AtExit x.system.now x.effects.now m answers b → ComesBefore a b
    before a b (inl p) q = by_group a b (omega (arith, entry_group a p, exit_group answers b q))
    before a b (inr p) q = by_group a b (omega (arith, body_group a p, exit_group answers b q))

    to : (n : Node) → Inner n ⊎ AtExit x.system.now x.effects.now m answers n → AtMethod x m answers n
    to n (inl (inl h)) = inl h
    to n (inl (inr h)) = inr (inl h)
    to n (inr h) = inr (inr h)

    from : (n : Node) → AtMethod x m answers n → Inner n ⊎ AtExit x.system.now x.effects.now m answers n
    from n (inl h) = inl (inl h)
    from n (inr (inl h)) = inl (inr h)
    from n (inr (inr h)) = inr h

    pub method_listed : zero ≡ [] → IsOrderedListOf ComesBefore three (AtMethod x m answers)
    method_listed none =
        let (more, e, o) = adds_then zero two three Inner (AtExit x.system.now x.effects.now m answers) (AtMethod x m answers) before to from inner exit in
        subst (λ (ns : List Node). IsOrderedListOf ComesBefore ns (AtMethod x m answers)) (sym (e ∙ ap (λ (ns : List Node). ns ++ more) none)) o

-- ---- the root
module _ (x : Scene) where
  pub root_first : (old : List Node) → AddsNodes old old (FromBelow (AtEntryNumber x) 0)
  root_first old = adds_none old (FromBelow (AtEntryNumber x) 0) (λ n h. omega (arith, h.1))

  pub number_place : (k : ℕ) (n : Node) → AtEntryNumber x k n → ((rank n).group ≡ 2) × ((rank n).pc ≡ k)
  number_place k n (t, at, h) = entry_call_place x.system.now x.effects.now k t n h

  pub root_more : (k : ℕ) (old mid new : List Node) → AddsNodes old mid (FromBelow (AtEntryNumber x) k) → AddsNodes mid new (AtEntryNumber x k) → AddsNodes old new (FromBelow (AtEntryNumber x) (k + 1))
  root_more k old mid new g h = adds_then old mid new (FromBelow (AtEntryNumber x) k) (AtEntryNumber x k) (FromBelow (AtEntryNumber x) (k + 1)) before from to g h
    where
      before : (a b : Node) → FromBelow (AtEntryNumber x) k a → AtEntryNumber x k b → ComesBefore a b
      before a b (j, lt, p) q =
          let y = number_place j a p in
          let z = number_place k b q in
          by_place a b (y.0 ∙ sym z.0) (omega (arith, lt, y.1, z.1))

      from : (n : Node) → FromBelow (AtEntryNumber x) k n ⊎ AtEntryNumber x k n → FromBelow (AtEntryNumber x) (k + 1) n
      from n (inl (j, lt, p)) = (j, omega (arith, lt), p)
      from n (inr q) = (k, omega arith, q)

      to : (n : Node) → FromBelow (AtEntryNumber x) (k + 1) n → FromBelow (AtEntryNumber x) k n ⊎ AtEntryNumber x k n
      to n (j, lt, p) = elim (cases_lt j k) [ inl less ↦ inl (j, less, p) | inr le ↦ let e : j ≡ k = omega (arith, lt, le) in inr (subst (λ i. AtEntryNumber x i n) e p) ]

  pub root_listed : (old new : List Node) (k : ℕ) → old ≡ [] → length x.entries.now ≡ k → AddsNodes old new (FromBelow (AtEntryNumber x) k) → IsOrderedListOf ComesBefore new (AtRoot x)
  root_listed old new k none len (more, e, o) =
      subst (λ (ns : List Node). IsOrderedListOf ComesBefore ns (AtRoot x)) (sym (e ∙ ap (λ (ns : List Node). ns ++ more) none))
      (ordered_same ComesBefore more (FromBelow (AtEntryNumber x) k) (AtRoot x) (λ n h. (h.0, h.2.0, h.2.1, h.2.2)) (λ n h. (h.0, omega (arith, len, slice_get_within x.entries.now h.0 h.1 h.2), (h.1, h.2, h.3))) o)

-- ---- three lists, one after another
pub three_parts : (zero one two three xs ys zs : List Node) → one ≡ zero ++ xs → two ≡ one ++ ys → three ≡ two ++ zs → three ≡ zero ++ (xs ++ ys ++ zs)
three_parts zero one two three xs ys zs e f g =
    g ∙ ap (λ (ns : List Node). ns ++ zs) (f ∙ ap (λ (ns : List Node). ns ++ ys) e ∙ append_assoc zero xs ys) ∙ append_assoc zero (xs ++ ys) zs
