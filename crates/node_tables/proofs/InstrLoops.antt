-- Nodes that are added instruction by instruction, and body by body.
use Rattle.std.proofs.Common.{◌≡◌, ◌⊎◌, ◌<◌, ◌≤◌, ◌+◌, ◌++◌, ℕ, List, [], ◌∷◌, Contains, length, get_or, take, Some, inl, inr, refl, sym, ap, subst, ◌∙◌, arith}
use Rattle.std.specs.Prelude.{slice_get}
use Rattle.std.specs.Ordering.{nat_cmp}
use Rattle.std.specs.declared.cmp.Ordering.TheVariants.{Less}
use Rattle.std.proofs.lemmas.Bool.{cases_lt}
use Rattle.std.proofs.lemmas.List.{get_or-take, length-take-le, take_more, take_all}
use Rattle.std.proofs.lemmas.List.Elements.{Contains-append_left, Contains-push, Contains-push_cases}
use Rattle.std.proofs.lemmas.Option.{same_Some, slice_get_within, get_or_from_slice_get}
use Rattle.slicer_ids.specs.declared.ids.MethodId.{MethodId}
use Rattle.class_form.specs.declared.body.Body.{Body}
use Rattle.class_form.specs.declared.body.Instr.{Instr}
use Rattle.class_form.proofs.Indices.{index_in, there_at}
use Rattle.dep_form.specs.declared.effects.ModRef.{ModRef}
use Rattle.dep_form.specs.declared.node.Node.{Node}
use Rattle.dep_form.specs.declared.system.System.{System}
use Rattle.dep_form.specs.Nodes.{ComesBefore}
use Rattle.dep_form.specs.Orders.{RiseBy}
use Rattle.worklist.proofs.Orders.{nat_less}
use Rattle.worklists.specs.Growth.{FromOne}
use Rattle.fact_form.proofs.ItemLists.{pair_at}
use Rattle.node_tables.specs.Segments.{AddsNodes}
use Rattle.node_tables.specs.Statements.{AtInstr}
use Rattle.node_tables.specs.Rows.{AtBody, IsBodyAt}
use Rattle.node_tables.specs.declared.scene.Scene.{Scene}
use Rattle.node_tables.proofs.Joining.{ordered_same}
use Rattle.node_tables.proofs.Calls.{adds_none}
use Rattle.node_tables.proofs.PartOrder.{adds_then}
use Rattle.node_tables.proofs.StatementNodes.{instr_before}

-- ---- a loop over items whose nodes come one after another
module _ {X : Type 0} (R : X → Node → Type 0) (xs : List X) where
  pub adds_first : (old : List Node) → AddsNodes old old (FromOne R (take 0 xs))
  adds_first old = adds_none old (FromOne R (take 0 xs)) (λ x f. omega (arith, f.1.1))

  pub adds_all : (i : ℕ) (old new : List Node) → length xs ≤ i → AddsNodes old new (FromOne R (take i xs)) → AddsNodes old new (FromOne R xs)
  adds_all i old new le g = subst (λ (ys : List X). AddsNodes old new (FromOne R ys)) (take_all i xs le) g

  pub adds_more : (i : ℕ) (d : X) (old mid new : List Node) → i < length xs → ((j : ℕ) (x y : Node) → j < i → R (get_or xs j d) x → R (get_or xs i d) y → ComesBefore x y)
      → AddsNodes old mid (FromOne R (take i xs)) → AddsNodes mid new (R (get_or xs i d)) → AddsNodes old new (FromOne R (take (i + 1) xs))
  adds_more i d old mid new lt before g h =
      subst (λ (ys : List X). AddsNodes old new (FromOne R ys)) (sym (take_more xs i d lt))
      (adds_then old mid new (FromOne R (take i xs)) (R (get_or xs i d)) (FromOne R (take i xs ++ get_or xs i d ∷ [])) first from to g h)
    where
      to : (x : Node) → FromOne R (take i xs ++ get_or xs i d ∷ []) x → FromOne R (take i xs) x ⊎ R (get_or xs i d) x
      to x f = elim (Contains-push_cases (take i xs) (get_or xs i d) f.0 f.1) [ inl c ↦ inl (f.0, c, f.2) | inr is ↦ inr (subst (λ y. R y x) (sym is) f.2) ]

      from : (x : Node) → FromOne R (take i xs) x ⊎ R (get_or xs i d) x → FromOne R (take i xs ++ get_or xs i d ∷ []) x
      from x (inl f) = (f.0, Contains-append_left (take i xs) (get_or xs i d ∷ []) f.0 f.1, f.2)
      from x (inr r) = (get_or xs i d, Contains-push (take i xs) (get_or xs i d), r)

      first : (x y : Node) → FromOne R (take i xs) x → R (get_or xs i d) y → ComesBefore x y
      first x y f r =
          let w = index_in (take i xs) f.0 f.1 in
          let inside : w.0 < i = omega (arith, slice_get_within (take i xs) w.0 f.0 w.1, length-take-le i xs (omega (arith, lt))) in
          let e : get_or xs w.0 d ≡ f.0 = sym (get_or-take i xs w.0 d inside) ∙ get_or_from_slice_get (take i xs) w.0 f.0 d w.1 in
          before w.0 x y inside (subst (λ z. R z x) (sym e) f.2) r

-- ---- the instructions of a body
pub instrs_more : (s : System) (mr : ModRef) (b : Body) (xs : List Instr) (i : ℕ) (d : Instr) (old mid new : List Node) → RiseBy nat_cmp (λ (z : Instr). z.pc) xs → i < length xs
    → AddsNodes old mid (FromOne (AtInstr s mr b) (take i xs)) → AddsNodes mid new (AtInstr s mr b (get_or xs i d)) → AddsNodes old new (FromOne (AtInstr s mr b) (take (i + 1) xs))
instrs_more s mr b xs i d old mid new rise lt g h = adds_more (AtInstr s mr b) xs i d old mid new lt before g h
  where
    before : (j : ℕ) (x y : Node) → j < i → AtInstr s mr b (get_or xs j d) x → AtInstr s mr b (get_or xs i d) y → ComesBefore x y
    before j x y less p q = instr_before s mr b (get_or xs j d) (get_or xs i d) x y (nat_less (get_or xs j d).pc (get_or xs i d).pc (rise j i d less lt)) p q

-- ---- bodies
module _ (x : Scene) (rise : RiseBy nat_cmp (λ (b : Body). b.method.0) x.bodies.now) (m : MethodId) where
  never : (i j : ℕ) (b d : Body) → i < j → IsBodyAt x.bodies.now m i b → IsBodyAt x.bodies.now m j d → ⊥
  never i j b d lt (at, e) (there, f) =
      let less = nat_less b.method.0 d.method.0 (pair_at (λ (y z : Body). nat_cmp y.method.0 z.method.0 ≡ Less) x.bodies.now rise i j b d lt at there) in
      let same : b.method.0 ≡ d.method.0 = ap (λ (z : MethodId). z.0) (e ∙ sym f) in
      omega (arith, less, same)

  one_body : (i j : ℕ) (b d : Body) → IsBodyAt x.bodies.now m i b → IsBodyAt x.bodies.now m j d → d ≡ b
  one_body i j b d is has_it = elim (cases_lt i j) [
    | inl lt ↦ absurd (never i j b d lt is has_it)
    | inr ge ↦ elim (cases_lt j i) [
      | inl lt ↦ absurd (never j i d b lt has_it is)
      | inr le ↦ let e : j ≡ i = omega (arith, ge, le) in same_Some d b (sym (subst (λ n. slice_get x.bodies.now n ≡ Some d) e has_it.0) ∙ is.0)
    ]
  ]

  pub body_nodes : (k : ℕ) (b : Body) (old new : List Node) → IsBodyAt x.bodies.now m k b → AddsNodes old new (FromOne (AtInstr x.system.now x.effects.now b) b.instrs) → AddsNodes old new (AtBody x m)
  body_nodes k b old new is (more, e, o) = (more, e, ordered_same ComesBefore more (FromOne (AtInstr x.system.now x.effects.now b) b.instrs) (AtBody x m) to from o)
    where
      to : (n : Node) → FromOne (AtInstr x.system.now x.effects.now b) b.instrs n → AtBody x m n
      to n f = (b, there_at x.bodies.now k b is.0, is.1, f)

      from : (n : Node) → AtBody x m n → FromOne (AtInstr x.system.now x.effects.now b) b.instrs n
      from n (d, among, f, one) =
          let j = index_in x.bodies.now d among in
          subst (λ (z : Body). FromOne (AtInstr x.system.now x.effects.now z) z.instrs n) (one_body k j.0 b d is (j.1, f)) one

  pub no_body : (old : List Node) → ((b : Body) → Contains x.bodies.now b → b.method ≡ m → ⊥) → AddsNodes old old (AtBody x m)
  no_body old none = adds_none old (AtBody x m) (λ n h. none h.0 h.1 h.2)
