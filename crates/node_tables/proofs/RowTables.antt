-- Tables of rows.
use Rattle.std.proofs.Common.{◌≡◌, ◌<◌, ◌+◌, ◌++◌, ℕ, suc, List, [], ◌∷◌, length, length-append, Some, inl, inr, refl, sym, ap, subst, ◌∙◌, arith}
use Rattle.std.specs.Global.{Vec}
use Rattle.std.specs.Prelude.{map, slice_get}
use Rattle.std.proofs.lemmas.Option.{same_Some, slice_get_within}
use Rattle.std.proofs.lemmas.List.{length-map}
use Rattle.slicer_ids.specs.Sets.{IsOrderedListOf}
use Rattle.slicer_ids.specs.declared.ids.MethodId.{MethodId}
use Rattle.dep_form.specs.declared.node.Node.{Node}
use Rattle.dep_form.specs.Nodes.{ComesBefore}
use Rattle.fact_form.proofs.ItemLists.{joined, mapped}
use Rattle.node_tables.specs.Rows.{AreMethodRows, AreRows, AtReached, AtRoot}
use Rattle.node_tables.specs.declared.scene.Scene.{Scene}

abbrev items_of : Vec Node → List Node
items_of row = row.items

pub no_rows : (x : Scene) (rows : List (Vec Node)) → rows ≡ [] → AreMethodRows x rows 0
no_rows x rows none = record {
  size = ap (λ (zs : List (Vec Node)). length zs) none;
  each = λ m row at. absurd (omega (arith, slice_get_within rows m.0 row at, ap (λ (zs : List (Vec Node)). length zs) none));
}

-- the row at the end
last_row : (rows : List (Vec Node)) (row other : Vec Node) (k : ℕ) → slice_get (row ∷ []) k ≡ Some other → (k ≡ 0) × (row ≡ other)
last_row rows row other k at =
    let first : k ≡ 0 = omega (arith, slice_get_within (row ∷ []) k other at) in
    (first, same_Some row other (subst (λ i. slice_get (row ∷ []) i ≡ Some other) first at))

pub rows_more : (x : Scene) (m : ℕ) (old new : List (Vec Node)) (row : Vec Node) → new ≡ old ++ row ∷ [] → AreMethodRows x old m → IsOrderedListOf ComesBefore row.items (AtReached x (record { 0 = m })) → AreMethodRows x new (m + 1)
rows_more x m old new row e are o = subst (λ (zs : List (Vec Node)). AreMethodRows x zs (m + 1)) (sym e) (record {
  size = omega (arith, are.size, length-append old (row ∷ []));
  each = λ k other at. elim (joined old (row ∷ []) k.0 other at) [
    | inl here ↦ are.each k other here
    | inr there ↦
        let last = last_row old row other there.0 there.2 in
        let same : m ≡ k.0 = omega (arith, there.1, last.0, are.size) in
        subst (λ (z : Vec Node). IsOrderedListOf ComesBefore z.items (AtReached x k)) last.1 (subst (λ (z : ℕ). IsOrderedListOf ComesBefore row.items (AtReached x (record { 0 = z }))) same o)
  ];
})

pub rows_all : (x : Scene) (m : ℕ) (old new : List (Vec Node)) (row : Vec Node) → m ≡ length x.system.now.methods → new ≡ old ++ row ∷ [] → AreMethodRows x old m → IsOrderedListOf ComesBefore row.items (AtRoot x)
    → AreRows x (map items_of new)
rows_all x m old new row end e are o = subst (λ (zs : List (Vec Node)). AreRows x (map items_of zs)) (sym e) (record {
  count = omega (arith, end, are.size, length-append old (row ∷ []), length-map (old ++ row ∷ []) items_of);
  methods = λ k ks lt at.
      let r = mapped items_of (old ++ row ∷ []) k.0 ks at in
      elim (joined old (row ∷ []) k.0 r.0 r.1) [
        | inl here ↦ subst (λ (z : List Node). IsOrderedListOf ComesBefore z (AtReached x k)) r.2 (are.each k r.0 here)
        | inr there ↦ absurd (omega (arith, lt, there.1, are.size, end))
      ];
  root = λ ks at.
      let r = mapped items_of (old ++ row ∷ []) (length x.system.now.methods) ks at in
      elim (joined old (row ∷ []) (length x.system.now.methods) r.0 r.1) [
        | inl here ↦ absurd (omega (arith, slice_get_within old (length x.system.now.methods) r.0 here, are.size, end))
        | inr there ↦
            let last = last_row old row r.0 there.0 there.2 in
            subst (λ (z : List Node). IsOrderedListOf ComesBefore z (AtRoot x)) r.2 (subst (λ (z : Vec Node). IsOrderedListOf ComesBefore z.items (AtRoot x)) last.1 o)
      ];
})
