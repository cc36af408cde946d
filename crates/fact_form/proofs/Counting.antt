-- How many nodes a program has: as many as the rows of all methods together.
use Rattle.std.proofs.Common.{◌≡◌, ◌<◌, ◌+◌, ◌++◌, ℕ, suc, List, [], ◌∷◌, length, length-append, Contains, Option, Some, inl, inr, refl, sym, ap, subst, ◌∙◌, arith}
use Rattle.std.specs.Prelude.{slice_get, sum_by}
use Rattle.std.proofs.Math.Logic.{∥∥₁_elim}
use Rattle.std.proofs.Props.{props}
use Rattle.std.proofs.lemmas.List.Elements.{All-contains}
use Rattle.std.proofs.lemmas.List.Sums.{sum_by-cons}
use Rattle.slicer_ids.specs.Sets.{IsOrderedListOf}
use Rattle.slicer_ids.specs.declared.ids.MethodId.{MethodId}
use Rattle.slicer_ids.specs.declared.ids.ClassId.{ClassId}
use Rattle.class_form.proofs.Indices.{index_in, there_at}
use Rattle.dep_form.specs.declared.node.Node.{Node as NodeNumber}
use Rattle.dep_form.specs.declared.rules.Rule.TheVariants.{Enter, Direct}
use Rattle.dep_form.specs.declared.rules.Constraint.{Constraint}
use Rattle.dep_form.specs.declared.system.System.{System}
use Rattle.dep_form.specs.declared.effects.ModRef.{ModRef}
use Rattle.dep_form.specs.PointsTo.{Reached}
use Rattle.dep_form.specs.Constraints.{SystemFact, SystemFollows, SystemHolds}
use Rattle.dep_form.specs.Constraints as system
use Rattle.dep_form.specs.Nodes.{ComesBefore}
use Rattle.dep_form.specs.Summaries.{HasSize}
use Rattle.dep_form.specs.Within.{IfMethod}
use Rattle.dep_form.proofs.WithinSystem.{counts_of, rule_within}
use Rattle.program_form.specs.Programs.{Program}
use Rattle.program_form.specs.Nodes.{Kind, Node, node, IsNode}
use Rattle.program_form.specs.Graphs.{Numbering, KindNumber}
use Rattle.constraint_form.proofs.OnePlace.{one_place}
use Rattle.fact_form.specs.NodeNumbers.{IsNumbered}
use Rattle.fact_form.specs.FactTables.{AreNodeRows}
use Rattle.fact_form.proofs.ItemLists.{IsMadeFrom, make, back, apart, all_of}
use Rattle.fact_form.proofs.MethodNodes.{AreOfMethod, AreOfMethods, no_methods, one_more}
use Rattle.fact_form.proofs.Setting.{Setting, IsNumberingOf}
use Rattle.fact_form.proofs.CallNumbers.{step_of}
use Rattle.fact_form.proofs.NodesAgree.{node_there, node_back, runs_or_root, one_kind, one_kind_number}

-- METHODS THAT MAY RUN HAVE NUMBERS

select_within : (s : System) (signature : ℕ) (c : ClassId) (t : MethodId) → Contains s.selects (signature, c, Some t) → t.0 < length s.methods
select_within s signature c t among =
    ∥∥₁_elim s.within (hlevel props) (λ w. All-contains (λ (x : ℕ × ClassId × Option MethodId). IfMethod (counts_of s) x.2) s.selects (signature, c, Some t) w.5 among)

by_rule : (s : System) (K : SystemFact → Type 0) (m : MethodId) → SystemFollows s K (Reached m) → m.0 < length s.methods
by_rule s K m (system.enter force) =
    let e : Constraint = record { method = force.0; rule = Enter m } in
    let i = index_in s.constraints e force.1 in
    rule_within s i.0 e i.1
by_rule s K m (system.direct_enters {c} force) =
    let e : Constraint = record { method = force.0; rule = Direct c m } in
    let i = index_in s.constraints e force.1 in
    (rule_within s i.0 e i.1).1
by_rule s K m (system.virtual_enters {g} force site receiver (info, c, is, array, class, among)) = select_within s g c m among

pub reached_in_range : (s : System) (m : MethodId) → SystemHolds s (Reached m) → m.0 < length s.methods
reached_in_range s m h = let last = step_of (SystemFollows s) h.0 (Reached m) h.1 h.2 in by_rule s (Contains last.0) m last.2

-- no node comes before itself
before_itself : (k : NodeNumber) → ComesBefore k k → ⊥
before_itself k (inl lt) = omega (arith, lt)
before_itself k (inr (e, inl lt)) = omega (arith, lt)
before_itself k (inr (e, inr (d, inl lt))) = omega (arith, lt)
before_itself k (inr (e, inr (d, inr (f, lt)))) = omega (arith, lt)

module _ (p : Program) (s : System) (mr : ModRef) (entries : List MethodId) (g : Setting p s mr entries) (ns : Numbering) (numbers : IsNumberingOf p s mr entries ns) where
  pub node_in_range : (m : MethodId) (k : NodeNumber) → IsNumbered p s mr entries m k → m.0 < suc (length s.methods)
  node_in_range m k is = elim (runs_or_root p s mr entries g ns numbers m k is) [ inl reached ↦ omega (arith, reached_in_range s m reached) | inr root ↦ omega (arith, root) ]

  -- ONE METHOD

  -- the node of a number
  abbrev IsNodeWith : MethodId → NodeNumber → Node → Type 0
  IsNodeWith m k a = (c : Kind) × KindNumber ns c k × IsNode p (node m c) × (a ≡ node m c)

  -- some of the nodes of a method, by number, and as nodes
  module _ (Q : NodeNumber → Type 0) (P : Node → Type 0) (m : MethodId) (is : (k : NodeNumber) → Q k → IsNumbered p s mr entries m k) (there : (c : Kind) (k : NodeNumber) → KindNumber ns c k → IsNode p (node m c) → Q k → P (node m c))
      (back_again : (a : Node) (k : NodeNumber) → P a → a.method ≡ m → KindNumber ns a.kind k → IsNumbered p s mr entries m k → IsNode p a × Q k) (nodes : (a : Node) → P a → IsNode p a) (ks : List NodeNumber) (row : IsOrderedListOf ComesBefore ks Q) where
    row_nodes : (xs : List Node) × IsMadeFrom (IsNodeWith m) ks xs
    row_nodes = make (IsNodeWith m) ks (λ k c.
        let w = node_back p s mr entries g ns numbers m k (is k (All-contains Q ks k row.each c)) in
        (node m w.0, (w.0, w.1, w.2, refl)))

    module _ (xs : List Node) (made : IsMadeFrom (IsNodeWith m) ks xs) where
      row_each : (a : Node) → Contains xs a → P a × (a.method ≡ m)
      row_each a c =
          let i = index_in xs a c in
          let (k, at, (kd, number, is_node, e)) = back (IsNodeWith m) ks xs made i.0 a i.1 in
          let q : Q k = All-contains Q ks k row.each (there_at ks i.0 k at) in
          (subst (λ z. P z) (sym e) (there kd k number is_node q), ap (λ (z : Node). z.method) e)

      row_once : (i j : ℕ) (a : Node) → slice_get xs i ≡ Some a → slice_get xs j ≡ Some a → i ≡ j
      row_once i j a e f =
          let (k, at, (kd, number, is_node, d)) = back (IsNodeWith m) ks xs made i a e in
          let (l, here, (ld, other, has_node, h)) = back (IsNodeWith m) ks xs made j a f in
          let kinds : ld ≡ kd = ap (λ (z : Node). z.kind) (sym h ∙ d) in
          let same : k ≡ l = one_kind_number p s mr entries g ns numbers kd k l number (subst (λ z. KindNumber ns z l) kinds other) in
          one_place ComesBefore ks row.order before_itself i j k at (subst (λ z. slice_get ks j ≡ Some z) (sym same) here)

      row_whole : (a : Node) → P a → a.method ≡ m → Contains xs a
      row_whole a has_it e =
          let k = node_there p s mr entries g ns numbers a (nodes a has_it) in
          let q = back_again a k.0 has_it e k.1 (subst (λ z. IsNumbered p s mr entries z k.0) e k.2) in
          let i = index_in ks k.0 (row.whole k.0 q.1) in
          let (b, at, (kd, number, is_node, d)) = made.there i.0 k.0 i.1 in
          let kinds : kd ≡ a.kind = one_kind p s mr entries g ns numbers kd a.kind k.0 number k.1 in
          let same : b ≡ a = d ∙ ap (λ z. node m z) kinds ∙ ap (λ z. node z a.kind) (sym e) in
          there_at xs i.0 a (subst (λ z. slice_get xs i.0 ≡ Some z) same at)

    -- the nodes of the method, as many as there are numbers
    pub of_method : (xs : List Node) × AreOfMethod P m xs × (length ks ≡ length xs)
    of_method =
        let w = row_nodes in
        (w.0, record { each = row_each w.0 w.1; once = row_once w.0 w.1; whole = row_whole w.0 w.1 }, w.1.size)

  -- ALL NODES

  abbrev IsRowOf : MethodId → List NodeNumber → Type 0
  IsRowOf m ks = IsOrderedListOf ComesBefore ks (IsNumbered p s mr entries m)

  all_nodes_of : (m : MethodId) (ks : List NodeNumber) → IsRowOf m ks → (xs : List Node) × AreOfMethod (IsNode p) m xs × (length ks ≡ length xs)
  all_nodes_of m ks row = of_method (IsNumbered p s mr entries m) (IsNode p) m (λ k h. h) (λ c k number is q. is) (λ a k is e number has_it. (is, has_it)) (λ a is. is) ks row

  all_listed : (rows : List (List NodeNumber)) (start : ℕ) → ((i : ℕ) (ks : List NodeNumber) → slice_get rows i ≡ Some ks → IsRowOf (record { 0 = start + i }) ks)
      → (xs : List Node) × AreOfMethods (IsNode p) start (length rows) xs × (length xs ≡ sum_by length rows)
  all_listed [] start f = ([], no_methods (IsNode p) start, refl)
  all_listed (ks ∷ rows) start f =
      let here : start + 0 ≡ start = omega arith in
      let row : IsRowOf (record { 0 = start }) ks = subst (λ n. IsRowOf (record { 0 = n }) ks) here (f 0 ks refl) in
      let (xs, first, size) = all_nodes_of (record { 0 = start }) ks row in
      let (ys, rest, sizes) = all_listed rows (suc start) (λ i ls e. let next : start + suc i ≡ suc start + i = omega arith in subst (λ n. IsRowOf (record { 0 = n }) ls) next (f (suc i) ls e)) in
      let sum : length (xs ++ ys) ≡ sum_by length (ks ∷ rows) = omega (arith, length-append xs ys, size, sizes, sum_by-cons (λ (zs : List NodeNumber). length zs) ks rows) in
      (xs ++ ys, one_more (IsNode p) start (length rows) xs ys first rest, sum)

  pub counted : (rows : List (List NodeNumber)) → AreNodeRows p s mr entries rows → HasSize (IsNode p) (sum_by length rows)
  counted rows are =
      let (xs, all, size) = all_listed rows 0 (λ i ks e. let same : i ≡ 0 + i = omega arith in subst (λ n. IsRowOf (record { 0 = n }) ks) same (are.each (record { 0 = i }) ks e)) in (
        xs,
        record {
          each = all_of (IsNode p) xs (λ i a e. (all.each a (there_at xs i a e)).0);
          once = apart xs all.once;
          whole = λ a is.
              let k = node_there p s mr entries g ns numbers a is in
              all.whole a is (omega arith) (omega (arith, node_in_range a.method k.0 k.2, are.count));
        },
        sym size,
      )
