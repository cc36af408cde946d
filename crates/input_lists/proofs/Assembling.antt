-- Inputs that were made method by method are the inputs of a program.
use Rattle.std.proofs.Common.{◌≡◌, ◌⊎◌, ◌↔◌, ◌<◌, ◌≤◌, ◌+◌, ◌-◌, ℕ, zero, suc, List, Option, Some, None, Contains, length, get_or, map, take, inl, inr, refl, sym, ap, subst, ◌∙◌, arith}
use Rattle.std.specs.Prelude.{slice_get, sum_by}
use Rattle.std.specs.Global.{Vec}
use Rattle.std.proofs.lemmas.Option.{get_or_from_slice_get, same_Some, slice_get_within}
use Rattle.std.proofs.lemmas.Bool.{cases_lt}
use Rattle.std.proofs.lemmas.List.{take_all}
use Rattle.std.proofs.lemmas.List.Sums.{sum_by_more}
use Rattle.std.proofs.lemmas.List.Elements.{All-contains}
use Rattle.slicer_ids.specs.Sets.{IsOrderedListOf}
use Rattle.slicer_ids.specs.declared.ids.LocId.{LocId}
use Rattle.slicer_ids.specs.declared.ids.MethodId.{MethodId}
use Rattle.slicer_ids.specs.declared.ids.NodeId.{NodeId}
use Rattle.class_form.proofs.Indices.{index_at, there_at}
use Rattle.dep_form.specs.declared.effects.ModRef.{ModRef}
use Rattle.dep_form.specs.declared.input.MethodInput.{MethodInput}
use Rattle.dep_form.specs.declared.node.Edge.{Edge}
use Rattle.dep_form.specs.declared.node.Node.{Node}
use Rattle.dep_form.specs.declared.system.System.{System}
use Rattle.dep_form.specs.Constraints.{IsRoot, SystemHolds}
use Rattle.dep_form.specs.Firsts.{node_count, nodes_in}
use Rattle.dep_form.proofs.Firsts.{count_next}
use Rattle.dep_form.specs.Inputs.{IsInputOf, IsNode, IsNodeOf}
use Rattle.dep_form.specs.Nodes.{ComesBefore}
use Rattle.dep_form.specs.PointsTo.{Reached}
use Rattle.program_form.specs.Nodes.{at}
use Rattle.program_form.specs.Programs.{Program}
use Rattle.program_code.proofs.Outside.{calls_back, reached_there}
use Rattle.fact_form.specs.EdgeNumbers.{IsDirect}
use Rattle.fact_form.specs.EffectNumbers.{DefinesNumber, UsesNumber}
use Rattle.fact_form.specs.FactTables.{AreInputs, IsInputFor, IsPointAt}
use Rattle.fact_form.specs.NodeNumbers.{IsNumbered}
use Rattle.fact_form.specs.NodeNumbers as number
use Rattle.fact_form.proofs.CallNumbers.{calling}
use Rattle.fact_form.proofs.Counting.{reached_in_range}
use Rattle.fact_form.proofs.ItemLists.{map_at}
use Rattle.fact_form.proofs.Setting.{Setting}
use Rattle.edge_tables.proofs.CallEdges.{one_row}
use Rattle.edge_tables.specs.Rows.{IsFlowEdge, IsRow, IsRowNode, size_of}
use Rattle.input_tables.specs.Uses.{AreGetsOf, ArePutsOf}
use Rattle.input_lists.specs.Inputs.{AreInputsBelow, IsInputBy, IsOptionOf}
use Rattle.input_lists.specs.Scenes.{IsNumberedProgram, IsScene}
use Rattle.input_lists.specs.declared.scene.Scene.{Scene}

-- the methods of nodes run, or are the root
runs_or_root : (p : Program) (s : System) (mr : ModRef) (entries : List MethodId) → Setting p s mr entries → (m : MethodId) (k : Node) → IsNumbered p s mr entries m k → SystemHolds s (Reached m) ⊎ IsRoot s m
runs_or_root p s mr entries g m k (number.formal reached vars lt) = inl reached
runs_or_root p s mr entries g m k (number.heap_in reached used) = inl reached
runs_or_root p s mr entries g m k (number.own reached op) = inl reached
runs_or_root p s mr entries g m k (number.argument c reached is lt) = inl reached
runs_or_root p s mr entries g m k (number.result reached h) = inl reached
runs_or_root p s mr entries g m k (number.exception c reached is holds) = inl reached
runs_or_root p s mr entries g m k (number.heap_arg {pc} {c} {k = site} {t} is holds used) =
    inl (reached_there p s g.coded g.tie m (calling p s mr entries g (at m pc) t (calls_back p s g.coded g.tie (at m pc) c t (site, is.0, is.1) holds)).0)
runs_or_root p s mr entries g m k (number.heap_result {pc} {c} {k = site} {t} is holds changed) =
    inl (reached_there p s g.coded g.tie m (calling p s mr entries g (at m pc) t (calls_back p s g.coded g.tie (at m pc) c t (site, is.0, is.1) holds)).0)
runs_or_root p s mr entries g m k (number.returned reached h) = inl reached
runs_or_root p s mr entries g m k (number.thrown reached vars holds) = inl reached
runs_or_root p s mr entries g m k (number.heap_out reached changed) = inl reached
runs_or_root p s mr entries g m k (number.root_argument is entry given) = inr is
runs_or_root p s mr entries g m k (number.root_heap_arg is entry used) = inr is
runs_or_root p s mr entries g m k (number.root_heap_result is entry changed) = inr is

module _ (x : Scene) (is : IsScene x) (p : Program) (of : IsNumberedProgram x.edges x.effects.effects.now p) (g : Setting p x.edges.system.now x.effects.effects.now x.edges.entries.now)
    (inputs : List (Option MethodInput)) (are : AreInputsBelow x (length x.edges.rows.now) inputs) where
  abbrev s : System
  s = x.edges.system.now

  abbrev mr : ModRef
  mr = x.effects.effects.now

  abbrev entries : List MethodId
  entries = x.edges.entries.now

  abbrev rows : List (Vec Node)
  rows = x.edges.rows.now

  abbrev firsts : List ℕ
  firsts = x.edges.firsts.now

  row_nodes : (m : MethodId) (v : Vec Node) → slice_get rows m.0 ≡ Some v → IsOrderedListOf ComesBefore v.items (IsNumbered p s mr entries m)
  row_nodes m v e = of.2.each m v.items (map_at (λ (row : Vec Node). row.items) rows m.0 v e)

  runs : (m : MethodId) (v : Vec Node) (i : ℕ) (k : Node) → slice_get rows m.0 ≡ Some v → slice_get v.items i ≡ Some k → SystemHolds s (Reached m) ⊎ IsRoot s m
  runs m v i k e there = runs_or_root p s mr entries g m k (All-contains (IsNumbered p s mr entries m) v.items k (row_nodes m v e).each (there_at v.items i k there))

  -- a method with a row has an input, where it may run
  has_input : (m : MethodId) (o : Option MethodInput) → slice_get inputs m.0 ≡ Some o → SystemHolds s (Reached m) ⊎ IsRoot s m → (i : MethodInput) × (o ≡ Some i) × IsInputBy x m i
  has_input m (Some i) e run = (i, refl, (are.each m (Some i) e).1)
  has_input m None e run = absurd (are.each m None e run)

  by_of : (m : MethodId) (i : MethodInput) → IsInputOf inputs m i → IsInputBy x m i
  by_of m i e = (are.each m (Some i) e).1

  -- ---- nodes by their rows, and by their inputs
  pub to_node : (n : NodeId) (a : MethodId) (k : Node) → IsRowNode rows firsts n a k → IsNode inputs n a k
  to_node n a k (first, nodes, (v, e, same, f), (le, there)) =
      let here : slice_get v.items (n.0 - first) ≡ Some k = subst (λ (ns : List Node). slice_get ns (n.0 - first) ≡ Some k) (sym same) there in
      let o = index_at inputs a.0 (omega (arith, slice_get_within rows a.0 v e, are.size)) in
      let w = has_input a o.0 o.1 (runs a v (n.0 - first) k e here) in
      let one' = one_row rows firsts a first w.0.first.0 nodes w.0.nodes (v, e, same, f) w.2.row.0 in
      (w.0, o.1 ∙ ap (λ (z : Option MethodInput). Some z) w.1, (subst (λ (i : ℕ). i ≤ n.0) one'.0 le, subst (λ (i : ℕ). slice_get w.0.nodes (n.0 - i) ≡ Some k) one'.0 (subst (λ (ns : List Node). slice_get ns (n.0 - first) ≡ Some k) one'.1 there)))

  pub to_row : (n : NodeId) (a : MethodId) (k : Node) → IsNode inputs n a k → IsRowNode rows firsts n a k
  to_row n a k (i, e, node) = (i.first.0, i.nodes, (by_of a i e).row.0, node)

  in_input : (m : MethodId) (i : MethodInput) → IsInputOf inputs m i → (n : NodeId) (j : Node) → IsRowNode rows firsts n m j → IsNodeOf i n j
  in_input m i e n j (first, nodes, row, (le, there)) =
      let one' = one_row rows firsts m first i.first.0 nodes i.nodes row (by_of m i e).row.0 in
      (subst (λ (z : ℕ). z ≤ n.0) one'.0 le, subst (λ (z : ℕ). slice_get i.nodes (n.0 - z) ≡ Some j) one'.0 (subst (λ (ns : List Node). slice_get ns (n.0 - first) ≡ Some j) one'.1 there))

  -- ---- one input
  module _ (m : MethodId) (i : MethodInput) (e : IsInputOf inputs m i) where
    abbrev by : IsInputBy x m i
    by = by_of m i e

    nodes_are : IsOrderedListOf ComesBefore i.nodes (IsNumbered p s mr entries m)
    nodes_are = let (v, here, same, first) = by.row.0 in subst (λ (ns : List Node). IsOrderedListOf ComesBefore ns (IsNumbered p s mr entries m)) same (row_nodes m v here)

    direct_is : (d : Edge) → Contains i.direct d ↔ ((a : MethodId) × (k : Node) × (j : Node) × IsNode inputs d.from a k × IsNodeOf i d.to j × IsDirect p s entries a k m j d.label)
    direct_is d =
        let w = by.direct p of d in (
          λ c. let (a, k, j, start, end, flow) = w.0 c in (a, k, j, to_node d.from a k start, in_input m i e d.to j end, flow),
          λ (a, k, j, start, end, flow). w.1 (a, k, j, to_row d.from a k start, (i.first.0, i.nodes, by.row.0, end), flow),
        )

    puts_are : ArePutsOf x.edges.bodies.now s mr m i.first.0 i.nodes i.puts
    puts_are = subst (λ (z : System). ArePutsOf x.edges.bodies.now z mr m i.first.0 i.nodes i.puts) is.system by.puts

    gets_are : AreGetsOf x.edges.bodies.now s mr m i.first.0 i.nodes i.gets
    gets_are = subst (λ (z : System). AreGetsOf x.edges.bodies.now z mr m i.first.0 i.nodes i.gets) is.system by.gets

    pub input_is : IsInputFor p s mr entries inputs m i
    input_is = record {
      nodes = nodes_are;
      points = by.control.points_are p of.0.bodies_are;
      direct = direct_is;
      flow = by.control.flow_is p of.0.bodies_are;
      puts = puts_are p entries of.0.bodies_are nodes_are;
      gets = gets_are p entries of.0.bodies_are nodes_are;
      direct_order = by.direct_order;
      flow_order = by.control.flow_order;
      puts_order = by.puts_order;
      gets_order = by.gets_order;
    }

  -- ---- how many nodes the first inputs have
  size_of_option : (m : MethodId) (v : Vec Node) (o : Option MethodInput) → slice_get rows m.0 ≡ Some v → slice_get inputs m.0 ≡ Some o → nodes_in o ≡ size_of v
  size_of_option m v (Some i) e f =
      let (w, here, same, first) = (by_of m i f).row.0 in
      ap (λ (ns : List Node). length ns) (sym same ∙ ap (λ (z : Vec Node). z.items) (same_Some w v (sym here ∙ e)))
  size_of_option m v None e f = elim (cases_lt 0 (length v.items)) [
    | inl lt ↦ let k = index_at v.items 0 lt in absurd (are.each m None f (runs m v 0 k.0 e k.1))
    | inr le ↦ omega (arith, le)
  ]

  count_more : (m : ℕ) → m < length inputs → node_count (take m inputs) ≡ sum_by size_of (take m rows) → node_count (take (m + 1) inputs) ≡ sum_by size_of (take (m + 1) rows)
  count_more m lt before =
      let o = index_at inputs m lt in
      let within : m < length rows = omega (arith, lt, are.size) in
      let v = index_at rows m within in
      let same = size_of_option (record { 0 = m }) v.0 o.0 v.1 o.1 in
      let last : get_or rows m v.0 ≡ v.0 = get_or_from_slice_get rows m v.0 v.0 v.1 in
      omega (arith, before, count_next inputs m o.0 o.1, sum_by_more size_of rows m v.0 within, same, ap size_of last)

  same_count : (m : ℕ) → node_count (take m inputs) ≡ sum_by size_of (take m rows)
  same_count zero = refl
  same_count (suc m) =
      let next : m + 1 ≡ suc m = omega arith in
      elim (cases_lt m (length inputs)) [
        | inl lt ↦ subst (λ (n : ℕ). node_count (take n inputs) ≡ sum_by size_of (take n rows)) next (count_more m lt (same_count m))
        | inr ge ↦
            let a : length inputs ≤ suc m = omega (arith, ge) in
            let b : length rows ≤ m = omega (arith, ge, are.size) in
            let d : length rows ≤ suc m = omega (arith, b) in
            ap node_count (take_all (suc m) inputs a) ∙ sym (ap node_count (take_all m inputs ge)) ∙ same_count m ∙ ap (λ (vs : List (Vec Node)). sum_by size_of vs) (take_all m rows b) ∙ sym (ap (λ (vs : List (Vec Node)). sum_by size_of vs) (take_all (suc m) rows d))
      ]

  pub all_count : node_count inputs ≡ sum_by size_of rows
  all_count =
      let a : length inputs ≤ length inputs = omega arith in
      let b : length rows ≤ length inputs = omega (arith, are.size) in
      sym (ap node_count (take_all (length inputs) inputs a)) ∙ same_count (length inputs) ∙ ap (λ (vs : List (Vec Node)). sum_by size_of vs) (take_all (length inputs) rows b)

  in_range : (m : MethodId) → SystemHolds s (Reached m) ⊎ IsRoot s m → m.0 < length inputs
  in_range m (inl reached) = omega (arith, reached_in_range s m reached, are.size, is.numbered.edges.count)
  in_range m (inr root) = omega (arith, root, are.size, is.numbered.edges.count)

  pub inputs_are : AreInputs p s mr entries inputs
  inputs_are = record {
    methods = are.size ∙ is.numbered.edges.count;
    follow_on = λ m i e.
        let by = by_of (record { 0 = m }) i e in
        let (v, here, same, first) = by.row.0 in
        (ap (λ (z : MethodId). z.0) by.method, is.numbered.edges.rows.firsts_are.are m i.first.0 first ∙ sym (same_count m));
    whole = λ m. (
      λ (i, e). (are.each m (Some i) e).0,
      λ run.
          let o = index_at inputs m.0 (in_range m run) in
          let w = has_input m o.0 o.1 run in
          (w.0, o.1 ∙ ap (λ (z : Option MethodInput). Some z) w.1),
    );
    each = input_is;
  }
