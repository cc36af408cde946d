-- What an input keeps, by the row that it was made of.
use Rattle.std.proofs.Common.{◌≡◌, ◌↔◌, ◌<◌, ◌≤◌, ◌+◌, ◌-◌, ◌^◌, ℕ, List, Contains, Some, length, refl, sym, subst, arith}
use Rattle.std.specs.Prelude.{slice_get}
use Rattle.std.proofs.lemmas.Option.{slice_get_within}
use Rattle.slicer_ids.specs.Sets.{IsOrderedListOf}
use Rattle.slicer_ids.specs.declared.ids.LocId.{LocId}
use Rattle.slicer_ids.specs.declared.ids.MethodId.{MethodId}
use Rattle.slicer_ids.specs.declared.ids.NodeId.{NodeId}
use Rattle.dep_form.specs.Among.{ArePoints, IsAmong}
use Rattle.dep_form.specs.declared.node.Edge.{Edge}
use Rattle.dep_form.specs.declared.node.Node.{Node}
use Rattle.std.specs.List.Sorted.{IsPartitionedBy}
use Rattle.std.specs.Global.{Vec}
use Rattle.dep_form.specs.declared.system.System.{System}
use Rattle.dep_form.specs.Nodes.{ComesBefore, is_formal}
use Rattle.program_form.specs.Programs.{Program}
use Rattle.fact_form.specs.NodeNumbers.{IsNumbered}
use Rattle.fact_form.proofs.ItemLists.{map_at}
use Rattle.edge_tables.proofs.CallEdges.{one_row}
use Rattle.edge_tables.proofs.RowParts.{formals_lead}
use Rattle.edge_tables.specs.Rows.{IsRow, IsRowNode}
use Rattle.input_tables.specs.Control.{IsControlOf}
use Rattle.input_tables.specs.Uses.{AreGetsOf, ArePutsOf, IsNodeIn}
use Rattle.input_lists.specs.Inputs.{AreDirectOf, HasRow}
use Rattle.input_lists.specs.Scenes.{IsNumberedProgram, IsScene}
use Rattle.input_lists.specs.declared.scene.Scene.{Scene}

among : (first : ℕ) (nodes : List Node) (n : NodeId) (k : Node) → IsNodeIn first nodes n k → IsAmong first nodes n.0
among first nodes n k (le, at) = (le, omega (arith, le, slice_get_within nodes (n.0 - first) k at))

module _ (x : Scene) (p : Program) (of : IsNumberedProgram x.edges x.effects.effects.now p) (m : MethodId) (first : ℕ) (nodes : List Node) (row : IsRow x.edges.rows.now x.edges.firsts.now m first nodes) where
  pub ends_among : (direct : List Edge) → AreDirectOf x m direct → (e : Edge) → Contains direct e → IsAmong first nodes e.to.0
  ends_among direct are e c =
      let (a, k, j, start, (b, xs, other, is), flow) = (are p of e).0 c in
      let same = one_row x.edges.rows.now x.edges.firsts.now m b first xs nodes other row in
      among first nodes e.to j (subst (λ (z : ℕ). IsNodeIn z nodes e.to j) same.0 (subst (λ (ys : List Node). IsNodeIn b ys e.to j) same.1 is))

  pub flow_points : (points : ℕ) (flow : List (ℕ × ℕ)) → IsControlOf x.edges.bodies.now m points flow → (q r : ℕ) → Contains flow (q, r) → ArePoints points q r
  flow_points points flow are q r c =
      let (b, t, u, body, start, end, flows) = (are.flow_is p of.0.bodies_are q r).0 c in
      ((are.points_are p of.0.bodies_are q).1 (t.pc, (b, t, body, start, refl)), (are.points_are p of.0.bodies_are r).1 (u.pc, (b, u, body, end, refl)))

  module _ (listed : IsOrderedListOf ComesBefore nodes (IsNumbered p x.edges.system.now x.effects.effects.now x.edges.entries.now m)) (points : ℕ) (flow : List (ℕ × ℕ)) (control : IsControlOf x.edges.bodies.now m points flow) where
    pub puts_fit : (puts : List (ℕ × NodeId × LocId)) → ArePutsOf x.edges.bodies.now x.edges.system.now x.effects.effects.now m first nodes puts → (q : ℕ) (n : NodeId) (l : LocId) → Contains puts (q, n, l) → IsAmong first nodes n.0 × (q < points)
    puts_fit puts are q n l c =
        let (pc, k, point, node, defines) = (are p x.edges.entries.now of.0.bodies_are listed q n l).0 c in
        (among first nodes n k node, (control.points_are p of.0.bodies_are q).1 (pc, point))

    pub gets_fit : (gets : List (ℕ × NodeId × LocId)) → AreGetsOf x.edges.bodies.now x.edges.system.now x.effects.effects.now m first nodes gets → (q : ℕ) (n : NodeId) (l : LocId) → Contains gets (q, n, l) → IsAmong first nodes n.0 × (q < points)
    gets_fit gets are q n l c =
        let (pc, k, point, node, uses) = (are p x.edges.entries.now of.0.bodies_are listed q n l).0 c in
        (among first nodes n k node, (control.points_are p of.0.bodies_are q).1 (pc, point))

-- what the parts of an input keep
pub record Fits (first : ℕ) (nodes : List Node) (points : ℕ) (flow : List (ℕ × ℕ)) (direct : List Edge) (puts gets : List (ℕ × NodeId × LocId)) : Type 0 where
  pub small : first + length nodes ≤ 2 ^ 32
  pub few : length nodes < 2 ^ 32
  pub formals_first : IsPartitionedBy is_formal nodes
  pub ends : (e : Edge) → Contains direct e → IsAmong first nodes e.to.0
  pub puts_among : (x : ℕ × NodeId × LocId) → Contains puts x → IsAmong first nodes x.1.0
  pub gets_among : (x : ℕ × NodeId × LocId) → Contains gets x → IsAmong first nodes x.1.0
  pub flow_within : (x : ℕ × ℕ) → Contains flow x → ArePoints points x.0 x.1
  pub puts_within : (x : ℕ × NodeId × LocId) → Contains puts x → x.0 < points
  pub gets_within : (x : ℕ × NodeId × LocId) → Contains gets x → x.0 < points

pub fits : (x : Scene) → IsScene x → (m : MethodId) (first : ℕ) (nodes : List Node) → HasRow x m first nodes → (points : ℕ) (flow : List (ℕ × ℕ)) → IsControlOf x.edges.bodies.now m points flow → (direct : List Edge) → AreDirectOf x m direct
    → (puts gets : List (ℕ × NodeId × LocId)) → ArePutsOf x.edges.bodies.now x.effects.system.now x.effects.effects.now m first nodes puts → AreGetsOf x.edges.bodies.now x.effects.system.now x.effects.effects.now m first nodes gets
    → Fits first nodes points flow direct puts gets
fits x is m first nodes row points flow control direct directs puts gets defines uses =
    let (p, of) = is.numbered.program in
    let (v, here, same, number) = row.0 in
    let listed : IsOrderedListOf ComesBefore nodes (IsNumbered p x.edges.system.now x.effects.effects.now x.edges.entries.now m) =
    subst (λ (ns : List Node). IsOrderedListOf ComesBefore ns (IsNumbered p x.edges.system.now x.effects.effects.now x.edges.entries.now m)) same (of.2.each m v.items (map_at (λ (w : Vec Node). w.items) x.edges.rows.now m.0 v here)) in
    let d : ArePutsOf x.edges.bodies.now x.edges.system.now x.effects.effects.now m first nodes puts = subst (λ (z : System). ArePutsOf x.edges.bodies.now z x.effects.effects.now m first nodes puts) is.system defines in
    let u : AreGetsOf x.edges.bodies.now x.edges.system.now x.effects.effects.now m first nodes gets = subst (λ (z : System). AreGetsOf x.edges.bodies.now z x.effects.effects.now m first nodes gets) is.system uses in
    record {
      small = omega (arith, row.1.numbers);
      few = omega (arith, row.1.numbers);
      formals_first = formals_lead nodes row.1.order;
      ends = ends_among x p of m first nodes row.0 direct directs;
      puts_among = λ z c. (puts_fit x p of m first nodes row.0 listed points flow control puts d z.0 z.1 z.2 c).0;
      gets_among = λ z c. (gets_fit x p of m first nodes row.0 listed points flow control gets u z.0 z.1 z.2 c).0;
      flow_within = λ z c. flow_points x p of m first nodes row.0 points flow control z.0 z.1 c;
      puts_within = λ z c. (puts_fit x p of m first nodes row.0 listed points flow control puts d z.0 z.1 z.2 c).1;
      gets_within = λ z c. (gets_fit x p of m first nodes row.0 listed points flow control gets u z.0 z.1 z.2 c).1;
    }
