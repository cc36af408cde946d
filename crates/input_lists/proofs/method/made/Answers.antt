use Rattle.std.proofs.Common.{ℕ, List, AllPairs, refl, sym, subst}
use Rattle.slicer_ids.specs.declared.ids.LocId.{LocId}
use Rattle.slicer_ids.specs.declared.ids.NodeId.{NodeId}
use Rattle.dep_form.specs.declared.node.Edge.{Edge}
use Rattle.dep_form.specs.declared.node.Node.{Node}
use Rattle.dep_form.specs.Graphs.{EdgeBefore}
use Rattle.fact_form.specs.FactTables.{UseBefore}
use Rattle.input_tables.specs.Control.{IsControlOf}
use Rattle.input_tables.specs.Uses.{AreGetsOf, ArePutsOf}
use Rattle.input_lists.specs.Inputs.{AreDirectOf, HasRow}
use Rattle.input_lists.proofs.Keeping.{Fits, fits}
use Rattle.input_lists.proofs.method.made.Goals as goal

pub invariant_of-result : goal.invariant_of-result
invariant_of-result c =
    let x = c.args.scene.now in
    let r = c.requires in
    let nodes = sym c.from_vec.ensures in
    let flow = sym c.from_vec-2.ensures in
    let direct = sym c.from_vec-3.ensures in
    let puts = sym c.from_vec-4.ensures in
    let gets = sym c.from_vec-5.ensures in
    let f = subst (λ (z : List Node × List (ℕ × ℕ) × List Edge × List (ℕ × NodeId × LocId) × List (ℕ × NodeId × LocId)). Fits c.args.first z.0 c.args.control.points z.1 z.2 z.3 z.4) (λ t. (nodes t, flow t, direct t, puts t, gets t))
    (fits x r.scene c.args.m c.args.first c.args.nodes.items r.row c.args.control.points c.args.control.flow.items r.control c.args.direct.items r.direct c.args.puts.items c.args.gets.items r.puts r.gets) in
    record {
      small = f.small;
      few = f.few;
      formals_first = f.formals_first;
      ends = f.ends;
      puts_among = f.puts_among;
      gets_among = f.gets_among;
      flow_within = f.flow_within;
      puts_within = f.puts_within;
      gets_within = f.gets_within;
    }

pub returns : goal.returns
returns c =
    let x = c.args.scene.now in
    let r = c.requires in
    let nodes = sym c.from_vec.ensures in
    let flow = sym c.from_vec-2.ensures in
    let direct = sym c.from_vec-3.ensures in
    let puts = sym c.from_vec-4.ensures in
    let gets = sym c.from_vec-5.ensures in
    record {
      method = refl;
      row = subst (λ (ns : List Node). HasRow x c.args.m c.args.first ns) nodes r.row;
      control = subst (λ (ps : List (ℕ × ℕ)). IsControlOf x.edges.bodies.now c.args.m c.args.control.points ps) flow r.control;
      direct = subst (λ (es : List Edge). AreDirectOf x c.args.m es) direct r.direct;
      direct_order = subst (λ (es : List Edge). AllPairs EdgeBefore es) direct r.direct_order;
      puts = subst (λ (z : List Node × List (ℕ × NodeId × LocId)). ArePutsOf x.edges.bodies.now x.effects.system.now x.effects.effects.now c.args.m c.args.first z.0 z.1) (λ t. (nodes t, puts t)) r.puts;
      puts_order = subst (λ (us : List (ℕ × NodeId × LocId)). AllPairs UseBefore us) puts r.puts_order;
      gets = subst (λ (z : List Node × List (ℕ × NodeId × LocId)). AreGetsOf x.edges.bodies.now x.effects.system.now x.effects.effects.now c.args.m c.args.first z.0 z.1) (λ t. (nodes t, gets t)) r.gets;
      gets_order = subst (λ (us : List (ℕ × NodeId × LocId)). AllPairs UseBefore us) gets r.gets_order;
    }
