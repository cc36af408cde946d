use Rattle.std.proofs.Common.{◌∙◌, [], List, Contains, None, subst, sym}
use Rattle.slicer_ids.specs.declared.ids.NodeId.{NodeId}
use Rattle.dep_form.specs.Slices.{NodesOf}
use Rattle.widening.specs.Widened.{seeds_of, expansions_of}
use Rattle.sessions.proofs.Widening.{itself, as_list, then_same, none_expanded, no_order, turns_to}
use Rattle.sessions.proofs.widened.Widened.new.Goals as goal

pub begin-requires-clause-seeds : goal.begin-requires-clause-seeds
begin-requires-clause-seeds g c =
    (c.args.seeds.now, then_same (Contains c.as_slice.result.now) (Contains c.in_ok-nodes.nodes.items) (NodesOf c.args.f.now.inputs (Contains c.args.seeds.now)) (as_list c.as_slice.result.now c.in_ok-nodes.nodes.items c.as_slice.ensures.value) c.in_ok-nodes.ensures)

pub returns-clause-widened : goal.returns-clause-widened
returns-clause-widened g c =
    let w = c.in_ok-wide.wide in
    record {
      widened = record {
        wide = c.in_ok-wide.ensures.wide;
        order = no_order c.new.result.items c.new.ensures.items;
        accesses = none_expanded c.new.result.items (expansions_of w) c.new.ensures.items c.in_ok-wide.ensures.expansions;
      };
      seeds = then_same (Contains (seeds_of w)) (Contains c.in_ok-nodes.nodes.items) (NodesOf c.args.f.now.inputs (Contains c.args.seeds.now)) (as_list (seeds_of w) c.in_ok-nodes.nodes.items (c.in_ok-wide.ensures.seeds ∙ c.as_slice.ensures.value)) c.in_ok-nodes.ensures;
    }

pub returns-clause-turns : goal.returns-clause-turns
returns-clause-turns g c =
    turns_to c.args.f.now (Contains []) (Contains []) (itself (Contains [])) (Contains c.as_slice.result.now) (NodesOf c.args.f.now.inputs (Contains c.args.seeds.now))
    (then_same (Contains c.as_slice.result.now) (Contains c.in_ok-nodes.nodes.items) (NodesOf c.args.f.now.inputs (Contains c.args.seeds.now)) (as_list c.as_slice.result.now c.in_ok-nodes.nodes.items c.as_slice.ensures.value) c.in_ok-nodes.ensures)
    None c.args.steps.now c.begin.new.steps c.in_ok-wide.ensures.turns
