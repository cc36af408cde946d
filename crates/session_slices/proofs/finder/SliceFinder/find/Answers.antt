use Rattle.std.proofs.Common.{◌↔◌, Contains, arith}
use Rattle.slicer_ids.specs.declared.ids.NodeId.{NodeId}
use Rattle.dep_form.specs.Slices.{NodesOf}
use Rattle.summary_memo.specs.Memo.{view_of}
use Rattle.thin_slice.specs.Walks.{seeds_of}
use Rattle.session_slices.proofs.Slicing.{on_ok_to, statements_of_seeds, needed_of_seeds, needed_for_seeds, rows_for_seeds, listed_seeds, nodes_below}
use Rattle.session_slices.proofs.finder.SliceFinder.find.Goals as goal

pub start-requires : goal.start-requires
start-requires g c = (c.args.f.now, c.requires.finder.walk, nodes_below c.args.f.now c.args.seeds.now c.as_slice.result.now c.list_nodes.new.nodes.items c.as_slice.ensures.value c.list_nodes.ensures.members)

pub finish-requires-clause-walking : goal.finish-requires-clause-walking
finish-requires-clause-walking g c = c.start.ensures.walking c.args.f.now c.args.mode c.requires.finder.walk

pub returns-clause-finder : goal.returns-clause-finder
returns-clause-finder g c = record {
  walk = c.finish.ensures.walk;
  size = c.requires.finder.size;
  nodes = omega (arith, c.requires.finder.size, c.list_nodes.ensures.capacity);
  statements = omega (arith, c.requires.finder.size, c.finish.ensures.room);
}

pub returns-clause-statements : goal.returns-clause-statements
returns-clause-statements g c =
    let same = listed_seeds c.args.f.now c.args.seeds.now (seeds_of c.start.new.self) c.as_slice.result.now c.list_nodes.new.nodes.items c.start.ensures.seeds c.as_slice.ensures.value c.list_nodes.ensures.members in
    on_ok_to c.finish.result (statements_of_seeds c.args.f.now c.args.mode (Contains (seeds_of c.start.new.self)) (NodesOf c.args.f.now.inputs (Contains c.args.seeds.now)) same c.finish.new.found.items) c.finish.ensures.statements

pub returns-clause-needed : goal.returns-clause-needed
returns-clause-needed g c =
    let same = listed_seeds c.args.f.now c.args.seeds.now (seeds_of c.start.new.self) c.as_slice.result.now c.list_nodes.new.nodes.items c.start.ensures.seeds c.as_slice.ensures.value c.list_nodes.ensures.members in
    on_ok_to c.finish.result (needed_of_seeds c.args.f.now c.args.mode (Contains (seeds_of c.start.new.self)) (NodesOf c.args.f.now.inputs (Contains c.args.seeds.now)) same c.finish.new.pass (view_of c.finish.new.seat)) c.finish.ensures.needed

pub returns-clause-had : goal.returns-clause-had
returns-clause-had g c = λ h.
    let same = listed_seeds c.args.f.now c.args.seeds.now (seeds_of c.start.new.self) c.as_slice.result.now c.list_nodes.new.nodes.items c.start.ensures.seeds c.as_slice.ensures.value c.list_nodes.ensures.members in
    c.finish.ensures.had (needed_for_seeds c.args.f.now c.args.mode (Contains (seeds_of c.start.new.self)) (NodesOf c.args.f.now.inputs (Contains c.args.seeds.now)) same c.args.pass.now (view_of c.args.seat.now) h)

pub returns-clause-rows : goal.returns-clause-rows
returns-clause-rows g c = λ h.
    let same = listed_seeds c.args.f.now c.args.seeds.now (seeds_of c.start.new.self) c.as_slice.result.now c.list_nodes.new.nodes.items c.start.ensures.seeds c.as_slice.ensures.value c.list_nodes.ensures.members in
    c.finish.ensures.rows (rows_for_seeds c.args.f.now c.args.mode (Contains (seeds_of c.start.new.self)) (NodesOf c.args.f.now.inputs (Contains c.args.seeds.now)) same (view_of c.args.seat.now) h)
