use Rattle.std.proofs.Common.{◌≡◌, ◌++◌, List, map, Some, sym, ap, subst, ◌∙◌, append_assoc, arith}
use Rattle.std.specs.Prelude.{slice_get}
use Rattle.std.proofs.lemmas.Option.{same_Some}
use Rattle.std.proofs.lemmas.Result.{on_ok_weaker}
use Rattle.slicer_ids.specs.declared.ids.LocId.{LocId}
use Rattle.dep_form.proofs.WithinSystem.{thrown_within}
use Rattle.dep_form.specs.declared.node.Node.{Node}
use Rattle.dep_form.specs.declared.node.Node.TheVariants.{Return, Thrown}
use Rattle.node_tables.specs.declared.segments.Heap.TheVariants.{Exit}
use Rattle.node_tables.specs.Segments.{exit_nodes, heap_node, optional}
use Rattle.node_tables.proofs.MethodRows.{changes_listed, three_parts}
use Rattle.node_tables.proofs.StatementNodes.{exit_listed}
use Rattle.node_tables.proofs.rows.add_exit.Goals as goal

pub is_something-throws-requires : goal.is_something-throws-requires
is_something-throws-requires c = omega (arith, thrown_within c.args.scene.now.system.now c.args.m.0 c.vars_of-vars.result.now c.vars_of-vars.ensures, c.requires.scene.solved.vars)

pub returns : goal.returns
returns c =
    let x = c.args.scene.now in
    let s = x.system.now in
    let mr = x.effects.now in
    let m = c.args.m in
    let v = c.vars_of-vars.result.now in
    let throws = c.is_something-throws.result in
    let changed = c.list_of-changed.result.now in
    let there = subst (λ (ls : List (List LocId)). slice_get ls m.0 ≡ Some changed) c.items.ensures c.list_of-changed.ensures in
    let listed = exit_listed s mr m v c.vars_of-vars.ensures (λ w is. same_Some w v (sym is ∙ c.vars_of-vars.ensures)) c.args.answers throws (c.is_something-throws.ensures s c.requires.scene.solved) changed (changes_listed s mr c.requires.scene.effects m changed there) in
    on_ok_weaker c.push_locations.result
    (λ e. (
      exit_nodes c.args.answers throws changed,
      three_parts c.args.nodes.now.items c.push_if.new.nodes.items c.push_if-2.new.nodes.items c.push_locations.new.nodes.items (optional c.args.answers Return) (optional throws Thrown) (map (heap_node Exit) changed) c.in_ok-push_if.ensures c.in_ok-push_if-2.ensures e,
      listed,
    )) c.push_locations.ensures
