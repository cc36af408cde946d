use Rattle.std.proofs.Common.{◌≡◌, List, map, Some, sym, subst, ◌∙◌}
use Rattle.std.specs.Prelude.{slice_get}
use Rattle.std.proofs.lemmas.Result.{on_ok_weaker}
use Rattle.slicer_ids.specs.declared.ids.LocId.{LocId}
use Rattle.dep_form.specs.declared.node.Node.TheVariants.{Argument}
use Rattle.node_tables.specs.declared.segments.Heap.TheVariants.{Before, After}
use Rattle.node_tables.specs.Segments.{heap_node, optional, root_nodes}
use Rattle.node_tables.proofs.MethodRows.{changes_listed, three_parts, uses_listed}
use Rattle.node_tables.proofs.StatementNodes.{entry_call_listed}
use Rattle.node_tables.proofs.rows.add_entry_call.Goals as goal

pub returns : goal.returns
returns c = λ gives.
    let x = c.args.scene.now in
    let s = x.system.now in
    let mr = x.effects.now in
    let t = c.args.t in
    let k = c.args.k in
    let used = c.list_of-used.result.now in
    let changed = c.list_of-changed.result.now in
    let uses = uses_listed s mr c.requires.scene.effects t used (subst (λ (ls : List (List LocId)). slice_get ls t.0 ≡ Some used) c.items.ensures c.list_of-used.ensures) in
    let changes = changes_listed s mr c.requires.scene.effects t changed (subst (λ (ls : List (List LocId)). slice_get ls t.0 ≡ Some changed) c.items-2.ensures c.list_of-changed.ensures) in
    on_ok_weaker c.push_locations-2.result
    (λ e. (
      root_nodes k c.args.given used changed,
      three_parts c.args.nodes.now.items c.push_if.new.nodes.items c.push_locations.new.nodes.items c.push_locations-2.new.nodes.items (optional c.args.given (Argument k 0)) (map (heap_node (Before k)) used) (map (heap_node (After k)) changed) c.in_ok-push_if.ensures c.in_ok-push_locations.ensures e,
      entry_call_listed s mr k t c.args.given gives used changed uses changes,
    )) c.push_locations-2.ensures
