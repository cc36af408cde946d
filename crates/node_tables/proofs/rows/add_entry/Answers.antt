use Rattle.std.proofs.Common.{◌≡◌, ◌++◌, ℕ, List, length, map, Some, sym, ap, subst, ◌∙◌, append_assoc, arith}
use Rattle.std.specs.Prelude.{slice_get}
use Rattle.std.proofs.lemmas.Option.{same_Some}
use Rattle.std.proofs.lemmas.Result.{on_ok_weaker}
use Rattle.slicer_ids.specs.Sets.{IsOrderedListOf}
use Rattle.slicer_ids.specs.declared.ids.LocId.{LocId}
use Rattle.dep_form.specs.declared.node.Node.{Node}
use Rattle.dep_form.specs.declared.rules.Var.{Var}
use Rattle.dep_form.specs.Nodes.{ComesBefore}
use Rattle.node_tables.specs.declared.segments.Heap.TheVariants.{Entry}
use Rattle.node_tables.specs.Segments.{entry_nodes, formals, heap_node}
use Rattle.node_tables.specs.Statements.{AtEntry}
use Rattle.node_tables.proofs.MethodRows.{uses_listed}
use Rattle.node_tables.proofs.StatementNodes.{entry_listed}
use Rattle.node_tables.proofs.rows.add_entry.Goals as goal

pub push_formals-requires : goal.push_formals-requires
push_formals-requires c = omega (arith, c.requires.scene.formals c.args.m c.vars_of-vars.result.now c.vars_of-vars.ensures, ap (λ (vs : List Var). length vs) c.items-2.ensures)

pub returns : goal.returns
returns c =
    let x = c.args.scene.now in
    let s = x.system.now in
    let mr = x.effects.now in
    let m = c.args.m in
    let v = c.vars_of-vars.result.now in
    let n = length c.items-2.result.now in
    let used = c.list_of-used.result.now in
    let there = subst (λ (ls : List (List LocId)). slice_get ls m.0 ≡ Some used) c.items.ensures c.list_of-used.ensures in
    let listed = entry_listed s mr m v c.vars_of-vars.ensures (λ w is. same_Some w v (sym is ∙ c.vars_of-vars.ensures)) used (uses_listed s mr c.requires.scene.effects m used there) in
    let count : length v.formals ≡ n = sym (ap (λ (vs : List Var). length vs) c.items-2.ensures) in
    on_ok_weaker c.push_locations.result
    (λ e. (
      entry_nodes n used,
      e ∙ ap (λ (ns : List Node). ns ++ map (heap_node Entry) used) c.in_ok-push_formals.ensures ∙ append_assoc c.args.nodes.now.items (formals n) (map (heap_node Entry) used),
      subst (λ (k : ℕ). IsOrderedListOf ComesBefore (entry_nodes k used) (AtEntry s mr m)) count listed,
    )) c.push_locations.ensures
