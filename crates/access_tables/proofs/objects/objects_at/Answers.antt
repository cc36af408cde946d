use Rattle.std.proofs.Common.{map, ap, ◌∙◌}
use Rattle.worklists.specs.Growth.{FromOne}
use Rattle.mod_ref.proofs.Gaining.{gained}
use Rattle.access_tables.specs.Objects.{IsObjectEdge, IsObjectStart, start_of}
use Rattle.access_tables.proofs.Produced.{listed_in_order, starts_are}
use Rattle.access_tables.proofs.objects.objects_at.Goals as goal

pub returns : goal.returns
returns c =
    let x = c.args.scene.now in
    let q = c.args.point.now in
    let edges = c.add_objects.new.edges.items in
    let starts = c.in_ok-starts.starts.items in
    let gathered = gained c.new-edges.result.items edges (FromOne (IsObjectEdge x q) q.uses) c.new-edges.ensures.items c.in_ok-add_objects.ensures in
    listed_in_order starts c.in_order.result.items (IsObjectStart x q) (starts_are x q edges starts (c.in_ok-starts.ensures ∙ ap (map start_of) c.as_slice.ensures.value) gathered) c.in_order.ensures.order c.in_order.ensures.members
