use Rattle.std.proofs.Common.{map, ap, ◌∙◌}
use Rattle.std.proofs.lemmas.List.{take_all}
use Rattle.mod_ref.proofs.Tables.{map_more}
use Rattle.access_tables.specs.Objects.{start_of}
use Rattle.access_tables.proofs.objects.starts_of.Goals as goal

pub loop-edge-preserved : goal.loop-edge-preserved
loop-edge-preserved c = c.in_ok-push_start.ensures ∙ map_more start_of c.args.edges.now c.loop-edge.edge-index _ c.loop-edge.starts.items c.loop-edge-test.true c.loop-edge.invariant

pub returns : goal.returns
returns c = c.loop-edge.invariant ∙ ap (map start_of) (take_all c.loop-edge.edge-index c.args.edges.now c.loop-edge-test.false)
