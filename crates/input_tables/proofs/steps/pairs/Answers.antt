use Rattle.std.proofs.Common.{map, ap, ◌∙◌}
use Rattle.std.proofs.lemmas.List.{take_all}
use Rattle.mod_ref.proofs.Tables.{map_more}
use Rattle.input_tables.specs.Control.{pair_of}
use Rattle.input_tables.proofs.steps.pairs.Goals as goal

pub loop-x-preserved : goal.loop-x-preserved
loop-x-preserved c = c.in_ok-push_pair.ensures ∙ map_more pair_of c.args.steps.now c.loop-x.x-index _ c.loop-x.all.items c.loop-x-test.true c.loop-x.invariant

pub returns : goal.returns
returns c = c.loop-x.invariant ∙ ap (map pair_of) (take_all c.loop-x.x-index c.args.steps.now c.loop-x-test.false)
