use Rattle.std.proofs.Common.{map, ap, ◌∙◌}
use Rattle.std.proofs.lemmas.List.{take_all}
use Rattle.mod_ref.proofs.Tables.{map_more}
use Rattle.input_tables.specs.Uses.{triple_of}
use Rattle.input_tables.proofs.uses.triples.Goals as goal

pub loop-x-preserved : goal.loop-x-preserved
loop-x-preserved c = c.in_ok-push_triple.ensures ∙ map_more triple_of c.args.uses.now c.loop-x.x-index _ c.loop-x.all.items c.loop-x-test.true c.loop-x.invariant

pub returns : goal.returns
returns c = c.loop-x.invariant ∙ ap (map triple_of) (take_all c.loop-x.x-index c.args.uses.now c.loop-x-test.false)
