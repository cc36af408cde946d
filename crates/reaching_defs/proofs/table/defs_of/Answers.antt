use Rattle.std.proofs.Common.{map, ap, ◌∙◌}
use Rattle.std.proofs.lemmas.List.{take_all}
use Rattle.reaching_defs.specs.Facts.{def_of}
use Rattle.reaching_defs.proofs.Tables.{map_more}
use Rattle.reaching_defs.proofs.table.defs_of.Goals as goal

pub loop-fact-preserved : goal.loop-fact-preserved
loop-fact-preserved c = c.in_ok-put_def.ensures ∙ map_more def_of c.args.facts.now c.loop-fact.fact-index _ c.loop-fact.defs.items c.loop-fact-test.true c.loop-fact.invariant

pub returns : goal.returns
returns c = c.loop-fact.invariant ∙ ap (map def_of) (take_all c.loop-fact.fact-index c.args.facts.now c.loop-fact-test.false)
