use Rattle.std.proofs.Common.{map, ap, ◌∙◌}
use Rattle.std.proofs.lemmas.List.{take_all}
use Rattle.mod_ref.specs.Locations.{location_of}
use Rattle.mod_ref.proofs.Tables.{map_more}
use Rattle.mod_ref.proofs.locations.listed.Goals as goal

pub loop-effect-preserved : goal.loop-effect-preserved
loop-effect-preserved c = c.in_ok-push.ensures ∙ map_more location_of c.args.effects.now c.loop-effect.effect-index _ c.loop-effect.all.items c.loop-effect-test.true c.loop-effect.invariant

pub returns : goal.returns
returns c = c.loop-effect.invariant ∙ ap (map location_of) (take_all c.loop-effect.effect-index c.args.effects.now c.loop-effect-test.false)
