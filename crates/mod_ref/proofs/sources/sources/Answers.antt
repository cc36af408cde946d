use Rattle.std.proofs.Common.{refl, sym, ◌∙◌}
use Rattle.mod_ref.specs.Rows.{AtSource}
use Rattle.mod_ref.proofs.TableRows.{rows_first, rows_more, rows_all, sources_are}
use Rattle.mod_ref.proofs.sources.sources.Goals as goal

pub loop-effect-init : goal.loop-effect-init
loop-effect-init c = record { len = refl; gain = rows_first (AtSource c.args.locations.now) c.args.effects.now c.in_ok-rows.rows.items }

pub loop-effect-preserved : goal.loop-effect-preserved
loop-effect-preserved c = record {
  len = c.in_ok-add_source.ensures.len ∙ c.loop-effect.invariant.len;
  gain = rows_more (AtSource c.args.locations.now) c.args.effects.now c.loop-effect.effect-index _ c.in_ok-rows.rows.items c.loop-effect.rows.items c.add_source.new.rows.items c.loop-effect-test.true c.loop-effect.invariant.len c.loop-effect.invariant.gain c.in_ok-add_source.ensures.gain;
}

pub returns-clause-rows : goal.returns-clause-rows
returns-clause-rows c = sources_are c.args.locations.now c.args.effects.now c.in_ok-rows.rows.items c.loop-effect.rows.items c.in_ok-rows.ensures.len c.in_ok-rows.ensures.none (rows_all (AtSource c.args.locations.now) c.args.effects.now c.loop-effect.effect-index c.in_ok-rows.rows.items c.loop-effect.rows.items c.loop-effect-test.false c.loop-effect.invariant.gain)
