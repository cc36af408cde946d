use Rattle.std.proofs.Common.{length, refl}
use Rattle.std.proofs.lemmas.Option.{slice_get_read}
use Rattle.checked_facts.proofs.Inputs.{has_more, has_all}
use Rattle.checked_facts.proofs.facts.edges_of.Goals as goal

pub loop-input-preserved : goal.loop-input-preserved
loop-input-preserved c =
    let inputs = c.args.inputs.now in
    let at = slice_get_read inputs (length inputs) c.loop-input.input-index c.input-item.result refl c.loop-input-test.true c.input-item.is in
    has_more inputs c.input-item.result c.loop-input.input-index at c.loop-input.all.items c.add_of.new.all.items c.in_ok-add_of.ensures c.loop-input.invariant

pub returns : goal.returns
returns c = has_all c.args.inputs.now c.loop-input.input-index c.loop-input-test.false c.loop-input.all.items c.loop-input.invariant
