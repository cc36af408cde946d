use Rattle.std.proofs.Common.{refl, ◌∙◌, get_or, take, arith}
use Rattle.mod_ref.specs.Rows.{list_of}
use Rattle.mod_ref.proofs.SetLists.{lists_first, lists_more, lists_all, still_below}
use Rattle.mod_ref.proofs.sets.add_number.Goals as goal

pub loop-m-init : goal.loop-m-init
loop-m-init c = record { len = refl; rises = c.requires.rises; gain = lists_first c.args.number c.args.methods.now c.args.lists.now.items }

pub add_to-requires-clause-m : goal.add_to-requires-clause-m
add_to-requires-clause-m c = omega (arith, c.requires.methods c.loop-m.m-index 0 c.loop-m-test.true, c.loop-m.invariant.len)

pub add_to-requires-clause-rises : goal.add_to-requires-clause-rises
add_to-requires-clause-rises c = c.loop-m.invariant.rises

pub add_to-requires-clause-below : goal.add_to-requires-clause-below
add_to-requires-clause-below c =
    let m = get_or c.args.methods.now c.loop-m.m-index 0 in
    still_below c.args.number (take c.loop-m.m-index c.args.methods.now) m (list_of c.args.lists.now.items m) (list_of c.loop-m.lists.items m) (c.requires.below m) (c.loop-m.invariant.gain m (c.requires.methods c.loop-m.m-index 0 c.loop-m-test.true))

pub loop-m-preserved : goal.loop-m-preserved
loop-m-preserved c = record {
  len = c.in_ok-add_to.ensures.len ∙ c.loop-m.invariant.len;
  rises = c.in_ok-add_to.ensures.rises;
  gain = lists_more c.args.number c.args.methods.now c.loop-m.m-index _ c.args.lists.now.items c.loop-m.lists.items c.add_to.new.lists.items c.loop-m-test.true c.loop-m.invariant.len c.loop-m.invariant.gain c.in_ok-add_to.ensures.gain;
}

pub returns-clause-gain : goal.returns-clause-gain
returns-clause-gain c = lists_all c.args.number c.args.methods.now c.loop-m.m-index c.args.lists.now.items c.loop-m.lists.items c.loop-m-test.false c.loop-m.invariant.gain
