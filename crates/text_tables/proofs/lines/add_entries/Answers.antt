use Rattle.text_tables.specs.LineGroups.{IsPlaceOf}
use Rattle.mod_ref.proofs.Gaining.{gains_first, gains_more, gains_all}
use Rattle.text_tables.proofs.lines.add_entries.Goals as goal

pub loop-entry-init : goal.loop-entry-init
loop-entry-init c = gains_first (IsPlaceOf c.args.class c.args.m) c.args.entries.now c.args.places.now.items

pub loop-entry-preserved : goal.loop-entry-preserved
loop-entry-preserved c = gains_more (IsPlaceOf c.args.class c.args.m) c.args.entries.now c.loop-entry.entry-index _ c.args.places.now.items c.loop-entry.places.items c.add_entry.new.places.items c.loop-entry-test.true c.loop-entry.invariant c.in_ok-add_entry.ensures

pub returns : goal.returns
returns c = gains_all (IsPlaceOf c.args.class c.args.m) c.args.entries.now c.loop-entry.entry-index c.args.places.now.items c.loop-entry.places.items c.loop-entry-test.false c.loop-entry.invariant
