use Rattle.std.proofs.Common.{map}
use Rattle.hierarchy.specs.Places.{declared_at}
use Rattle.class_loader.proofs.Numbered.{no_bodies, more_bodies}
use Rattle.class_loader.proofs.listing.listed.Goals as goal

pub loop-number-init : goal.loop-number-init
loop-number-init c = no_bodies c.args.classes.now (map declared_at c.args.places.now) c.new-all.result.items c.new-all.ensures.items

pub loop-number-preserved : goal.loop-number-preserved
loop-number-preserved c = more_bodies c.args.classes.now c.args.places.now c.loop-number.number c.loop-number.all.items c.add_body_at.new.all.items c.requires.methods c.loop-number.invariant c.in_ok-add_body_at.ensures
