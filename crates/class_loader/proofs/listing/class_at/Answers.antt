use Rattle.class_loader.proofs.Numbered.{class_within, class_read}
use Rattle.class_loader.proofs.listing.class_at.Goals as goal

pub bounds-classes-place : goal.bounds-classes-place
bounds-classes-place c = class_within c.args.classes.now c.args.places.now c.args.number c.place_at-place.result c.requires.methods c.place_at-place.ensures

pub returns : goal.returns
returns c = λ p at.
    let q = c.place_at-place.result in
    class_read c.args.classes.now c.args.places.now c.args.number q p c.index-classes-place.result c.place_at-place.ensures
    (class_within c.args.classes.now c.args.places.now c.args.number q c.requires.methods c.place_at-place.ensures) c.index-classes-place.is at
