use Rattle.class_loader.proofs.Numbered.{place_within, sound_class}
use Rattle.class_loader.proofs.listing.add_body_at.Goals as goal

pub add_body-requires-clause-class : goal.add_body-requires-clause-class
add_body-requires-clause-class c =
    let p = c.place_at-place.result in
    sound_class c.args.classes.now p.0.0 c.class_at-class.result.now c.requires.sound (c.class_at-class.ensures p c.place_at-place.ensures)

pub add_body-requires-clause-place : goal.add_body-requires-clause-place
add_body-requires-clause-place c =
    let p = c.place_at-place.result in
    place_within c.args.classes.now c.args.places.now c.args.number p c.class_at-class.result.now c.requires.methods c.place_at-place.ensures (c.class_at-class.ensures p c.place_at-place.ensures)

pub returns : goal.returns
returns c =
    let p = c.place_at-place.result in
    (p, c.class_at-class.result.now, c.place_at-place.ensures, c.class_at-class.ensures p c.place_at-place.ensures, c.in_ok-add_body.ensures)
