use Rattle.std.proofs.Common.{◌⊎◌, true, false}
use Rattle.std.proofs.lemmas.Result.{on_ok_weaker}
use Rattle.constraint_rules.specs.Settings.{place_of}
use Rattle.constraints.specs.Touches.{IsTouchOf, OfReads, OfWrites, OfDimensions}
use Rattle.constraints.proofs.OfTouches.{at_one, place_is, place_of_either}
use Rattle.constraints.proofs.touches.push_touches.Goals as goal

pub returns : goal.returns
returns c = λ p s names set placed.
    let t = place_of c.args.x.now in
    let R = IsTouchOf t false (OfReads p s names t) in
    let W = IsTouchOf t true (OfWrites p s names t) in
    let D = IsTouchOf t true (OfDimensions p s names t) in
    let old = c.args.touches.now.items in
    let one = c.push_reads.new.touches.items in
    let two = c.push_writes.new.touches.items in
    let new = c.push_dimensions.new.touches.items in
    on_ok_weaker c.push_dimensions.result
    (λ g. at_one t R (λ y. W y ⊎ D y) old one new (place_is t false (OfReads p s names t)) (place_of_either t (OfWrites p s names t) (OfDimensions p s names t)) (c.in_ok-push_reads.ensures p s names set placed)
    (at_one t W D one two new (place_is t true (OfWrites p s names t)) (place_is t true (OfDimensions p s names t)) (c.in_ok-push_writes.ensures p s names set placed) g))
    (c.push_dimensions.ensures p s names set placed)
