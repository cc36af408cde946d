use Rattle.std.proofs.Common.{◌≡◌, refl}
use Rattle.mod_ref.specs.Direct.{AtSpot, AtTouch}
use Rattle.mod_ref.proofs.Members.{same_bool}
use Rattle.mod_ref.proofs.Members.{same_bool}
use Rattle.mod_ref.proofs.Touched.{told}
use Rattle.mod_ref.proofs.touches.add_touch.Goals as goal

pub returns-then-is_reached : goal.returns-then-is_reached
returns-then-is_reached c =
    let s = c.args.system.now in
    let t = c.args.touch.now in
    let same : t.write ≡ c.args.write = same_bool t.write c.args.write c.if-touch-write.true in
    let reached = (c.is_reached.ensures s c.requires.solved).0 c.if-is_reached.true in
    told c.add_spot.result c.args.effects.now.items.items c.add_spot.new.effects.items.items (AtSpot s t.place.method t.spot) (AtTouch s c.args.write t) (λ x. (λ a. (same, reached, a), λ a. a.2)) c.add_spot.ensures
