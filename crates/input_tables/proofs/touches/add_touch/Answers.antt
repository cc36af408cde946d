use Rattle.std.proofs.Common.{◌≡◌, refl}
use Rattle.mod_ref.proofs.Members.{same_bool}
use Rattle.mod_ref.proofs.Touched.{told}
use Rattle.input_tables.specs.Effects.{AtSpot, AtTouch}
use Rattle.input_tables.proofs.touches.add_touch.Goals as goal

pub returns-then-touch-write : goal.returns-then-touch-write
returns-then-touch-write c =
    let t = c.args.touch.now in
    let same : t.write ≡ c.args.write = same_bool t.write c.args.write c.if-touch-write.true in
    told c.add_spot.result c.args.effects.now.items c.add_spot.new.effects.items (AtSpot c.args.scene.now.system.now c.args.scene.now.effects.now t.place t.spot) (AtTouch c.args.scene.now.system.now c.args.scene.now.effects.now c.args.write t) (λ x. (λ a. (same, a), λ a. a.1)) c.add_spot.ensures
