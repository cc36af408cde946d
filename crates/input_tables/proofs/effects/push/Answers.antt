use Rattle.mod_ref.proofs.Gaining.{gains_push}
use Rattle.input_tables.specs.Effects.{effect}
use Rattle.input_tables.proofs.effects.push.Goals as goal

pub returns-in-Ok : goal.returns-in-Ok
returns-in-Ok c = gains_push c.args.effects.now.items c.args.effects.now.items c.push.new.self.items (effect c.args.at c.args.location) (λ x. (λ h. h, λ h. h)) c.in-Ok.ensures.items
