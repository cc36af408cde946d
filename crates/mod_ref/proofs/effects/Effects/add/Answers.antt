use Rattle.mod_ref.proofs.Gaining.{gains_push}
use Rattle.mod_ref.proofs.effects.Effects.add.Goals as goal

pub returns-in-Ok : goal.returns-in-Ok
returns-in-Ok c = gains_push c.args.self.now.items.items c.tidy_if_full.new.self.items.items c.push.new.self.items (record { location = c.args.location; method = c.args.method }) c.tidy_if_full.ensures c.in-Ok.ensures.items
