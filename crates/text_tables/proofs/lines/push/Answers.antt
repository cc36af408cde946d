use Rattle.mod_ref.proofs.Gaining.{gains_push}
use Rattle.text_tables.proofs.lines.push.Goals as goal

pub returns-in-Ok : goal.returns-in-Ok
returns-in-Ok c = gains_push c.args.places.now.items c.args.places.now.items c.push.new.self.items c.args.place (λ x. (λ h. h, λ h. h)) c.in-Ok.ensures.items
