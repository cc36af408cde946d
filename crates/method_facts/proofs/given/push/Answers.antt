use Rattle.mod_ref.proofs.Gaining.{gains_push}
use Rattle.method_facts.proofs.given.push.Goals as goal

pub returns-in-Ok : goal.returns-in-Ok
returns-in-Ok c = gains_push c.args.variables.now.items c.args.variables.now.items c.push.new.self.items c.args.x (λ x. (λ h. h, λ h. h)) c.in-Ok.ensures.items
