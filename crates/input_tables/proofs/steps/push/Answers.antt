use Rattle.mod_ref.proofs.Gaining.{gains_push}
use Rattle.input_tables.specs.Control.{step}
use Rattle.input_tables.proofs.steps.push.Goals as goal

pub returns-in-Ok : goal.returns-in-Ok
returns-in-Ok c = gains_push c.args.steps.now.items c.args.steps.now.items c.push.new.self.items (step c.args.from c.args.to) (λ x. (λ h. h, λ h. h)) c.in-Ok.ensures.items
