use Rattle.mod_ref.proofs.Gaining.{gains_push}
use Rattle.input_tables.specs.Uses.{use_of}
use Rattle.input_tables.proofs.uses.push.Goals as goal

pub returns-in-Ok : goal.returns-in-Ok
returns-in-Ok c = gains_push c.args.uses.now.items c.args.uses.now.items c.push.new.self.items (use_of c.args.point c.args.node c.args.location) (λ x. (λ h. h, λ h. h)) c.in-Ok.ensures.items
