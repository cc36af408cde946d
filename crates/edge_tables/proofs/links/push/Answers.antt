use Rattle.mod_ref.proofs.Gaining.{gains_push}
use Rattle.edge_tables.proofs.links.push.Goals as goal

pub returns-in-Ok : goal.returns-in-Ok
returns-in-Ok c = gains_push c.args.links.now.items c.args.links.now.items c.push.new.self.items c.args.link (λ x. (λ h. h, λ h. h)) c.in-Ok.ensures.items
