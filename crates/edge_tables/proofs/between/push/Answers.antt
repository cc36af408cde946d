use Rattle.mod_ref.proofs.Gaining.{gains_push}
use Rattle.edge_tables.specs.Rows.{edge_of}
use Rattle.edge_tables.proofs.between.push.Goals as goal

pub returns-in-Ok : goal.returns-in-Ok
returns-in-Ok c = gains_push c.args.edges.now.items c.args.edges.now.items c.push.new.self.items (edge_of c.args.from c.args.to c.args.label) (λ x. (λ h. h, λ h. h)) c.in-Ok.ensures.items
