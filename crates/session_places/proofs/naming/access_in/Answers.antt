use Rattle.session_form.specs.Places.{no_access}
use Rattle.session_places.proofs.naming.access_in.Goals as goal

pub returns-in-None : goal.returns-in-None
returns-in-None c = no_access c.args.statement c.requires (λ x. c.in-None.ensures x.0 x.1)
