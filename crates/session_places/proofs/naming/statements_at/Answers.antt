use Rattle.session_form.specs.Places.{no_such_class}
use Rattle.session_places.proofs.naming.statements_at.Goals as goal

pub returns-in-None : goal.returns-in-None
returns-in-None c = no_such_class c.in-None.ensures
