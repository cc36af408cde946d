use Rattle.session_form.specs.Places.{no_place}
use Rattle.session_places.proofs.naming.access_at.Goals as goal

pub returns-in-Err : goal.returns-in-Err
returns-in-Err c = no_place c.in-Err.ensures
