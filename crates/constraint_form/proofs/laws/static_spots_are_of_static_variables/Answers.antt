use Rattle.constraint_form.proofs.StaticSpots.{static_spot}
use Rattle.constraint_form.proofs.laws.static_spots_are_of_static_variables.Goals as goal

pub returns : goal.returns
returns c = λ p s t write x tables touched. static_spot p s tables.0 t write x ((tables.1.touches t write _).0 touched)
