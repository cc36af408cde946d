use Rattle.text_tables.proofs.Placed.{place_is}
use Rattle.text_tables.proofs.finding.place_of.Goals as goal

pub returns : goal.returns
returns c = λ p same coded. place_is c.args.h.now c.method_places.result.now c.method_places.ensures p same coded c.args.m.0 c.read_place.result c.read_place.ensures
