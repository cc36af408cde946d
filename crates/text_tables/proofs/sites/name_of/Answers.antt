use Rattle.std.proofs.Common.{refl}
use Rattle.text_tables.proofs.sites.name_of.Goals as goal

pub returns : goal.returns
returns c = record { place = refl; number = refl; text = c.in_ok-class.ensures }
