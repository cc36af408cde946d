use Rattle.folder_form.proofs.OneReading.{one_reading}
use Rattle.folder_form.proofs.laws.one_reading.Goals as goal

pub returns : goal.returns
returns c = λ m paths a b h g. one_reading m 0 paths a b h g
