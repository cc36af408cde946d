use Rattle.class_form.specs.Pools.{utf_at}
use Rattle.class_form.specs.Resolution.{clinit_name}
use Rattle.constraints.proofs.OfInitializers.{decided_some, decided_none}
use Rattle.constraints.proofs.initializers.is_named_so.Goals as goal

pub returns-in-Some : goal.returns-in-Some
returns-in-Some c = decided_some (utf_at c.args.file.now.pool c.args.name) c.in-Some.text.now clinit_name c.is_clinit.result c.in-Some.ensures c.is_clinit.ensures

pub returns-in-None : goal.returns-in-None
returns-in-None c = decided_none (utf_at c.args.file.now.pool c.args.name) clinit_name c.in-None.ensures
