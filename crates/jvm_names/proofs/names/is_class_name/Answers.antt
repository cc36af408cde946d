use Rattle.std.proofs.Common.{rules}
use Rattle.class_form.specs.NameTests.{is_class_name}
use Rattle.class_form.proofs.ClassNames.{is_class_name-Decides}
use Rattle.jvm_names.proofs.Decided.{decided}
use Rattle.jvm_names.proofs.names.is_class_name.Goals as goal

pub returns-clause-exact : goal.returns-clause-exact
returns-clause-exact c = decided _ (is_class_name c.args.bytes.now) (search rules) (is_class_name-Decides c.args.bytes.now)
