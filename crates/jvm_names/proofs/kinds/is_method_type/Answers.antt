use Rattle.std.proofs.Common.{rules}
use Rattle.class_form.specs.NameTests.{is_method_type}
use Rattle.class_form.proofs.Descriptors.{is_method_type-Decides}
use Rattle.jvm_names.proofs.Decided.{decided}
use Rattle.jvm_names.proofs.kinds.is_method_type.Goals as goal

pub returns-clause-exact : goal.returns-clause-exact
returns-clause-exact c = decided _ (is_method_type c.args.bytes.now) (search rules) (is_method_type-Decides c.args.bytes.now)
