use Rattle.std.proofs.Common.{rules}
use Rattle.class_form.specs.NameTests.{is_method_name}
use Rattle.class_form.proofs.PlainNames.{is_method_name-Decides}
use Rattle.jvm_names.proofs.Decided.{decided}
use Rattle.jvm_names.proofs.names.is_method_name.Goals as goal

pub returns-then-are_outside_brackets-clause-exact : goal.returns-then-are_outside_brackets-clause-exact
returns-then-are_outside_brackets-clause-exact c = decided _ (is_method_name c.args.bytes.now) (search rules) (is_method_name-Decides c.args.bytes.now)

pub returns-else-are_outside_brackets-clause-exact : goal.returns-else-are_outside_brackets-clause-exact
returns-else-are_outside_brackets-clause-exact c = decided _ (is_method_name c.args.bytes.now) (search rules) (is_method_name-Decides c.args.bytes.now)
