use Rattle.std.proofs.Common.{rules}
use Rattle.class_form.specs.NameTests.{is_unqualified_name}
use Rattle.class_form.proofs.PlainNames.{is_unqualified_name-Decides}
use Rattle.jvm_names.proofs.Decided.{decided}
use Rattle.jvm_names.proofs.names.is_unqualified_name.Goals as goal

pub returns-then-not-is_empty-clause-exact : goal.returns-then-not-is_empty-clause-exact
returns-then-not-is_empty-clause-exact c = decided _ (is_unqualified_name c.args.bytes.now) (search rules) (is_unqualified_name-Decides c.args.bytes.now)
