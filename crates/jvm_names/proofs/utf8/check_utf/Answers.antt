use Rattle.std.proofs.Common.{rules}
use Rattle.class_form.specs.NameTests.{is_modified_utf8}
use Rattle.class_form.proofs.Characters.{is_modified_utf8-Decides}
use Rattle.jvm_names.proofs.Decided.{decided}
use Rattle.jvm_names.proofs.utf8.check_utf.Goals as goal

pub returns-clause-exact : goal.returns-clause-exact
returns-clause-exact c = decided _ (is_modified_utf8 c.args.bytes.now) (search rules) (is_modified_utf8-Decides c.args.bytes.now)
