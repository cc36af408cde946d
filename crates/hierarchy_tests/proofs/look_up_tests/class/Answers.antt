use Rattle.std.proofs.Common.{refl}
use Rattle.hierarchy_tests.proofs.TestMembers.{test_class}
use Rattle.hierarchy_tests.proofs.look_up_tests.class.Goals as goal

pub returns : goal.returns
returns c = test_class _ c.in_ok-texts.ensures refl c.in_ok-fields.ensures.few c.in_ok-fields.ensures.texts c.in_ok-methods.ensures.few c.in_ok-methods.ensures.texts
