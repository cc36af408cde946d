use Rattle.std.proofs.Common.{refl}
use Rattle.hierarchy_tests.proofs.TestMembers.{test_class}
use Rattle.call_graph_tests.proofs.test_classes.class.Goals as goal

pub returns : goal.returns
returns c = test_class _ c.in_ok-texts.ensures refl c.no_members-fields.ensures.few c.no_members-fields.ensures.texts c.in_ok-methods.ensures.few c.in_ok-methods.ensures.texts
