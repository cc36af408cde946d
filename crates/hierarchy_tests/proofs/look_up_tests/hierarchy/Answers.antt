use Rattle.hierarchy_tests.proofs.TestMembers.{test_classes, few_test_classes}
use Rattle.hierarchy_tests.proofs.look_up_tests.hierarchy.Goals as goal

pub build-requires : goal.build-requires
build-requires c = record {
  few = few_test_classes c.args.files.items c.requires.classes c.requires.few;
  named = test_classes c.args.files.items c.requires.classes;
}
