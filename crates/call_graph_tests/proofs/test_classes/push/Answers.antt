use Rattle.std.proofs.Common.{sym, subst}
use Rattle.std.specs.Prelude.{All}
use Rattle.std.proofs.lemmas.List.Elements.{All-push}
use Rattle.hierarchy_tests.specs.TestClasses.{IsTestClass}
use Rattle.call_graph_tests.proofs.test_classes.push.Goals as goal
use Rattle.call_graph_tests.proofs.test_classes.push.Goals.{in-Ok, in-Err}

pub returns-clause-classes : goal.returns-clause-classes
returns-clause-classes c = elim c.match-push.branch [
  | in-Ok w ↦ rw w.result-is (subst (All IsTestClass) (sym w.in-Ok.ensures.items) (All-push IsTestClass c.args.files.now.items c.in_ok-class.class c.requires c.in_ok-class.ensures))
  | in-Err w ↦ rw w.result-is tt
]
