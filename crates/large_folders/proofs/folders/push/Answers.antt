use Rattle.std.proofs.Common.{sym, subst}
use Rattle.std.specs.Prelude.{All}
use Rattle.std.proofs.lemmas.List.Elements.{All-push}
use Rattle.hierarchy_tests.specs.TestClasses.{IsTestClass}
use Rattle.large_folders.proofs.folders.push.Goals as goal
use Rattle.large_folders.proofs.folders.push.Goals.{in-Ok, in-Err}

pub returns-clause-classes : goal.returns-clause-classes
returns-clause-classes c = elim c.match-push.branch [
  | in-Ok w ↦ rw w.result-is (subst (All IsTestClass) (sym w.in-Ok.ensures.items) (All-push IsTestClass c.args.files.now.items c.args.class c.requires.files c.requires.class))
  | in-Err w ↦ rw w.result-is tt
]
