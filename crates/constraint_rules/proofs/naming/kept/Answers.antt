use Rattle.std.proofs.Common.{sym}
use Rattle.constraint_rules.proofs.OfNames.{one_kept, none_kept}
use Rattle.constraint_rules.proofs.naming.kept.Goals as goal

pub returns-in-Some : goal.returns-in-Some
returns-in-Some c = λ p s names set placed.
    one_kept c.args.t.now c.args.x.now p s names set placed c.in-Some.text.now c.find_class.result (sym c.in-Some.ensures) c.find_class.ensures

pub returns-in-None : goal.returns-in-None
returns-in-None c = λ p s names set placed. none_kept c.args.t.now c.args.x.now p s names set placed (sym c.in-None.ensures)
