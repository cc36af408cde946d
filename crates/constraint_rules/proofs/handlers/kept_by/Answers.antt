use Rattle.std.proofs.Common.{sym}
use Rattle.constraint_rules.proofs.OfThrown.{all_kept, class_kept, none_kept}
use Rattle.constraint_rules.proofs.handlers.kept_by.Goals as goal

pub returns-then-handler-eq0 : goal.returns-then-handler-eq0
returns-then-handler-eq0 c = λ p s names set placed. all_kept c.args.t.now c.args.x.now p s names set placed c.args.handler.now c.if-handler-eq0.true

pub returns-in-Some : goal.returns-in-Some
returns-in-Some c = λ p s names set placed.
    class_kept c.args.t.now c.args.x.now p s names set placed c.args.handler.now c.in-Some.text.now c.find_class.result c.if-handler-eq0.false (sym c.in-Some.ensures) c.find_class.ensures

pub returns-in-None : goal.returns-in-None
returns-in-None c = λ p s names set placed. none_kept c.args.t.now c.args.x.now p s names set placed c.args.handler.now c.if-handler-eq0.false (sym c.in-None.ensures)
