use Rattle.std.proofs.lemmas.Result.{on_ok_weaker}
use Rattle.program_form.specs.Facts.{CaughtAt}
use Rattle.program_form.specs.Systems.{VariableNumber}
use Rattle.constraint_form.specs.Rules.{IsRaisedAs, IsHandlerFilter}
use Rattle.constraint_rules.specs.Settings.{place_of}
use Rattle.constraint_rules.proofs.FormParts.{none_kept}
use Rattle.constraint_rules.proofs.OfThrown.{caught_grown}
use Rattle.constraint_rules.proofs.handlers.push_caught.Goals as goal

pub returns-in-Some : goal.returns-in-Some
returns-in-Some c = λ p s names set placed.
    let at = place_of c.args.x.now in
    on_ok_weaker c.push_found.result (λ g. caught_grown c.args.rules.now.items c.push_found.new.rules.items (IsHandlerFilter p at c.args.handler.now) (IsRaisedAs p s names at)
    (VariableNumber p s (CaughtAt c.args.x.now.body.now.method c.args.handler.now.handler)) c.in-Some.keep c.raised.result c.caught_at-to.result c.copy_of.result
    (c.in-Some.ensures p s names set placed) (c.raised.ensures p s names set placed) (c.caught_at-to.ensures p s set.has) c.copy_of.ensures g) c.push_found.ensures

pub returns-in-None : goal.returns-in-None
returns-in-None c = λ p s names set placed.
    let at = place_of c.args.x.now in
    none_kept (IsHandlerFilter p at c.args.handler.now) (IsRaisedAs p s names at) (VariableNumber p s (CaughtAt c.args.x.now.body.now.method c.args.handler.now.handler)) c.args.rules.now.items
    (c.in-None.ensures p s names set placed)
