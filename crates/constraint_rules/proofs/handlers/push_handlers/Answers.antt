use Rattle.std.proofs.Common.{List, subst, arith}
use Rattle.std.proofs.lemmas.List.{take_all}
use Rattle.worklists.specs.Growth.{Grows, FromOne}
use Rattle.worklists.proofs.Growing.{Grows-none, Grows-more}
use Rattle.class_form.specs.declared.class_file.Handler.{Handler}
use Rattle.dep_form.specs.declared.rules.Rule.{Rule}
use Rattle.constraint_rules.specs.Handlers.{Covers, IsCaughtBy}
use Rattle.constraint_rules.specs.Settings.{place_of}
use Rattle.constraint_rules.proofs.handlers.push_handlers.Goals as goal

pub loop-handler-init : goal.loop-handler-init
loop-handler-init c = λ p s names set placed. Grows-none c.args.rules.now.items _ (λ r f. absurd (omega (arith, f.1.1)))

pub loop-handler-preserved : goal.loop-handler-preserved
loop-handler-preserved c = λ p s names set placed.
    Grows-more (λ (h : Handler) (r : Rule). Covers c.args.x.now.point.now.pc h × IsCaughtBy p s names (place_of c.args.x.now) h r) c.args.handlers.now c.loop-handler.handler-index _
    c.args.rules.now.items c.loop-handler.rules.items c.push_handler.new.rules.items
    c.loop-handler-test.true (c.loop-handler.invariant p s names set placed) (c.in_ok-push_handler.ensures p s names set placed)

pub returns : goal.returns
returns c = λ p s names set placed.
    subst (λ (ys : List Handler). Grows c.args.rules.now.items c.loop-handler.rules.items (FromOne (λ (h : Handler) (r : Rule). Covers c.args.x.now.point.now.pc h × IsCaughtBy p s names (place_of c.args.x.now) h r) ys))
    (take_all c.loop-handler.handler-index c.args.handlers.now c.loop-handler-test.false) (c.loop-handler.invariant p s names set placed)
