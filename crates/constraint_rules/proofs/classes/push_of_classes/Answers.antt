use Rattle.std.proofs.Common.{List, subst, arith}
use Rattle.std.proofs.lemmas.List.{take_all}
use Rattle.worklists.specs.Growth.{Grows, FromOne}
use Rattle.worklists.proofs.Growing.{Grows-none, Grows-more}
use Rattle.slicer_ids.specs.declared.ids.ClassId.{ClassId}
use Rattle.constraint_rules.specs.Forms.{EnterOf}
use Rattle.constraint_rules.specs.Needs.{IsListedOf}
use Rattle.constraint_rules.proofs.Initials.{classes_entered}
use Rattle.constraint_rules.proofs.classes.push_of_classes.Goals as goal

pub loop-class-init : goal.loop-class-init
loop-class-init c = Grows-none c.args.rules.now.items _ (λ x f. absurd (omega (arith, f.1.1)))

pub loop-class-preserved : goal.loop-class-preserved
loop-class-preserved c =
    Grows-more (λ (k : ClassId). EnterOf (IsListedOf c.args.initializers.now k)) c.args.classes.now c.loop-class.class-index _
    c.args.rules.now.items c.loop-class.rules.items c.push_of_class.new.rules.items
    c.loop-class-test.true c.loop-class.invariant c.in_ok-push_of_class.ensures

pub returns : goal.returns
returns c =
    classes_entered c.args.initializers.now c.args.classes.now c.args.rules.now.items c.loop-class.rules.items
    (subst (λ (ys : List ClassId). Grows c.args.rules.now.items c.loop-class.rules.items (FromOne (λ (k : ClassId). EnterOf (IsListedOf c.args.initializers.now k)) ys))
    (take_all c.loop-class.class-index c.args.classes.now c.loop-class-test.false) c.loop-class.invariant)
