use Rattle.std.proofs.Common.{◌≡◌, List, subst, arith}
use Rattle.std.proofs.lemmas.List.{take_all}
use Rattle.worklists.specs.Growth.{Grows, FromOne}
use Rattle.worklists.proofs.Growing.{Grows-none, Grows-more}
use Rattle.slicer_ids.specs.declared.ids.ClassId.{ClassId}
use Rattle.slicer_ids.specs.declared.ids.MethodId.{MethodId}
use Rattle.constraint_rules.specs.Forms.{EnterOf}
use Rattle.constraint_rules.proofs.Initials.{each_entered}
use Rattle.constraint_rules.proofs.classes.push_all.Goals as goal

pub loop-entry-init : goal.loop-entry-init
loop-entry-init c = Grows-none c.args.rules.now.items _ (λ x f. absurd (omega (arith, f.1.1)))

pub loop-entry-preserved : goal.loop-entry-preserved
loop-entry-preserved c =
    Grows-more (λ (x : ClassId × MethodId). EnterOf (λ m. m ≡ x.1)) c.args.initializers.now c.loop-entry.entry-index _
    c.args.rules.now.items c.loop-entry.rules.items c.push_enter.new.rules.items
    c.loop-entry-test.true c.loop-entry.invariant c.in_ok-push_enter.ensures

pub returns : goal.returns
returns c =
    each_entered c.args.initializers.now c.args.rules.now.items c.loop-entry.rules.items
    (subst (λ (ys : List (ClassId × MethodId)). Grows c.args.rules.now.items c.loop-entry.rules.items (FromOne (λ (x : ClassId × MethodId). EnterOf (λ m. m ≡ x.1)) ys))
    (take_all c.loop-entry.entry-index c.args.initializers.now c.loop-entry-test.false) c.loop-entry.invariant)
