use Rattle.std.proofs.Common.{◌≡◌, List, subst, arith}
use Rattle.std.proofs.lemmas.List.{take_all}
use Rattle.worklists.specs.Growth.{Grows, FromOne}
use Rattle.worklists.proofs.Growing.{Grows-none, Grows-more}
use Rattle.dep_form.specs.declared.rules.Var.{Var}
use Rattle.constraint_rules.specs.One.{IsFound}
use Rattle.constraint_rules.specs.Forms.{CopyOf}
use Rattle.constraint_rules.proofs.FormParts.{each_copy}
use Rattle.constraint_rules.proofs.forms.push_copies.Goals as goal

pub loop-from-init : goal.loop-from-init
loop-from-init c = Grows-none c.args.rules.now.items _ (λ x f. absurd (omega (arith, f.1.1)))

pub loop-from-preserved : goal.loop-from-preserved
loop-from-preserved c =
    Grows-more (λ (v : Var). CopyOf (λ x. x ≡ v) (IsFound c.args.to) c.args.keep) c.args.froms.now c.loop-from.from-index _
    c.args.rules.now.items c.loop-from.rules.items c.push_copy.new.rules.items
    c.loop-from-test.true c.loop-from.invariant c.in_ok-push_copy.ensures

pub returns : goal.returns
returns c =
    each_copy c.args.froms.now c.args.to c.args.keep c.args.rules.now.items c.loop-from.rules.items
    (subst (λ (ys : List Var). Grows c.args.rules.now.items c.loop-from.rules.items (FromOne (λ (v : Var). CopyOf (λ x. x ≡ v) (IsFound c.args.to) c.args.keep) ys))
    (take_all c.loop-from.from-index c.args.froms.now c.loop-from-test.false) c.loop-from.invariant)
