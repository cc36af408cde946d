use Rattle.std.proofs.Common.{◌≡◌, sym, subst}
use Rattle.std.proofs.lemmas.Result.{on_ok_weaker}
use Rattle.worklists.specs.Growth.{Grows}
use Rattle.constraint_rules.specs.One.{IsFound}
use Rattle.constraint_rules.specs.Forms.{CopyOf}
use Rattle.constraint_rules.proofs.FormParts.{copy_grown, no_copy}
use Rattle.constraint_rules.proofs.forms.push_copy.Goals as goal

pub returns-in-Some : goal.returns-in-Some
returns-in-Some c =
    on_ok_weaker c.push.result (λ g. subst (λ o. Grows c.args.rules.now.items c.push.new.rules.items (CopyOf (λ x. x ≡ c.args.from.now) (IsFound o) c.args.keep)) (sym c.in-Some.is)
    (copy_grown c.args.from.now c.in-Some.to c.args.keep c.args.rules.now.items c.push.new.rules.items g)) c.push.ensures

pub returns-in-None : goal.returns-in-None
returns-in-None c = subst (λ o. Grows c.args.rules.now.items c.args.rules.now.items (CopyOf (λ x. x ≡ c.args.from.now) (IsFound o) c.args.keep)) (sym c.in-None.is)
    (no_copy c.args.from.now c.args.keep c.args.rules.now.items)
