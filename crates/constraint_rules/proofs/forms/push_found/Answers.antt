use Rattle.std.proofs.Common.{sym, subst}
use Rattle.std.proofs.lemmas.Result.{on_ok_weaker}
use Rattle.worklists.specs.Growth.{Grows}
use Rattle.constraint_rules.specs.One.{IsFound}
use Rattle.constraint_rules.proofs.Growths.{found_more, none_found}
use Rattle.constraint_rules.proofs.forms.push_found.Goals as goal

pub returns-in-Some : goal.returns-in-Some
returns-in-Some c =
    on_ok_weaker c.push.result (λ g. subst (λ o. Grows c.args.rules.now.items c.push.new.rules.items (IsFound o)) (sym c.in-Some.is) (found_more c.args.rules.now.items c.push.new.rules.items c.in-Some.rule g)) c.push.ensures

pub returns-in-None : goal.returns-in-None
returns-in-None c = subst (λ o. Grows c.args.rules.now.items c.args.rules.now.items (IsFound o)) (sym c.in-None.is) (none_found c.args.rules.now.items)
