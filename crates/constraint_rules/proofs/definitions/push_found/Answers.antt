use Rattle.std.proofs.Common.{sym, subst}
use Rattle.worklists.specs.Growth.{Grows}
use Rattle.constraint_rules.specs.One.{IsFound}
use Rattle.constraint_rules.proofs.Growths.{one_more, found_more, none_found}
use Rattle.constraint_rules.proofs.definitions.push_found.Goals as goal

pub returns-in-Ok : goal.returns-in-Ok
returns-in-Ok c =
    subst (λ o. Grows c.args.vars.now.items c.push.new.self.items (IsFound o)) (sym c.in-Some.is)
    (found_more c.args.vars.now.items c.push.new.self.items c.in-Some.var (one_more c.args.vars.now.items c.push.new.self.items c.in-Some.var c.in-Ok.ensures.items))

pub returns-in-None : goal.returns-in-None
returns-in-None c = subst (λ o. Grows c.args.vars.now.items c.args.vars.now.items (IsFound o)) (sym c.in-None.is) (none_found c.args.vars.now.items)
