use Rattle.std.proofs.Common.{sym, ◌∙◌}
use Rattle.std.proofs.lemmas.Result.{on_ok_weaker}
use Rattle.mod_ref.proofs.Gaining.{gains_none, gains_same}
use Rattle.value_tables.specs.Methods.{FoundHas, VarHas}
use Rattle.value_tables.proofs.Gathered.{found_has}
use Rattle.value_tables.proofs.sites.add_found.Goals as goal

pub returns-in-Some : goal.returns-in-Some
returns-in-Some c = λ s solved within. on_ok_weaker c.add_var.result
    (λ g. gains_same c.args.sites.now.items c.add_var.new.sites.items (VarHas s c.in-Some.v) (FoundHas s c.args.found) (found_has s c.args.found c.in-Some.v c.in-Some.is) g)
    (c.add_var.ensures s solved (within c.in-Some.v c.in-Some.is))

pub returns-in-None : goal.returns-in-None
returns-in-None c = λ s solved within. gains_none c.args.sites.now.items (FoundHas s c.args.found) (λ h (w, e, x). absurd (cc (sym c.in-None.is ∙ e)))
