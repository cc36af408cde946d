use Rattle.std.proofs.lemmas.Result.{on_ok_weaker}
use Rattle.value_tables.specs.Methods.{VarHas}
use Rattle.value_tables.proofs.Gathered.{gains_all_of}
use Rattle.value_tables.proofs.sites.add_var.Goals as goal

pub returns : goal.returns
returns c = λ s solved lt. on_ok_weaker c.append.result
    (λ e. gains_all_of c.args.sites.now.items c.append.new.sites.items c.sites_of.result.now (VarHas s c.args.v) (λ h. c.sites_of.ensures s h solved lt) e) c.append.ensures
