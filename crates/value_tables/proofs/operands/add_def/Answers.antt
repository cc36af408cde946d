use Rattle.std.proofs.lemmas.Result.{on_ok_weaker}
use Rattle.mod_ref.proofs.Gaining.{gains_same}
use Rattle.value_tables.specs.Methods.{FoundHas}
use Rattle.value_tables.specs.Values.{DefHas}
use Rattle.value_tables.proofs.Gathered.{def_has}
use Rattle.value_tables.proofs.Within.{var_within}
use Rattle.value_tables.proofs.operands.add_def.Goals as goal

pub returns : goal.returns
returns c =
    let x = c.args.x.now in
    on_ok_weaker c.add_found.result
    (λ g. gains_same c.args.sites.now.items c.add_found.new.sites.items (FoundHas x.system.now c.var_of.result) (DefHas x c.args.def) (def_has x c.args.def c.var_of.result c.var_of.ensures) g)
    (c.add_found.ensures x.system.now c.requires.solved (λ v e. var_within x.system.now x.body.now.method.0 x.vars.now c.args.def v c.requires.vars ((c.var_of.ensures v).0 e)))
