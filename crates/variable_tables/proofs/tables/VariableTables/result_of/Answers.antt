use Rattle.std.proofs.Common.{◌≡◌, List, Some, None, subst}
use Rattle.std.specs.Prelude.{slice_get}
use Rattle.dep_form.specs.declared.rules.MethodVars.{MethodVars}
use Rattle.variable_tables.proofs.LookingUp.{result_exact, no_result}
use Rattle.variable_tables.proofs.tables.VariableTables.result_of.Goals as goal

pub returns-in-Some : goal.returns-in-Some
returns-in-Some c = λ p s has.
    let m = c.args.method in
    let v = c.in-Some.vars.now in
    result_exact p s c.args.self.now has m v (subst (λ (vs : List MethodVars). slice_get vs m.0 ≡ Some v) c.items.ensures c.in-Some.ensures.found)

pub returns-in-None : goal.returns-in-None
returns-in-None c = λ p s has.
    let m = c.args.method in
    no_result p s c.args.self.now has m (subst (λ (vs : List MethodVars). slice_get vs m.0 ≡ None) c.items.ensures c.in-None.ensures.missed)
