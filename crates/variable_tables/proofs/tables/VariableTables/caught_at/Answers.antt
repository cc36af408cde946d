use Rattle.std.proofs.Common.{◌≡◌, List, All, Some, sym, subst}
use Rattle.std.specs.Prelude.{◌↔◌}
use Rattle.class_form.specs.declared.body.Def.TheVariants.{Caught}
use Rattle.dep_form.specs.declared.rules.Var.{Var}
use Rattle.dep_form.specs.declared.rules.MethodVars.{MethodVars}
use Rattle.variable_tables.specs.Operands.{AreInOrder, DefNumber}
use Rattle.variable_tables.proofs.LookingUp.{def_exact}
use Rattle.variable_tables.proofs.tables.VariableTables.caught_at.Goals as goal

pub def_number-requires : goal.def_number-requires
def_number-requires c = subst (λ (vs : List MethodVars). All AreInOrder vs) (sym c.items.ensures) c.requires.methods

pub returns : goal.returns
returns c = λ p s has.
    let o = c.def_number.result in
    let exact = subst (λ (vs : List MethodVars). (x : Var) → DefNumber vs c.args.method (Caught c.args.handler) x ↔ (o ≡ Some x)) c.items.ensures c.def_number.ensures in
    def_exact p s c.args.self.now has c.args.method (Caught c.args.handler) o exact
