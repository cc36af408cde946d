use Rattle.std.proofs.Common.{subst}
use Rattle.slicer_ids.specs.declared.ids.Statement.{Statement}
use Rattle.constraint_form.specs.Variables.{Operand, StandsFor}
use Rattle.constraint_rules.specs.One.{IsOne}
use Rattle.constraint_rules.proofs.OfJoins.{own_of}
use Rattle.constraint_rules.proofs.values.own.Goals as goal

pub returns : goal.returns
returns c = λ p s names set.
    subst (λ (z : Statement). IsOne (λ y. StandsFor names y (Operand z c.args.operand)) c.own_operand.result) c.statement_of.ensures
    (own_of p c.args.t.now.variables.now names set.named (record { statement = c.statement_of.result; operand = c.args.operand }) c.own_operand.result c.own_operand.ensures)
