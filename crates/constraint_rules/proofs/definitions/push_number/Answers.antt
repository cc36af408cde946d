use Rattle.std.proofs.lemmas.Result.{on_ok_weaker}
use Rattle.program_form.specs.Facts.{variable_of}
use Rattle.program_form.specs.Systems.{VariableNumber}
use Rattle.constraint_rules.proofs.Growths.{one_grown}
use Rattle.constraint_rules.proofs.definitions.push_number.Goals as goal

pub returns : goal.returns
returns c = λ p s has.
    on_ok_weaker c.push_found.result (λ g. one_grown (VariableNumber p s (variable_of c.args.method c.args.def.now)) c.number_of.result c.args.vars.now.items c.push_found.new.vars.items
    (c.number_of.ensures p s has) g) c.push_found.ensures
