use Rattle.dep_form.proofs.Searching.{all_at}
use Rattle.variable_tables.specs.Operands.{AreInOrder}
use Rattle.variable_tables.proofs.look_ups.def_number.Goals as goal

pub number_in-requires : goal.number_in-requires
number_in-requires c = all_at AreInOrder c.args.methods.now c.requires c.args.method.0 c.in-Some.vars.now c.in-Some.ensures.found
