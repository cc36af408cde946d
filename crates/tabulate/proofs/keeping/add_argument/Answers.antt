use Rattle.tabulate.proofs.Collecting.{no_call, thin_no_call, base_no_call, return_no_call}
use Rattle.tabulate.proofs.keeping.add_argument.Goals as goal

pub returns-in-Thin : goal.returns-in-Thin
returns-in-Thin c = λ a. no_call c.args.into.now.items c.args.edge a (thin_no_call c.args.edge a.call c.in-Thin.is)

pub returns-in-Base : goal.returns-in-Base
returns-in-Base c = λ a. no_call c.args.into.now.items c.args.edge a (base_no_call c.args.edge a.call c.in-Base.is)

pub returns-in-Return : goal.returns-in-Return
returns-in-Return c = λ a. no_call c.args.into.now.items c.args.edge a (return_no_call c.args.edge a.call c.in-Return.field-0 c.in-Return.is)
