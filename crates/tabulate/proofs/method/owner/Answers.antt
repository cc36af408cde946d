use Rattle.std.proofs.Common.{sym, arith}
use Rattle.tabulate.proofs.Placing.{some_node, is_owner, placed}
use Rattle.tabulate.proofs.method.owner.Goals as goal

pub method_of-requires : goal.method_of-requires
method_of-requires c = some_node c.args.f.now c.args.n c.requires

pub returns-clause-is : goal.returns-clause-is
returns-clause-is c = sym (is_owner c.args.f.now c.args.n c.method_of.result.0 c.method_of.ensures)

pub returns-clause-within : goal.returns-clause-within
returns-clause-within c = omega (arith, is_owner c.args.f.now c.args.n c.method_of.result.0 c.method_of.ensures, (placed c.args.f.now c.args.n.0 c.requires).owned)
