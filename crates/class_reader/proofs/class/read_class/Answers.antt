use Rattle.std.proofs.Common.{arith}
use Rattle.class_reader.proofs.Whole.{found, only, fault, refused}
use Rattle.class_reader.proofs.class.read_class.Goals as goal

pub returns-clause-found : goal.returns-clause-found
returns-clause-found c = found c.args.bytes.now (λ i. omega (arith, c.type_inv.bytes i)) c.file.result c.file.ensures

pub returns-clause-only : goal.returns-clause-only
returns-clause-only c = only c.args.bytes.now (λ i. omega (arith, c.type_inv.bytes i)) c.file.result c.file.ensures

pub returns-clause-fault : goal.returns-clause-fault
returns-clause-fault c = fault c.args.bytes.now (λ i. omega (arith, c.type_inv.bytes i)) c.file.result c.file.ensures

pub returns-clause-refused : goal.returns-clause-refused
returns-clause-refused c = refused c.args.bytes.now (λ i. omega (arith, c.type_inv.bytes i)) c.file.result c.file.ensures
