use Rattle.std.proofs.Common.{arith}
use Rattle.class_form.proofs.Follow.{instructions_follow}
use Rattle.method_body.proofs.reading.instructions.Goals as goal

pub returns-in-Ok-clause-order : goal.returns-in-Ok-clause-order
returns-in-Ok-clause-order c = instructions_follow c.args.code.now c.args.pool.now _ (λ i. omega (arith, c.type_inv.code i)) c.requires.0 c.in-Ok.ensures.found

pub returns-in-Ok-clause-bytes : goal.returns-in-Ok-clause-bytes
returns-in-Ok-clause-bytes c = λ i. omega (arith, c.type_inv.code i)

pub returns-in-Err-clause-bytes : goal.returns-in-Err-clause-bytes
returns-in-Err-clause-bytes c = λ i. omega (arith, c.type_inv.code i)
