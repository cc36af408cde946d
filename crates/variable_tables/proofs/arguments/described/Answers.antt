use Rattle.std.proofs.Common.{◌≡◌, true, false, sym, subst}
use Rattle.std.proofs.lemmas.Result.{IfOk-weaker}
use Rattle.variable_tables.specs.Arguments.{IsCountOf, IsWithReceiver, AreArgumentsOf}
use Rattle.variable_tables.proofs.ArgumentCounts.{arguments_of}
use Rattle.variable_tables.proofs.arguments.described.Goals as goal

pub returns-in-Some-2 : goal.returns-in-Some-2
returns-in-Some-2 c =
    let text = c.in-Some.text.now in
    let count = c.in-Some-2.count in
    let instance = c.has_receiver.result in
    IfOk-weaker c.with_receiver.result (IsWithReceiver (instance ≡ false) (instance ≡ true) count) (AreArgumentsOf c.args.pool.now c.args.instr.now)
    (λ n receiver. arguments_of c.args.pool.now c.args.instr.now text count n instance (sym c.in-Some.ensures) (subst (IsCountOf text) c.in-Some-2.is c.in_ok-count-in-Some.ensures) c.has_receiver.ensures receiver)
    c.with_receiver.ensures
