use Rattle.std.proofs.Common.{sym}
use Rattle.std.proofs.lemmas.Result.{IfOk-weaker}
use Rattle.constraints.specs.Calls.{AreFlagsOf, AreFlagsAt}
use Rattle.constraints.proofs.references.references.Goals as goal

pub returns-in-Some : goal.returns-in-Some
returns-in-Some c =
    let x = c.args.x.now in
    IfOk-weaker c.described.result (λ flags. AreFlagsOf c.args.receiver c.in-Some.text.now flags.items) (λ flags. AreFlagsAt c.args.receiver x.file.now.pool x.instr.now.index flags.items)
    (λ flags are. (c.in-Some.text.now, sym c.in-Some.ensures, are)) c.described.ensures
