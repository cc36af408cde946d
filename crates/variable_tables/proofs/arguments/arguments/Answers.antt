use Rattle.std.proofs.Common.{sym, ◌∙◌}
use Rattle.std.proofs.lemmas.Bool.{false≢true}
use Rattle.std.proofs.lemmas.Result.{IfOk-weaker}
use Rattle.variable_tables.specs.Arguments.{AreArgumentsOf}
use Rattle.variable_tables.proofs.CallFacts.{CountsArguments, call_arguments, no_call}
use Rattle.variable_tables.proofs.arguments.arguments.Goals as goal

pub returns-then-is_call : goal.returns-then-is_call
returns-then-is_call c =
    let file = c.args.file.now in
    let instr = c.args.instr.now in
    IfOk-weaker c.described.result (AreArgumentsOf file.pool instr) (CountsArguments file instr)
    (λ n are p t b k asked at of i. call_arguments p asked t b instr k file at of (c.is_call.ensures.0 c.if-is_call.true) n are i) c.described.ensures

pub returns-else-is_call : goal.returns-else-is_call
returns-else-is_call c = λ p t b k asked at of i.
    no_call p asked t b c.args.instr.now k c.args.file.now at of (λ call. false≢true (sym c.if-is_call.false ∙ c.is_call.ensures.1 call)) i
