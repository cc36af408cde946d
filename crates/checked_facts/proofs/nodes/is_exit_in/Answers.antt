use Rattle.std.proofs.Common.{◌∙◌, sym, arith}
use Rattle.checked_facts.specs.Checks.{method_at}
use Rattle.checked_facts.proofs.nodes.is_exit_in.Goals as goal

pub returns-in-Some : goal.returns-in-Some
returns-in-Some c = λ t.
    (method_at c.args.m, (c.in-Some.node, c.in-Some.ensures, sym c.is_exit.ensures ∙ t, omega (arith, c.if-inputs-lt2.false, c.if-m-inputs.false)))
