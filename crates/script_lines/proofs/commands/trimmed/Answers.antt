use Rattle.std.proofs.Common.{sym, subst}
use Rattle.session_form.specs.Scripts.{IsTrimmed, cut, kept}
use Rattle.script_lines.proofs.commands.trimmed.Goals as goal

pub returns-in-Some : goal.returns-in-Some
returns-in-Some c = subst (λ z. IsTrimmed z c.in-Some.front.now) (sym c.in-Some.ensures) (cut c.in-Some.front.now)

pub returns-in-None : goal.returns-in-None
returns-in-None c = kept c.args.line.now c.in-None.ensures
