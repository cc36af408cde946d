use Rattle.script.proofs.Deciding.{answers_said, answered}
use Rattle.script.proofs.parse.parse_line.Goals as goal

pub returns-clause-unknown : goal.returns-clause-unknown
returns-clause-unknown c = (λ e. answered c.args.line.now _ _ e c.read_line.ensures, λ s. answers_said c.args.line.now _ _ c.read_line.ensures s)

pub returns-clause-arity : goal.returns-clause-arity
returns-clause-arity c = (λ e. answered c.args.line.now _ _ e c.read_line.ensures, λ s. answers_said c.args.line.now _ _ c.read_line.ensures s)

pub returns-clause-bad_number : goal.returns-clause-bad_number
returns-clause-bad_number c = (λ e. answered c.args.line.now _ _ e c.read_line.ensures, λ s. answers_said c.args.line.now _ _ c.read_line.ensures s)
