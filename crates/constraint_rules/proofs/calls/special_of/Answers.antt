use Rattle.std.proofs.Common.{sym, ◌∙◌}
use Rattle.std.proofs.lemmas.Bool.{false≢true}
use Rattle.constraint_rules.specs.Naming.{key_in}
use Rattle.constraint_rules.proofs.MethodNumbers.{special_itself}
use Rattle.constraint_rules.proofs.calls.special_of.Goals as goal

pub returns-then-branch : goal.returns-then-branch
returns-then-branch c = λ p of is (d, finds, at). c.find_above.ensures p c.args.current.0 d of is ((c.in_ok-calls_super.ensures p d of is at).0 c.if-branch.true) finds

pub returns-else-branch : goal.returns-else-branch
returns-else-branch c = λ p of is (d, finds, at).
    special_itself c.args.h.now p of (key_in c.args.r) c.args.current.0 c.args.file.now is c.args.found d finds at
    (λ h. false≢true (sym c.if-branch.false ∙ (c.in_ok-calls_super.ensures p d of is at).1 h))
