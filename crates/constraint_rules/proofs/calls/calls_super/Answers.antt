use Rattle.std.proofs.Common.{sym, ◌∙◌}
use Rattle.std.proofs.lemmas.Bool.{false≢true}
use Rattle.std.proofs.lemmas.Result.{IfOk-weaker}
use Rattle.constraint_rules.specs.Naming.{key_in}
use Rattle.constraint_rules.proofs.MethodNumbers.{calls_proper, calls_none, class_is, class_of_none}
use Rattle.constraint_rules.proofs.calls.calls_super.Goals as goal

pub returns-then-not-may_call_super : goal.returns-then-not-may_call_super
returns-then-not-may_call_super c = λ p d of is at.
    let never = calls_none c.args.h.now p of (key_in c.args.r) c.args.current.0 c.args.file.now is d c.may_call_super.result c.may_call_super.ensures (λ yes. false≢true (sym c.if-not-may_call_super.true ∙ yes)) in
    (λ e. absurd (false≢true e), λ h. absurd (never h))

pub returns-in-Some : goal.returns-in-Some
returns-in-Some c = IfOk-weaker c.has_super.result _ _ (λ yes told p d of is at.
    calls_proper c.args.h.now p of (key_in c.args.r) c.args.current.0 c.args.file.now is d c.in-Some.class.0 c.may_call_super.result yes c.may_call_super.ensures c.if-not-may_call_super.false
    (class_is c.args.h.now p of c.args.found c.in-Some.class d (c.in-Some.ensures p of) at) (told p of)) c.has_super.ensures

pub returns-in-None : goal.returns-in-None
returns-in-None c = λ p d of is at. absurd (class_of_none c.args.h.now p of c.args.found d (c.in-None.ensures p of) at)
