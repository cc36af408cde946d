use Rattle.std.proofs.Common.{refl}
use Rattle.std.proofs.lemmas.Result.{IfOk-weaker}
use Rattle.constraint_rules.specs.Naming.{key_in}
use Rattle.constraint_rules.proofs.MethodNumbers.{no_special}
use Rattle.constraint_rules.proofs.calls.special.Goals as goal

pub returns-in-Some : goal.returns-in-Some
returns-in-Some c = IfOk-weaker c.special_of.result _ _ (λ o told p of is. told p of is ((c.in-Some.ensures p of c.in-Some.found).1 refl)) c.special_of.ensures

pub returns-in-None : goal.returns-in-None
returns-in-None c = λ p of is. no_special c.args.h.now p of (key_in c.args.r) c.args.current.0 c.args.file.now is (c.in-None.ensures p of)
