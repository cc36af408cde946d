use Rattle.std.proofs.Common.{◌≡◌, ℕ, Some, Option, None, List, IsSome, ◌∙◌, rules}
use Rattle.class_form.specs.declared.types.MethodType.{MethodType}
use Rattle.class_form.specs.Types.{IsMethodType}
use Rattle.class_form.specs.NameTests.{parameter_slots}
use Rattle.class_form.proofs.Descriptors.{parameter_slots-is, parameter_slots-found}
use Rattle.jvm_names.proofs.kinds.parameter_slots.Goals as goal

spelled : (o : Option ℕ) (bytes : List ℕ) → parameter_slots bytes ≡ o → IsSome o → (m : MethodType) × IsMethodType bytes m
spelled None bytes e h = cc
spelled (Some n) bytes e h = let m = parameter_slots-found bytes n e in (m.0, m.1)

pub returns-clause-exact : goal.returns-clause-exact
returns-clause-exact c = λ m h. let e : c.slots_at_end.result ≡ parameter_slots c.args.bytes.now = search rules in e ∙ parameter_slots-is c.args.bytes.now m h

pub returns-clause-only : goal.returns-clause-only
returns-clause-only c = λ h. spelled c.slots_at_end.result c.args.bytes.now (search rules) h
