use Rattle.std.proofs.Common.{◌≡◌, List, Option, Some, slice_get, subst}
use Rattle.dep_form.specs.declared.input.MethodInput.{MethodInput}
use Rattle.widening_tests.proofs.needed.has_input.Goals as goal

pub returns-in-Some : goal.returns-in-Some
returns-in-Some c = λ t. (c.in-Some.field-0.now, subst (λ (xs : List (Option MethodInput)). slice_get xs c.args.m.0 ≡ Some (Some c.in-Some.field-0.now)) c.items.ensures c.in-Some.ensures)
