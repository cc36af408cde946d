use Rattle.std.proofs.Common.{List, sym, subst}
use Rattle.std.specs.Prelude.{◌↔◌, Contains}
use Rattle.dep_form.specs.declared.rules.Var.{Var}
use Rattle.method_facts.specs.Entering.{IsGivenVariable}
use Rattle.method_facts.proofs.tests.the_root_gives_the_first_method_its_argument.Goals as goal

pub is_given-requires-clause-members : goal.is_given-requires-clause-members
is_given-requires-clause-members g c =
    subst (λ (xs : List Var). (x : Var) → Contains xs x ↔ IsGivenVariable c.system-s.result x) (sym c.as_slice.ensures.value) c.in_ok-given.ensures.members

pub is_given-requires-2-clause-members : goal.is_given-requires-2-clause-members
is_given-requires-2-clause-members g c =
    subst (λ (xs : List Var). (x : Var) → Contains xs x ↔ IsGivenVariable c.system-s.result x) (sym c.as_slice-2.ensures.value) c.in_ok-given.ensures.members
