use Rattle.std.proofs.Common.{◌≡◌, ◌↔◌, List, Contains, sym, subst}
use Rattle.dep_form.specs.declared.rules.Var.{Var}
use Rattle.dep_form.specs.Orders.{RiseBy}
use Rattle.method_facts.specs.Entering.{IsGivenVariable}
use Rattle.method_facts.specs.Numbers.{var_cmp}
use Rattle.node_tables.proofs.parts.given.Goals as goal

pub given_flags-requires-clause-order : goal.given_flags-requires-clause-order
given_flags-requires-clause-order c = subst (λ (xs : List Var). RiseBy var_cmp (λ (x : Var). x) xs) (sym c.as_slice.ensures.value) c.in_ok-variables.ensures.order

pub given_flags-requires-clause-members : goal.given_flags-requires-clause-members
given_flags-requires-clause-members c = subst (λ (xs : List Var). (x : Var) → Contains xs x ↔ IsGivenVariable c.args.s.now x) (sym c.as_slice.ensures.value) c.in_ok-variables.ensures.members
