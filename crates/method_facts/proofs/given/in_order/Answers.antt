use Rattle.mod_ref.proofs.Sorting.{sorted_members, sorted_rises}
use Rattle.method_facts.specs.Numbers.{var_cmp}
use Rattle.method_facts.proofs.GivenVariables.{vars_exact}
use Rattle.method_facts.proofs.given.in_order.Goals as goal

pub returns-clause-order : goal.returns-clause-order
returns-clause-order c = sorted_rises _ var_cmp vars_exact _ _ c.sort_unstable.ensures.sorted c.dedup.ensures.filtered

pub returns-clause-members : goal.returns-clause-members
returns-clause-members c = sorted_members _ var_cmp vars_exact _ _ _ c.sort_unstable.ensures.permutation c.dedup.ensures.filtered
