use Rattle.std.proofs.lemmas.List.Filters.{dedup_is}
use Rattle.dep_form.specs.Orders.{statement_cmp}
use Rattle.session_state.proofs.Sorting.{sorted_rises, sorted_members}
use Rattle.session_state.proofs.StatementOrder.{fall, statement_eq, statements_exact}
use Rattle.sessions.proofs.nodes.put_in_order.Goals as goal

pub returns-clause-order : goal.returns-clause-order
returns-clause-order c = fall _ (sorted_rises statement_eq statement_cmp statements_exact _ _ c.sort_unstable.ensures.sorted (dedup_is _ _ _ c.dedup.ensures.filtered))

pub returns-clause-members : goal.returns-clause-members
returns-clause-members c = sorted_members statement_eq statement_cmp statements_exact _ _ _ c.sort_unstable.ensures.permutation (dedup_is _ _ _ c.dedup.ensures.filtered)
