use Rattle.std.proofs.Common.{take}
use Rattle.slicer_ids.specs.Sets.{IsOrderedListOf}
use Rattle.slicer_ids.specs.Order.{StatementBefore}
use Rattle.session_state.proofs.Gaining.{IsAccessIn}
use Rattle.session_state.proofs.state.all_accesses.Given as goal

abbrev pub invariant-loop-access : goal.invariant-loop-access
invariant-loop-access l = IsOrderedListOf StatementBefore l.all.items (IsAccessIn (take l.access-index l.accesses))
