use Rattle.std.proofs.Common.{take, Contains}
use Rattle.slicer_ids.specs.Sets.{IsOrderedListOf}
use Rattle.slicer_ids.specs.Order.{StatementBefore}
use Rattle.explainers.specs.Bringing.{HasOneOf}
use Rattle.explainers.proofs.explain.keep_statements.Given as goal

abbrev pub invariant-loop-s : goal.invariant-loop-s
invariant-loop-s l = IsOrderedListOf StatementBefore l.kept.items (λ s. Contains (take l.s-index l.slice) s × HasOneOf l.f l.objects s)
