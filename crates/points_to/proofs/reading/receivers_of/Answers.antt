use Rattle.std.proofs.Common.{subst, sym, ◌<◌}
use Rattle.points_to.specs.Rules.{call}
use Rattle.std.specs.Prelude.{AllPairs}
use Rattle.points_to.proofs.Listed.{receivers_listed}
use Rattle.points_to.proofs.reading.receivers_of.Goals as goal

pub as_receivers-requires : goal.as_receivers-requires
as_receivers-requires c = subst (λ xs. AllPairs (λ a b. a < b) xs) (sym c.as_slice.ensures.value) c.in_ok-numbers.ensures.order

pub returns : goal.returns
returns c = receivers_listed c.args.found.now (call c.args.c.0) c.in_ok-numbers.numbers.items c.as_slice.result.now c.knows-alone.result c.in_ok-receivers.receivers.items c.from_vec.result c.as_slice.ensures.value c.in_ok-numbers.ensures c.knows-alone.ensures c.in_ok-receivers.ensures c.from_vec.ensures
