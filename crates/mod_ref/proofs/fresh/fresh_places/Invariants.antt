use Rattle.std.proofs.Common.{[]}
use Rattle.worklists.proofs.Growing.{FromBelow}
use Rattle.mod_ref.specs.Gains.{Gains}
use Rattle.mod_ref.specs.Direct.{IsFreshAt}
use Rattle.mod_ref.proofs.fresh.fresh_places.Given as goal

abbrev pub invariant-loop-number : goal.invariant-loop-number
invariant-loop-number l = Gains [] l.places.items (FromBelow (λ n t. IsFreshAt l.system (record { 0 = n }) t) l.number)
