use Rattle.std.proofs.Common.{◌≤◌, ◌-◌, length}
use Rattle.bytecode.specs.Parts.{AreClamped}
use Rattle.bytecode.proofs.listing.clamped.Given as goal

abbrev pub invariant-loop-pc : goal.invariant-loop-pc
invariant-loop-pc l = record { within : l.pc ≤ length l.code; clamped : AreClamped l.code l.pool 0 l.instrs.items l.pc }

abbrev pub decreases-loop-pc : goal.decreases-loop-pc
decreases-loop-pc l = length l.code - l.pc
