use Rattle.std.proofs.Common.{All, take}
use Rattle.bytecode.specs.Starts.{IsMarked}
use Rattle.bytecode.proofs.starts.are_marked.Given as goal

abbrev pub invariant-loop-place : goal.invariant-loop-place
invariant-loop-place l = All (IsMarked l.marks) (take l.place-index l.places)
