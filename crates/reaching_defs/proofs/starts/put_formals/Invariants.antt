use Rattle.std.proofs.Common.{◌≡◌, take, sum}
use Rattle.worklists.specs.Growth.{Grows}
use Rattle.worklists.proofs.Growing.{FromBelow}
use Rattle.reaching_defs.specs.Starts.{IsFormalStart}
use Rattle.reaching_defs.proofs.starts.put_formals.Given as goal

abbrev pub invariant-loop-i : goal.invariant-loop-i
invariant-loop-i l = record {
  first : l.first ≡ sum (take l.i l.arguments);
  grown : Grows l.initial.starts.items l.starts.items (FromBelow (IsFormalStart l.arguments) l.i);
}
