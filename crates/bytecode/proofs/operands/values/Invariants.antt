use Rattle.std.proofs.Common.{◌≡◌, ◌++◌, take, map}
use Rattle.class_form.specs.Types.{width}
use Rattle.class_form.specs.Instructions.{value}
use Rattle.bytecode.proofs.operands.values.Given as goal

abbrev pub invariant-loop-t : goal.invariant-loop-t
invariant-loop-t l = l.all.items ≡ l.initial.all.items ++ map (λ t. value (width t)) (take l.t-index l.types)
