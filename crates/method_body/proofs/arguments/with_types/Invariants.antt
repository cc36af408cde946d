use Rattle.std.proofs.Common.{◌≡◌, ◌++◌, take, map}
use Rattle.class_form.specs.Types.{width}
use Rattle.method_body.proofs.arguments.with_types.Given as goal

abbrev pub invariant-loop-t : goal.invariant-loop-t
invariant-loop-t l = l.all.items ≡ l.initial.all.items ++ map width (take l.t-index l.types)
