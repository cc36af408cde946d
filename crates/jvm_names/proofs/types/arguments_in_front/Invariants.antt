use Rattle.std.proofs.Common.{◌≡◌, ◌++◌, length}
use Rattle.std.specs.List.{AllByRecursion}
use Rattle.class_form.specs.Types.{IsType, spell_types}
use Rattle.jvm_names.specs.Reading.{StartsWithArguments}
use Rattle.jvm_names.proofs.types.arguments_in_front.Given as goal

abbrev pub invariant-loop-rest : goal.invariant-loop-rest
invariant-loop-rest l = record {
  left : StartsWithArguments l.rest;
  types : AllByRecursion IsType l.arguments.items;
  text : l.fn.bytes ≡ spell_types l.arguments.items ++ l.rest;
}

abbrev pub decreases-loop-rest : goal.decreases-loop-rest
decreases-loop-rest l = length l.rest
