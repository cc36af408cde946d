use Rattle.std.proofs.Common.{◌≡◌, ◌++◌, ◌∷◌, ℕ, List, length}
use Rattle.std.specs.List.{AllByRecursion}
use Rattle.class_form.specs.declared.types.FieldType.{FieldType}
use Rattle.class_form.specs.Types.{IsType, spell_types}
use Rattle.jvm_names.specs.Reading.{StartsWithArguments}
use Rattle.site_tables.proofs.descriptors.after_arguments.Given as goal

abbrev pub invariant-loop-rest : goal.invariant-loop-rest
invariant-loop-rest l = record {
  left : StartsWithArguments l.rest;
  same : (ts : List FieldType) (rest : List ℕ) → AllByRecursion IsType ts → l.fn.bytes ≡ spell_types ts ++ 41 ∷ rest →
      (us : List FieldType) × AllByRecursion IsType us × (l.rest ≡ spell_types us ++ 41 ∷ rest);
}

abbrev pub decreases-loop-rest : goal.decreases-loop-rest
decreases-loop-rest l = length l.rest
