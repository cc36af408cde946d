use Rattle.std.proofs.Common.{◌≡◌, true, sym, subst, arith}
use Rattle.class_form.specs.Types.{IsFieldType}
use Rattle.class_form.specs.NameTests.{is_field_type, InType, Alone, go_on_descriptor}
use Rattle.class_form.specs.Prefixes.{IsLongestBegin, IsFieldDescriptor}
use Rattle.class_form.proofs.Descriptors.{is_field_type-Decides}
use Rattle.class_form.proofs.LongestBegin.{taken-within, field_longest}
use Rattle.jvm_names.proofs.Made.{reads}
use Rattle.jvm_names.proofs.types.field_type.Goals as goal

pub overflow_cast-result : goal.overflow_cast-result
overflow_cast-result c = omega (arith, c.in-Some.ensures.1, taken-within go_on_descriptor (InType Alone 0) c.args.bytes.now, c.requires)

pub returns-in-Some : goal.returns-in-Some
returns-in-Some c =
    let bytes = c.args.bytes.now in (
      λ t h. let yes : is_field_type bytes ≡ true = (is_field_type-Decides bytes).1 (t, h) in let no = c.in-Some.ensures.0 in cc,
      subst (λ n. IsLongestBegin IsFieldDescriptor bytes n) (sym c.in-Some.ensures.1) (field_longest bytes),
    )

pub whole_type-requires : goal.whole_type-requires
whole_type-requires c = (is_field_type-Decides c.args.bytes.now).0 c.in-None.ensures

pub returns-in-None : goal.returns-in-None
returns-in-None c = reads IsFieldType c.args.bytes.now c.whole_type.result ((is_field_type-Decides c.args.bytes.now).0 c.in-None.ensures) c.whole_type.ensures
