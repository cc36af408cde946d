use Rattle.std.proofs.Common.{◌≡◌, true, sym, subst, arith}
use Rattle.class_form.specs.Types.{IsMethodType}
use Rattle.class_form.specs.NameTests.{is_method_type, Open, go_on_descriptor}
use Rattle.class_form.specs.Prefixes.{IsLongestBegin, IsMethodDescriptor}
use Rattle.class_form.proofs.Descriptors.{is_method_type-Decides}
use Rattle.class_form.proofs.LongestBegin.{taken-within, method_longest}
use Rattle.jvm_names.proofs.Made.{reads}
use Rattle.jvm_names.proofs.types.method_type.Goals as goal

pub overflow_cast-result : goal.overflow_cast-result
overflow_cast-result c = omega (arith, c.in-Some.ensures.1, taken-within go_on_descriptor Open c.args.bytes.now, c.requires)

pub returns-in-Some : goal.returns-in-Some
returns-in-Some c =
    let bytes = c.args.bytes.now in (
      λ t h. let yes : is_method_type bytes ≡ true = (is_method_type-Decides bytes).1 (t, h) in let no = c.in-Some.ensures.0 in cc,
      subst (λ n. IsLongestBegin IsMethodDescriptor bytes n) (sym c.in-Some.ensures.1) (method_longest bytes),
    )

pub method_from-requires : goal.method_from-requires
method_from-requires c = (is_method_type-Decides c.args.bytes.now).0 c.in-None.ensures

pub returns-in-None : goal.returns-in-None
returns-in-None c = reads IsMethodType c.args.bytes.now c.method_from.result ((is_method_type-Decides c.args.bytes.now).0 c.in-None.ensures) c.method_from.ensures
