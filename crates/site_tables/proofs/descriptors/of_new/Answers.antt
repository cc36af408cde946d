use Rattle.std.proofs.Common.{inl, inr, refl}
use Rattle.class_form.specs.declared.types.BaseType.TheVariants.{Class}
use Rattle.site_tables.proofs.Spelling.{type_of, class_named, array_named}
use Rattle.site_tables.proofs.descriptors.of_new.Goals as goal

pub returns-then-is_class_name : goal.returns-then-is_class_name
returns-then-is_class_name c =
    let text = c.args.text.now in
    inl (type_of 0 (Class text), class_named text (c.is_class_name.ensures.exact.0 c.if-is_class_name.true), inr (refl, refl, (text, refl, refl)))

pub returns-then-is_array_type : goal.returns-then-is_array_type
returns-then-is_array_type c =
    let (t, is) = c.is_array_type.ensures.exact.0 c.if-is_array_type.true in
    inl (t, array_named c.args.text.now t is, inl (is.1, c.arrays.ensures.dims, c.arrays.ensures.class))
