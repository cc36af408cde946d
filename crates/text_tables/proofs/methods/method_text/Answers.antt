use Rattle.std.proofs.Common.{List, refl, sym, ap, subst, ◌∙◌}
use Rattle.class_form.specs.declared.class_file.ClassFile.{ClassFile}
use Rattle.hierarchy.specs.Places.{texts_at}
use Rattle.hierarchy.specs.declared.members.Kind.TheVariants.{Method}
use Rattle.text_tables.specs.MethodLines.{AreRunLines}
use Rattle.text_tables.proofs.methods.method_text.Goals as goal

pub returns : goal.returns
returns c = record {
  class = refl;
  name = c.in_ok-name.ensures ∙ c.name_at.ensures ∙ ap (λ (ks : List ClassFile). (texts_at Method ks c.args.place).name) c.classes.ensures.classes;
  descriptor = c.in_ok-descriptor.ensures ∙ c.descriptor_at.ensures ∙ ap (λ (ks : List ClassFile). (texts_at Method ks c.args.place).descriptor) c.classes-2.ensures.classes;
  lines = λ p s is solved. subst (AreRunLines p s c.args.m) (sym c.from_vec.ensures) (c.in_ok-lines.ensures.lines p s is solved);
}
