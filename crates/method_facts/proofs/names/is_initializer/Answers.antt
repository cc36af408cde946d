use Rattle.std.proofs.Common.{◌≡◌, List, ap, sym, ◌∙◌}
use Rattle.class_form.specs.declared.class_file.ClassFile.{ClassFile}
use Rattle.hierarchy.specs.Places.{texts_at}
use Rattle.hierarchy.specs.declared.members.Kind.TheVariants.{Method}
use Rattle.method_facts.proofs.MethodNumbers.{initializer, no_initializer}
use Rattle.method_facts.proofs.names.is_initializer.Goals as goal

pub returns-in-Some : goal.returns-in-Some
returns-in-Some c =
    let is = initializer c.args.h.now c.method_places.result.now c.method_places.ensures c.args.m c.in-Some.place (sym c.place_of.ensures ∙ c.in-Some.is) in
    let name = c.name_at.ensures ∙ ap (λ (ks : List ClassFile). (texts_at Method ks c.in-Some.place).name) c.classes.ensures.classes in
    (λ e. is.0 (sym name ∙ (c.is_clinit.ensures).0 e), λ h. (c.is_clinit.ensures).1 (name ∙ is.1 h))

pub returns-in-None : goal.returns-in-None
returns-in-None c = (
  λ e. absurd (cc e),
  λ h. absurd (no_initializer c.args.h.now c.method_places.result.now c.method_places.ensures c.args.m (sym c.place_of.ensures ∙ c.in-None.is) h),
)
