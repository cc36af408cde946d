use Rattle.std.proofs.Common.{◌≡◌, ◌↔◌, ◌-◌, ℕ, true, List, length, Some, ap, sym, subst, ◌∙◌}
use Rattle.std.specs.Prelude.{slice_get}
use Rattle.class_form.specs.declared.class_file.ClassFile.{ClassFile}
use Rattle.hierarchy.specs.Places.{texts_at}
use Rattle.hierarchy.specs.declared.members.Kind.TheVariants.{Method}
use Rattle.method_facts.proofs.Answering.{answers, no_answer}
use Rattle.method_facts.proofs.names.is_answering.Goals as goal

pub returns-in-Some : goal.returns-in-Some
returns-in-Some c =
    let ks = c.args.h.now in
    let place = c.in-Some.place in
    let text = c.descriptor_at.ensures ∙ ap (λ (zs : List ClassFile). (texts_at Method zs place).descriptor) c.classes.ensures.classes in
    let void = subst (λ (bs : List ℕ). (c.is_void.result ≡ true) ↔ (slice_get bs (length bs - 1) ≡ Some 86)) text c.is_void.ensures in
    λ p same asked coded. answers ks c.method_places.result.now c.method_places.ensures c.args.m p same asked coded place (sym c.place_of.ensures ∙ c.in-Some.is) c.is_void.result void

pub returns-in-None : goal.returns-in-None
returns-in-None c = λ p same asked coded. (
  λ e. absurd (cc e),
  λ h. absurd (no_answer c.args.h.now c.method_places.result.now c.method_places.ensures c.args.m p same asked coded (sym c.place_of.ensures ∙ c.in-None.is) h),
)
