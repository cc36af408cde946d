use Rattle.std.proofs.Common.{List, map, sym, subst, ◌∙◌}
use Rattle.class_form.specs.Numbers.{AreMethods}
use Rattle.class_form.specs.declared.class_file.ClassFile.{ClassFile}
use Rattle.hierarchy.specs.Places.{declared_at}
use Rattle.call_graph.proofs.OfProgram.{first_of_program}
use Rattle.call_graph.proofs.refusals.refused_reached.Goals as goal

pub returns : goal.returns
returns c = λ p same sound coded of.
    first_of_program p c.args.s.now c.classes.result.now (map declared_at c.method_places.result.now) c.first_refused.result (same ∙ sym c.classes.ensures.classes)
    (subst (λ (ks : List ClassFile). AreMethods ks (map declared_at c.method_places.result.now)) (sym c.classes.ensures.classes) c.method_places.ensures) sound coded of c.first_refused.ensures
