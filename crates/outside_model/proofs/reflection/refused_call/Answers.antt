use Rattle.std.proofs.Common.{sym, ◌∙◌}
use Rattle.dep_form.specs.Outside.{for_name, new_instance, reflect, invoke}
use Rattle.outside_model.proofs.Prefixes.{third_alone}
use Rattle.outside_model.proofs.reflection.refused_call.Goals as goal

pub returns-then-is_method_of_class-clause-found : goal.returns-then-is_method_of_class-clause-found
returns-then-is_method_of_class-clause-found c = let h = c.is_method_of_class.ensures.0 c.if-is_method_of_class.true in for_name h.0 h.1

pub returns-then-is_method_of_class-2-clause-found : goal.returns-then-is_method_of_class-2-clause-found
returns-then-is_method_of_class-2-clause-found c = let h = c.is_method_of_class-2.ensures.0 c.if-is_method_of_class-2.true in new_instance h.0 h.1

pub returns-then-starts_with-clause-found : goal.returns-then-starts_with-clause-found
returns-then-starts_with-clause-found c = reflect (sym c.starts_with.ensures.value ∙ c.if-starts_with.true)

pub returns-then-starts_with-clause-only : goal.returns-then-starts_with-clause-only
returns-then-starts_with-clause-only c = λ n r. third_alone c.args.class.now c.args.name.now n (sym c.starts_with.ensures.value ∙ c.if-starts_with.true) r

pub returns-then-starts_with-2-clause-found : goal.returns-then-starts_with-2-clause-found
returns-then-starts_with-2-clause-found c = invoke (sym c.starts_with-2.ensures.value ∙ c.if-starts_with-2.true)
