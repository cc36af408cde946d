use Rattle.std.proofs.Common.{◌∙◌}
use Rattle.variable_tables.proofs.MethodFacts.{of_method, has_type}
use Rattle.variable_tables.proofs.method_vars.method_vars.Goals as goal

pub formals-requires : goal.formals-requires
formals-requires c = let (p, of, lt) = c.requires.method in has_type p c.args.method _ _ (c.member_of.ensures p of) of.read

pub returns-clause-vars : goal.returns-clause-vars
returns-clause-vars c = λ p of e.
    of_method p c.args.bodies.now c.args.method _ _ c.in_ok-vars.vars c.in_ok-count.count c.in_ok-values.values.items c.in_ok-caught.caught.items c.is_native-native.result
    (c.member_of.ensures p of) e c.in_ok-count.ensures c.in_ok-values.ensures c.in_ok-caught.ensures c.is_native-native.ensures
    c.in_ok-vars.ensures.formals (c.in_ok-vars.ensures.values ∙ c.as_slice.ensures.value) (c.in_ok-vars.ensures.caught ∙ c.as_slice-2.ensures.value) c.in_ok-vars.ensures.native
