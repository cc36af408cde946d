use Rattle.std.proofs.Common.{◌≡◌, ◌+◌, ℕ, List, length, Some, ap, ◌∙◌, sym, subst, arith}
use Rattle.std.specs.Prelude.{slice_get}
use Rattle.std.proofs.lemmas.List.{length_push}
use Rattle.slicer_ids.specs.declared.ids.MethodId.{MethodId}
use Rattle.dep_form.specs.declared.rules.MethodVars.{MethodVars}
use Rattle.variable_tables.specs.Tables.{AreNumbered, IsOfMethod}
use Rattle.variable_tables.proofs.MethodPlaces.{as_many}
use Rattle.variable_tables.proofs.MethodFacts.{numbered_push, each_push}
use Rattle.variable_tables.proofs.method_vars.all_methods.Goals as goal

pub method_vars-requires-clause-method : goal.method_vars-requires-clause-method
method_vars-requires-clause-method c =
    let (p, of, e) = c.requires.program in
    (p, of, omega (arith, as_many c.args.h.now c.method_places-count.result.now c.method_places-count.ensures p of))

pub loop-number-preserved : goal.loop-number-preserved
loop-number-preserved c =
    let vs = c.loop-number.methods.items in
    let v = c.in_ok-vars.vars in
    record {
      size = ap (λ (ws : List MethodVars). length ws) c.in_ok-push.ensures.items ∙ length_push vs v ∙ ap (λ (n : ℕ). n + 1) c.loop-number.invariant.size;
      numbers = subst (λ ws. AreNumbered c.args.fresh.now.next ws c.method_vars.new.fresh.next) (sym c.in_ok-push.ensures.items)
          (numbered_push c.args.fresh.now.next c.loop-number.fresh.next c.method_vars.new.fresh.next vs v c.loop-number.invariant.numbers c.in_ok-vars.ensures.numbers);
      each = λ p of e.
          subst (λ (ws : List MethodVars). (m : MethodId) (w : MethodVars) → slice_get ws m.0 ≡ Some w → IsOfMethod p m w) (sym c.in_ok-push.ensures.items)
          (each_push p vs v c.loop-number.number c.loop-number.invariant.size (c.loop-number.invariant.each p of e) (c.in_ok-vars.ensures.vars p of e));
    }

pub returns-clause-vars : goal.returns-clause-vars
returns-clause-vars c = λ p of e. record {
  count = omega (arith, c.loop-number.invariant.size, as_many c.args.h.now c.method_places-count.result.now c.method_places-count.ensures p of);
  each = c.loop-number.invariant.each p of e;
}
