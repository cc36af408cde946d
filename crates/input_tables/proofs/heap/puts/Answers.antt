use Rattle.std.proofs.Common.{◌≡◌, ◌↔◌, List, Contains, true, sym, subst}
use Rattle.std.proofs.lemmas.Result.{IfOk-weaker}
use Rattle.dep_form.specs.Orders.{RiseBy}
use Rattle.input_tables.specs.declared.effects.Effect.{Effect}
use Rattle.input_tables.specs.Effects.{effect_cmp}
use Rattle.input_tables.specs.Uses.{ArePutsOf, AreUsesOf}
use Rattle.input_tables.proofs.HeapNumbers.{puts_are}
use Rattle.input_tables.proofs.heap.puts.Goals as goal

pub of_method-own-requires : goal.of_method-own-requires
of_method-own-requires c = subst (RiseBy effect_cmp (λ x. x)) (sym c.as_slice.ensures.value) c.requires.heap.puts_are.order

pub of_method-results-requires : goal.of_method-results-requires
of_method-results-requires c = subst (RiseBy effect_cmp (λ x. x)) (sym c.as_slice-2.ensures.value) c.requires.heap.fresh_are.order

pub returns-clause-members : goal.returns-clause-members
returns-clause-members c =
    let s = c.args.scene.now.system.now in
    let mr = c.args.scene.now.effects.now in
    let bs = c.args.bodies.now in
    let row = c.args.row.now in
    IfOk-weaker c.uses_of.result
    (λ v. AreUsesOf bs c.args.m c.args.first row true c.of_method-own.result.now c.of_method-results.result.now v.items)
    (λ v. ArePutsOf bs s mr c.args.m c.args.first row v.items)
    (λ v is. puts_are s mr bs c.args.m c.args.first row c.args.heap.now.puts.items c.args.heap.now.fresh.items c.of_method-own.result.now c.of_method-results.result.now c.requires.heap.puts_are c.requires.heap.fresh_are
    (subst (λ (es : List Effect). (x : Effect) → Contains c.of_method-own.result.now x ↔ (Contains es x × (x.at.method.0 ≡ c.args.m.0))) c.as_slice.ensures.value c.of_method-own.ensures)
    (subst (λ (es : List Effect). (x : Effect) → Contains c.of_method-results.result.now x ↔ (Contains es x × (x.at.method.0 ≡ c.args.m.0))) c.as_slice-2.ensures.value c.of_method-results.ensures)
    v.items is)
    c.uses_of.ensures.members
