use Rattle.std.proofs.Common.{◌≡◌, ◌↔◌, List, Contains, false, sym, subst}
use Rattle.std.proofs.lemmas.Result.{IfOk-weaker}
use Rattle.dep_form.specs.Orders.{RiseBy}
use Rattle.input_tables.specs.declared.effects.Effect.{Effect}
use Rattle.input_tables.specs.Effects.{effect_cmp}
use Rattle.input_tables.specs.Uses.{AreGetsOf, AreUsesOf}
use Rattle.input_tables.proofs.HeapNumbers.{gets_are}
use Rattle.input_tables.proofs.heap.gets.Goals as goal

pub of_method-own-requires : goal.of_method-own-requires
of_method-own-requires c = subst (RiseBy effect_cmp (λ x. x)) (sym c.as_slice.ensures.value) c.requires.heap.gets_are.order

pub of_method-results-requires : goal.of_method-results-requires
of_method-results-requires c = subst (RiseBy effect_cmp (λ x. x)) (sym c.as_slice-2.ensures.value) c.requires.heap.reads_are.order

pub returns-clause-members : goal.returns-clause-members
returns-clause-members c =
    let s = c.args.scene.now.system.now in
    let mr = c.args.scene.now.effects.now in
    let bs = c.args.bodies.now in
    let row = c.args.row.now in
    IfOk-weaker c.uses_of.result
    (λ v. AreUsesOf bs c.args.m c.args.first row false c.of_method-own.result.now c.of_method-results.result.now v.items)
    (λ v. AreGetsOf bs s mr c.args.m c.args.first row v.items)
    (λ v is. gets_are s mr bs c.args.m c.args.first row c.args.heap.now.gets.items c.args.heap.now.reads.items c.of_method-own.result.now c.of_method-results.result.now c.requires.heap.gets_are c.requires.heap.reads_are
    (subst (λ (es : List Effect). (x : Effect) → Contains c.of_method-own.result.now x ↔ (Contains es x × (x.at.method.0 ≡ c.args.m.0))) c.as_slice.ensures.value c.of_method-own.ensures)
    (subst (λ (es : List Effect). (x : Effect) → Contains c.of_method-results.result.now x ↔ (Contains es x × (x.at.method.0 ≡ c.args.m.0))) c.as_slice-2.ensures.value c.of_method-results.ensures)
    v.items is)
    c.uses_of.ensures.members
