use Rattle.std.proofs.Common.{◌≡◌, ◌∙◌, List, [], ◌∷◌, Some, None, Option, ℕ, refl, sym, ap, subst}
use Rattle.std.proofs.lemmas.Result.{IfOk-weaker}
use Rattle.slicer_ids.specs.declared.ids.NodeId.{NodeId}
use Rattle.slicer_ids.specs.declared.ids.ClassId.{ClassId}
use Rattle.slicer_ids.specs.declared.ids.SiteId.{SiteId}
use Rattle.slicer_ids.specs.declared.ids.Statement.{Statement}
use Rattle.dep_form.specs.declared.access.Access.{Access}
use Rattle.dep_form.specs.declared.texts.MethodText.{MethodText}
use Rattle.dep_form.specs.declared.texts.SiteName.{SiteName}
use Rattle.dep_form.specs.declared.input.MethodInput.{MethodInput}
use Rattle.dep_form.specs.WithinFacts.{AreFacts}
use Rattle.std.specs.Prelude.{IfOk}
use Rattle.sharing_tests.specs.OneMethod.{IsOneMethod}
use Rattle.sharing_tests.proofs.SmallFacts.{are_facts}
use Rattle.sharing_tests.proofs.SmallRow.{input_is, root_is}
use Rattle.sharing_tests.proofs.one_method.one_method.Goals as goal

pub new-requires-6 : goal.new-requires-6
new-requires-6 c =
    let inputs = sym (c.from_vec-2.ensures ∙ c.in_ok-inputs.ensures.items) in
    let exits = sym (c.from_vec-3.ensures ∙ c.in_ok-exits.ensures.items) in
    let classes = sym (c.from_vec-4.ensures ∙ c.in_ok-classes.ensures.items) in
    let methods = sym (c.from_vec-5.ensures ∙ c.in_ok-methods.ensures.items) in
    let sites = sym (c.from_vec-6.ensures ∙ c.new-2.ensures.items) in
    let lines = sym (c.from_vec-7.ensures ∙ c.new-3.ensures.items) in
    let accesses = sym (c.from_vec-8.ensures ∙ c.new-4.ensures.items) in
    let values = sym (c.from_vec-9.ensures ∙ c.new-5.ensures.items) in
    subst
    (λ (z : List (Option MethodInput) × List NodeId × List (List ℕ) × List MethodText × List SiteName × List (ClassId × ℕ × List Statement) × List (Statement × Access) × List (Statement × List SiteId)).
    AreFacts z.0 z.1 z.2 z.3 z.4 z.5 z.6 z.7)
    (λ t. (inputs t, exits t, classes t, methods t, sites t, lines t, accesses t, values t))
    (are_facts c.in_ok-method.method c.empty_root-root.result c.in_ok-method.ensures c.empty_root-root.ensures c.in_ok-from_bytes.field-0 _ refl)

made_facts : (c : goal.After-new-6) → IfOk c.new-6.result IsOneMethod
made_facts c = IfOk-weaker c.new-6.result _ _
    (λ f made. record {
      input = c.in_ok-method.method;
      root = c.empty_root-root.result;
      inputs_are = made.inputs_are ∙ c.from_vec-2.ensures ∙ c.in_ok-inputs.ensures.items;
      hands_on = c.in_ok-method.ensures;
      is_root = c.empty_root-root.ensures;
      exits_are = made.exits_are ∙ c.from_vec-3.ensures ∙ c.in_ok-exits.ensures.items;
    })
    c.new-6.ensures

pub returns-clause-facts : goal.returns-clause-facts
returns-clause-facts c = made_facts c

pub returns-clause-method : goal.returns-clause-method
returns-clause-method c = IfOk-weaker c.new-6.result _ _ (λ f o. (o.input, input_is f o)) (made_facts c)

pub returns-clause-root : goal.returns-clause-root
returns-clause-root c = IfOk-weaker c.new-6.result _ _ (λ f o. (o.root, root_is f o)) (made_facts c)
