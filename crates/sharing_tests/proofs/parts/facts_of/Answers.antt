use Rattle.std.proofs.Common.{◌∙◌, ℕ, List, Option, sym, subst}
use Rattle.slicer_ids.specs.declared.ids.NodeId.{NodeId}
use Rattle.slicer_ids.specs.declared.ids.ClassId.{ClassId}
use Rattle.slicer_ids.specs.declared.ids.SiteId.{SiteId}
use Rattle.slicer_ids.specs.declared.ids.Statement.{Statement}
use Rattle.dep_form.specs.declared.access.Access.{Access}
use Rattle.dep_form.specs.declared.texts.MethodText.{MethodText}
use Rattle.dep_form.specs.declared.texts.SiteName.{SiteName}
use Rattle.dep_form.specs.declared.input.MethodInput.{MethodInput}
use Rattle.dep_form.specs.WithinFacts.{AreFacts}
use Rattle.sharing_tests.proofs.PartFacts.{small_facts}
use Rattle.sharing_tests.proofs.parts.facts_of.Goals as goal

pub new-requires-5 : goal.new-requires-5
new-requires-5 c =
    let inputs = sym c.from_vec.ensures in
    let exits = sym c.from_vec-2.ensures in
    let classes = sym (c.from_vec-3.ensures ∙ c.in_ok-classes.ensures.items) in
    let texts = sym c.from_vec-4.ensures in
    let sites = sym (c.from_vec-5.ensures ∙ c.new.ensures.items) in
    let lines = sym (c.from_vec-6.ensures ∙ c.new-2.ensures.items) in
    let accesses = sym (c.from_vec-7.ensures ∙ c.new-3.ensures.items) in
    let values = sym (c.from_vec-8.ensures ∙ c.new-4.ensures.items) in
    subst
    (λ (z : List (Option MethodInput) × List NodeId × List (List ℕ) × List MethodText × List SiteName × List (ClassId × ℕ × List Statement) × List (Statement × Access) × List (Statement × List SiteId)).
    AreFacts z.0 z.1 z.2 z.3 z.4 z.5 z.6 z.7)
    (λ t. (inputs t, exits t, classes t, texts t, sites t, lines t, accesses t, values t))
    (small_facts c.args.inputs.items c.args.exits.items c.in_ok-from_bytes.field-0 c.args.texts.items c.requires.program c.requires.rise c.requires.classes)
