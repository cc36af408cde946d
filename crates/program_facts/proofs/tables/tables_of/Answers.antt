use Rattle.std.proofs.Common.{◌≡◌, List, All, Option, map, sym, subst}
use Rattle.slicer_ids.specs.Sets.{IsOrderedListOf}
use Rattle.slicer_ids.specs.declared.ids.MethodId.{MethodId}
use Rattle.slicer_ids.specs.declared.ids.NodeId.{NodeId}
use Rattle.slicer_ids.specs.declared.ids.Statement.{Statement}
use Rattle.class_form.specs.ClassRules.{IsClassFile}
use Rattle.class_form.specs.declared.class_file.ClassFile.{ClassFile}
use Rattle.dep_form.specs.declared.access.Access.{Access}
use Rattle.dep_form.specs.declared.input.MethodInput.{MethodInput}
use Rattle.dep_form.specs.declared.texts.MethodText.{MethodText}
use Rattle.dep_form.specs.Inputs.{IsExitNode, IsInputOf}
use Rattle.dep_form.specs.WithinFacts.{FollowOn, NodeBefore}
use Rattle.fact_form.specs.FactTables.{AreAccesses, AreInputs, AreMethodTexts}
use Rattle.program_facts.proofs.Counts.{as_own}
use Rattle.program_facts.proofs.tables.tables_of.Goals as goal

pub exits-requires : goal.exits-requires
exits-requires c = subst FollowOn (sym c.items.ensures) (c.in_ok-inputs.ensures.inputs c.requires.program.0 c.requires.program.1).follow_on

pub access_table-requires-clause-program : goal.access_table-requires-clause-program
access_table-requires-clause-program c = (c.requires.program.0, as_own c.args.h.now c.args.bodies.now c.args.s.now c.requires.program.0 c.requires.program.1)

pub access_table-requires-clause-order : goal.access_table-requires-clause-order
access_table-requires-clause-order c = λ m i at.
    let inputs = c.in_ok-inputs.ensures.inputs c.requires.program.0 c.requires.program.1 in
    (inputs.each m i (subst (λ (xs : List (Option MethodInput)). IsInputOf xs m i) c.items-3.ensures at)).nodes.order

pub value_table-requires-clause-program : goal.value_table-requires-clause-program
value_table-requires-clause-program c = (c.requires.program.0, as_own c.args.h.now c.args.bodies.now c.args.s.now c.requires.program.0 c.requires.program.1)

pub returns-clause-tables : goal.returns-clause-tables
returns-clause-tables c = λ p of.
    let own = as_own c.args.h.now c.args.bodies.now c.args.s.now p of in
    let inputs = c.in_ok-inputs.ensures.inputs p of in
    let methods = c.in_ok-methods.ensures p of in
    let files = subst (λ (ks : List ClassFile). All IsClassFile ks) (sym of.classes_are) c.requires.files in
    record {
      entry_calls = (c.requires.rows p of).0;
      inputs = inputs;
      exits = subst (λ (xs : List (Option MethodInput)). IsOrderedListOf NodeBefore c.in_ok-exits.exits (λ (n : NodeId). (m : MethodId) × IsExitNode xs n m)) c.items.ensures c.in_ok-exits.ensures;
      accesses = subst (λ (xs : List (Option MethodInput)). AreInputs p c.args.s.now c.args.mr.now c.args.entries.now xs → AreAccesses p c.args.s.now xs c.in_ok-accesses.accesses) c.items-3.ensures (c.in_ok-accesses.ensures p c.args.mr.now c.args.entries.now own files) inputs;
      values = c.in_ok-values.ensures p own;
      classes = c.in_ok-classes.ensures p of.classes_are;
      methods = methods;
      lines = c.in_ok-lines.ensures p c.args.s.now of.asked of.coded (subst (λ (ts : List MethodText). AreMethodTexts p c.args.s.now ts) (sym c.items-2.ensures) methods);
      sites = c.in_ok-sites.ensures p of;
    }

pub returns-clause-few : goal.returns-clause-few
returns-clause-few c = c.in_ok-inputs.ensures.few
