use Rattle.std.proofs.Common.{◌≡◌, ◌^◌, List, length, map, sym, subst}
use Rattle.std.specs.Prelude.{sum_by, ◌≤◌}
use Rattle.std.specs.Global.{Vec}
use Rattle.std.proofs.lemmas.Result.{IfOk-weaker}
use Rattle.slicer_ids.specs.declared.ids.MethodId.{MethodId}
use Rattle.dep_form.specs.declared.node.Node.{Node}
use Rattle.program_form.specs.Nodes.{IsNode}
use Rattle.program_form.specs.Programs.{Program}
use Rattle.fact_form.specs.EntryCalls.{AreEntryCalls}
use Rattle.fact_form.specs.FactTables.{AreNodeRows, IsFactSystem, parts_of}
use Rattle.fact_form.specs.Handed.{IsProgramWith}
use Rattle.program_facts.specs.Tables.{listed_parts}
use Rattle.program_facts.proofs.Counts.{facts_are, few_of}
use Rattle.program_facts.proofs.making.facts_of.Goals as goal

pub tables_of-requires-clause-rows : goal.tables_of-requires-clause-rows
tables_of-requires-clause-rows c = λ p of.
    let s = c.args.s.now in
    let mr = c.args.mr.now in
    subst (λ (es : List MethodId). AreEntryCalls p s es × AreNodeRows p s mr es (map (λ (row : Vec Node). row.items) c.as_slice-2.result.now)) (sym c.as_slice.ensures.value)
    (subst (λ (rs : List (Vec Node)). AreEntryCalls p s c.args.nodes.entries.items × AreNodeRows p s mr c.args.nodes.entries.items (map (λ (row : Vec Node). row.items) rs)) (sym c.as_slice-2.ensures.value) (c.requires.rows p of))

pub tables_of-requires-clause-few : goal.tables_of-requires-clause-few
tables_of-requires-clause-few c =
    let p = c.requires.program.0 in
    let of = c.requires.program.1 in
    let given = c.requires.rows p of in
    let rows = map (λ (row : Vec Node). row.items) c.args.nodes.rows.items in
    let size = c.rows_count_the_nodes.ensures p c.args.s.now c.args.mr.now c.args.nodes.entries.items rows of.asked of.coded of.constraints c.requires.effects given.0 given.1 in
    let within = (c.requires.within p of).nodes in
    subst (λ (rs : List (Vec Node)). sum_by length (map (λ (row : Vec Node). row.items) rs) ≤ 2 ^ 24) (sym c.as_slice-2.ensures.value) (few_of (IsNode p) (sum_by length rows) within.0 (2 ^ 24) size within.1 within.2)

pub made-requires-clause-program : goal.made-requires-clause-program
made-requires-clause-program c = (c.requires.program.0, c.as_slice.result.now, c.requires.program.1, c.in_ok-tables.ensures.tables c.requires.program.0 c.requires.program.1)

pub returns : goal.returns
returns c =
    let t = c.in_ok-tables.tables in
    IfOk-weaker c.made.result (λ f. parts_of f ≡ listed_parts t) (λ f. (p : Program) → IsProgramWith c.args.h.now c.args.bodies.now c.args.s.now p → IsFactSystem p c.args.s.now c.args.mr.now f)
    (λ f e p of. facts_are p c.args.s.now c.args.mr.now c.as_slice.result.now f (listed_parts t) e (c.in_ok-tables.ensures.tables p of)) c.made.ensures
