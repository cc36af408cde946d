use Rattle.std.proofs.Common.{◌≡◌, map}
use Rattle.std.specs.Global.{Vec}
use Rattle.dep_form.specs.declared.node.Node.{Node}
use Rattle.program_form.specs.Programs.{Program}
use Rattle.fact_form.specs.EntryCalls.{AreEntryCalls}
use Rattle.fact_form.specs.FactTables.{AreNodeRows}
use Rattle.fact_form.specs.Handed.{IsProgramWith}
use Rattle.node_tables.specs.Parts.{AreEntries}
use Rattle.node_tables.proofs.Outcomes.{both_ok}
use Rattle.node_tables.proofs.making.node_tables.Goals as goal

pub returns-in-Ok-clause-rows : goal.returns-in-Ok-clause-rows
returns-in-Ok-clause-rows c =
    let ks = c.args.h.now in
    let bs = c.args.bodies.now in
    let s = c.args.s.now in
    let mr = c.args.mr.now in
    both_ok c.tables_of.result (λ t. (p : Program) → IsProgramWith ks bs s p → AreNodeRows p s mr t.entries.items (map (λ (row : Vec Node). row.items) t.rows.items)) (λ t. AreEntries s ks t.entries.items)
    (λ t. (p : Program) → IsProgramWith ks bs s p → AreEntryCalls p s t.entries.items × AreNodeRows p s mr t.entries.items (map (λ (row : Vec Node). row.items) t.rows.items))
    (λ t rows entries p is. (entries p is.classes_are is.coded, rows p is)) c.tables_of.ensures.rows c.tables_of.ensures.entries
