use Rattle.std.proofs.Common.{◌≡◌, ◌≤◌, Bool, List, length, map, sym, ap, subst, arith}
use Rattle.std.specs.Global.{Vec}
use Rattle.slicer_ids.specs.declared.ids.MethodId.{MethodId}
use Rattle.dep_form.specs.declared.node.Node.{Node}
use Rattle.program_form.specs.Programs.{Program}
use Rattle.fact_form.specs.FactTables.{AreNodeRows}
use Rattle.fact_form.specs.Handed.{IsProgramWith}
use Rattle.node_tables.specs.Parts.{AreAnswers, AreEntries, AreGiven}
use Rattle.node_tables.proofs.making.tables_of.Goals as goal

pub rows_of-requires-clause-scene : goal.rows_of-requires-clause-scene
rows_of-requires-clause-scene c =
    let s = c.args.s.now in
    let ks = c.args.h.now in
    let entries = c.args.parts.entries.items in
    record {
      solved = c.requires.solved;
      effects = c.requires.effects;
      small = c.requires.small;
      answering = subst (λ (bs : List Bool). AreAnswers ks bs (length s.methods)) (sym c.as_slice.ensures.value) c.requires.answering;
      entries = subst (λ (ts : List MethodId). AreEntries s ks ts) (sym c.as_slice-2.ensures.value) c.requires.entries;
      few = omega (arith, c.if-count-gt-MOST.false, c.len-count.ensures, c.args.parts.entries.ok.0, ap (λ (ts : List MethodId). length ts) c.as_slice-2.ensures.value);
      given = subst (λ (ts : List MethodId). AreGiven s ts c.as_slice-3.result.now (length ts)) (sym c.as_slice-2.ensures.value) (subst (λ (bs : List Bool). AreGiven s entries bs (length entries)) (sym c.as_slice-3.ensures.value) c.requires.given);
    }

pub returns-in-Ok-clause-rows : goal.returns-in-Ok-clause-rows
returns-in-Ok-clause-rows c = λ p is.
    subst (λ (ts : List MethodId). AreNodeRows p c.args.s.now c.args.mr.now ts (map (λ (row : Vec Node). row.items) c.in-Ok.rows.items)) c.as_slice-2.ensures.value (c.in-Ok.ensures.rows p is)
