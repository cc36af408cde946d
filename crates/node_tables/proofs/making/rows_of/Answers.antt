use Rattle.std.proofs.Common.{◌≡◌, List, map}
use Rattle.std.specs.Global.{Vec}
use Rattle.std.proofs.lemmas.Result.{IfOk-weaker, IfErr-weaker}
use Rattle.dep_form.specs.declared.node.Node.{Node}
use Rattle.program_form.specs.Programs.{Program}
use Rattle.fact_form.specs.FactLimits.{IsTooMany, IsWithinLimits}
use Rattle.fact_form.specs.FactTables.{AreNodeRows}
use Rattle.fact_form.specs.Handed.{IsProgramWith}
use Rattle.node_tables.specs.Rows.{AreRows}
use Rattle.node_tables.specs.Scenes.{IsProgramOf}
use Rattle.node_tables.proofs.Limited.{node_rows_are, statics_named}
use Rattle.node_tables.proofs.ProgramScenes.{program_is, scene_is}
use Rattle.node_tables.proofs.making.rows_of.Goals as goal

pub checked_rows-requires : goal.checked_rows-requires
checked_rows-requires c = scene_is c.args.h.now c.args.scene.now c.requires.scene c.requires.program.0 c.requires.program.1

pub returns-clause-rows : goal.returns-clause-rows
returns-clause-rows c =
    let x = c.args.scene.now in
    let ks = c.args.h.now in
    IfOk-weaker c.checked_rows.result (λ rows. AreRows x (map (λ (row : Vec Node). row.items) rows.items))
    (λ rows. (p : Program) → IsProgramWith ks x.bodies.now x.system.now p → AreNodeRows p x.system.now x.effects.now x.entries.now (map (λ (row : Vec Node). row.items) rows.items))
    (λ rows are p is.
    let of = program_is ks x c.requires.scene p is in
    node_rows_are x p of c.requires.scene.effects (c.constraints_give_the_facts.ensures p x.system.now is.asked is.constraints)
    (statics_named p x (λ t w v among. let f = c.static_spots_are_of_static_variables.ensures p x.system.now t w v is.constraints among in (f.0, f.1))) c.requires.scene.answering.size (map (λ (row : Vec Node). row.items) rows.items) are)
    c.checked_rows.ensures.rows

pub returns-clause-ok : goal.returns-clause-ok
returns-clause-ok c =
    let x = c.args.scene.now in
    let ks = c.args.h.now in
    IfOk-weaker c.checked_rows.result (λ rows. (p : Program) → IsProgramOf x p → IsWithinLimits p) (λ rows. (p : Program) → IsProgramWith ks x.bodies.now x.system.now p → IsWithinLimits p)
    (λ rows h p is. h p (program_is ks x c.requires.scene p is)) c.checked_rows.ensures.ok

pub returns-clause-err : goal.returns-clause-err
returns-clause-err c =
    let x = c.args.scene.now in
    let ks = c.args.h.now in
    IfErr-weaker c.checked_rows.result (λ e. (p : Program) → IsProgramOf x p → IsTooMany p e) (λ e. (p : Program) → IsProgramWith ks x.bodies.now x.system.now p → IsTooMany p e)
    (λ e h p is. h p (program_is ks x c.requires.scene p is)) c.checked_rows.ensures.err
