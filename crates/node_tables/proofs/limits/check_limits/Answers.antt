use Rattle.std.proofs.lemmas.Result.{IfOk-weaker, IfErr-weaker}
use Rattle.program_form.specs.Programs.{Program}
use Rattle.fact_form.specs.FactLimits.{IsTooMany, IsWithinLimits}
use Rattle.node_tables.specs.Limits.{IsTooManyOf, IsWithinLimitsOf}
use Rattle.node_tables.specs.Scenes.{IsProgramOf}
use Rattle.node_tables.proofs.Limited.{statics_named, too_many, within_limits}
use Rattle.node_tables.proofs.limits.check_limits.Goals as goal

pub returns-in-Ok-clause-ok : goal.returns-in-Ok-clause-ok
returns-in-Ok-clause-ok c =
    let x = c.args.scene.now in
    let t = c.in-Ok.totals in
    IfOk-weaker c.within.result (λ u. IsWithinLimitsOf t.nodes t.words) (λ u. (p : Program) → IsProgramOf x p → IsWithinLimits p)
    (λ u h p is.
    within_limits x p is c.requires.effects (c.constraints_give_the_facts.ensures p x.system.now is.asked is.constraints)
    (statics_named p x (λ t w v among. let f = c.static_spots_are_of_static_variables.ensures p x.system.now t w v is.constraints among in (f.0, f.1))) c.requires.answering t.nodes t.words c.in-Ok.ensures
    (λ rows are. c.rows_count_the_nodes.ensures p x.system.now x.effects.now x.entries.now rows is.asked is.coded is.constraints c.requires.effects is.entry_calls are)
    (λ rows are. c.rows_count_the_words.ensures p x.system.now x.effects.now x.entries.now rows is.asked is.coded is.constraints c.requires.effects is.entry_calls are) h) c.within.ensures.ok

pub returns-in-Ok-clause-err : goal.returns-in-Ok-clause-err
returns-in-Ok-clause-err c =
    let x = c.args.scene.now in
    let t = c.in-Ok.totals in
    IfErr-weaker c.within.result (IsTooManyOf t.nodes t.words) (λ e. (p : Program) → IsProgramOf x p → IsTooMany p e)
    (λ e h p is.
    too_many x p is c.requires.effects (c.constraints_give_the_facts.ensures p x.system.now is.asked is.constraints)
    (statics_named p x (λ t w v among. let f = c.static_spots_are_of_static_variables.ensures p x.system.now t w v is.constraints among in (f.0, f.1))) c.requires.answering t.nodes t.words c.in-Ok.ensures
    (λ rows are. c.rows_count_the_nodes.ensures p x.system.now x.effects.now x.entries.now rows is.asked is.coded is.constraints c.requires.effects is.entry_calls are)
    (λ rows are. c.rows_count_the_words.ensures p x.system.now x.effects.now x.entries.now rows is.asked is.coded is.constraints c.requires.effects is.entry_calls are) e h) c.within.ensures.err
