use Rattle.std.proofs.Common.{◌≡◌, [], List, Contains, None, subst}
use Rattle.std.specs.Prelude.{OnOk}
use Rattle.slicer_ids.specs.declared.ids.Statement.{Statement}
use Rattle.dep_form.specs.Slices.{NodesOf}
use Rattle.sessions.specs.Turns.{TakesTurns}
use Rattle.sessions.proofs.Keeping.{begun_ok}
use Rattle.sessions.proofs.widened.begun.Goals as goal

pub returns-in-None-clause-widened : goal.returns-in-None-clause-widened
returns-in-None-clause-widened g c = begun_ok c.args.f.now c.args.state.now c.seeds.result.now c.new.result c.seeds.ensures c.new.ensures.widened c.new.ensures.none

pub returns-in-None-clause-turns : goal.returns-in-None-clause-turns
returns-in-None-clause-turns g c = λ _. subst (λ (ss : List Statement). OnOk c.new.result (TakesTurns c.args.f.now (Contains []) (NodesOf c.args.f.now.inputs (Contains ss)) None c.args.steps.now c.new.new.steps)) c.seeds.ensures c.new.ensures.turns
