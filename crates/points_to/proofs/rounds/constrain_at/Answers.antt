use Rattle.std.proofs.Common.{Contains, subst, sym, arith}
use Rattle.std.proofs.lemmas.Result.{on_ok_weaker}
use Rattle.points_to.proofs.Moving.{sound_by_one}
use Rattle.points_to.proofs.rounds.constrain_at.Goals as goal

pub returns-in-Some-clause-sound : goal.returns-in-Some-clause-sound
returns-in-Some-clause-sound c =
    let there : Contains c.items.result.now c.in-Some.constraint.now = (c.args.number, grind (arith, c.in-Some.ensures.lookup.0), sym c.in-Some.ensures.lookup.1) in
    let has = subst (λ xs. Contains xs c.in-Some.constraint.now) c.items.ensures there in
    on_ok_weaker c.constrain.result (λ m. sound_by_one c.args.system.now c.args.found.now c.constrain.new.found c.in-Some.constraint.now has m) c.constrain.ensures.moved
