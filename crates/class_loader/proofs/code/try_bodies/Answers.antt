use Rattle.std.proofs.Common.{rules, ap, length, arith}
use Rattle.std.proofs.lemmas.Option.{slice_get_within}
use Rattle.body_rules.proofs.Coded.{bodies_more, first_bad}
use Rattle.class_loader.proofs.code.try_bodies.Goals as goal

pub loop-place-init : goal.loop-place-init
loop-place-init c = λ place m code lt there. absurd (omega arith)

pub loop-place-preserved : goal.loop-place-preserved
loop-place-preserved c = bodies_more c.args.class.now c.loop-place.place c.loop-place.invariant c.in_ok-try_place.ensures.bodies

pub returns-in_err-try_place-clause-refused : goal.returns-in_err-try_place-clause-refused
returns-in_err-try_place-clause-refused c = λ line e. first_bad c.args.path.now c.args.class.now c.loop-place.place line c.loop-place.invariant (c.try_place.ensures.refused line (search rules))

pub returns-clause-bodies : goal.returns-clause-bodies
returns-clause-bodies c = λ place m code there.
    let within = slice_get_within c.args.class.now.methods place m there.0 in
    c.loop-place.invariant place m code (omega (arith, within, c.loop-place-test.false, ap length c.items-place-end.ensures)) there
