use Rattle.points_to.specs.declared.place.Place.TheVariants.{Written}
use Rattle.points_to.specs.Items.{Or}
use Rattle.points_to.specs.Rules.{state_of, elements_of, BothArguments, Answers, Fills}
use Rattle.points_to.proofs.Moving.{Moves-then}
use Rattle.points_to.proofs.outside.outside_does.Goals as goal

pub returns-clause-moved : goal.returns-clause-moved
returns-clause-moved c = λ s.
    Moves-then s c.args.found.now c.answer.new.found c.fill_states-2.new.found (Answers c.args.system.now c.args.c c.args.call.now c.args.rule.now) (Or (BothArguments c.args.system.now c.args.c c.args.call.now (Written c.args.c) c.args.rule.now.written) (Or (Fills c.args.c c.args.call.now (state_of c.args.system.now) c.args.rule.now.states) (Fills c.args.c c.args.call.now (elements_of c.args.system.now) c.args.rule.now.arrays))) (c.in_ok-answer.ensures.moved s)
    (Moves-then s c.answer.new.found c.write.new.found c.fill_states-2.new.found (BothArguments c.args.system.now c.args.c c.args.call.now (Written c.args.c) c.args.rule.now.written) (Or (Fills c.args.c c.args.call.now (state_of c.args.system.now) c.args.rule.now.states) (Fills c.args.c c.args.call.now (elements_of c.args.system.now) c.args.rule.now.arrays)) (c.in_ok-write.ensures.moved s)
    (Moves-then s c.write.new.found c.fill_states.new.found c.fill_states-2.new.found (Fills c.args.c c.args.call.now (state_of c.args.system.now) c.args.rule.now.states) (Fills c.args.c c.args.call.now (elements_of c.args.system.now) c.args.rule.now.arrays) (c.in_ok-fill_states.ensures.moved s) (c.in_ok-fill_states-2.ensures.moved s)))
