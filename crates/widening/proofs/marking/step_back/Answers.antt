use Rattle.widening.specs.Edges.{Widened}
use Rattle.widening.proofs.MarkLaws.{in_slice}
use Rattle.widening.proofs.marking.step_back.Goals as goal

pub returns-in_err-prepare-clause-within : goal.returns-in_err-prepare-clause-within
returns-in_err-prepare-clause-within g c = λ seeds leads need. c.prepare.ensures.within seeds (in_slice (Widened c.args.f.now c.args.expansions.now) seeds c.args.phase c.args.n leads) need

pub returns-in_err-mark_back-clause-within : goal.returns-in_err-mark_back-clause-within
returns-in_err-mark_back-clause-within g c = λ seeds leads need. c.prepare.ensures.within seeds (in_slice (Widened c.args.f.now c.args.expansions.now) seeds c.args.phase c.args.n leads) need

pub returns-clause-within : goal.returns-clause-within
returns-clause-within g c = λ seeds leads need. c.prepare.ensures.within seeds (in_slice (Widened c.args.f.now c.args.expansions.now) seeds c.args.phase c.args.n leads) need

pub returns-clause-needed : goal.returns-clause-needed
returns-clause-needed g c = λ seeds leads need. c.in_ok-prepare.ensures.needed seeds (in_slice (Widened c.args.f.now c.args.expansions.now) seeds c.args.phase c.args.n leads) need
