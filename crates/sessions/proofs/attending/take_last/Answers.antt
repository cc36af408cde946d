use Rattle.std.proofs.Common.{refl, inl, inr}
use Rattle.sessions.proofs.Serving.{never_done}
use Rattle.sessions.proofs.attending.take_last.Goals as goal

pub returns-in-None-clause-told : goal.returns-in-None-clause-told
returns-in-None-clause-told g c = inl (c.take_line.new.count, c.take_line.new.session.state, refl, c.in-None.ensures.told)

pub returns-in-Some-clause-told : goal.returns-in-Some-clause-told
returns-in-Some-clause-told g c = inr c.in-Some.ensures.told

pub returns-in-None-clause-needed : goal.returns-in-None-clause-needed
returns-in-None-clause-needed g c = λ m e. c.in-None.ensures.needed refl

pub returns-in-Some-clause-needed : goal.returns-in-Some-clause-needed
returns-in-Some-clause-needed g c = λ m e. absurd (never_done c.in-Some.outcome c.in-Some.ensures.told.0 c.args.count m c.in-Some.ensures.told.1 e)
