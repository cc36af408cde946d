use Rattle.sessions.proofs.attending.take_line.Goals as goal

pub returns-in-Ok-clause-told : goal.returns-in-Ok-clause-told
returns-in-Ok-clause-told g c = (c.in-Ok.is_replied, c.counted.ensures, c.in-Ok.ensures.told)

pub returns-in-Ok-clause-needed : goal.returns-in-Ok-clause-needed
returns-in-Ok-clause-needed g c = λ e. c.in-Ok.ensures.needed

pub returns-in-Err-clause-told : goal.returns-in-Err-clause-told
returns-in-Err-clause-told g c = (c.in-Err.error, c.stopped.ensures, c.in-Err.ensures.fault, c.in-Err.ensures.part)
