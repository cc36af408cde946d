use Rattle.script_lines.proofs.reader.ScriptReader.turn.Goals as goal

pub returns-in-None-clause-within : goal.returns-in-None-clause-within
returns-in-None-clause-within g c = λ script lines rest w. c.step.ensures.within script lines rest _ (c.in-None.ensures.within script lines rest w)
