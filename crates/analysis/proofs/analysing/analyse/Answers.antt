use Rattle.std.proofs.Common.{rules}
use Rattle.analysis.proofs.Trying.{statement_refuses, locations_refuse, analysis_of}
use Rattle.analysis.proofs.analysing.analyse.Goals as goal

pub returns-in_err-system-clause-refused : goal.returns-in_err-system-clause-refused
returns-in_err-system-clause-refused c = λ line e p is. c.system_of.ensures.refused line (search rules) p is

pub try_statements-requires-clause-program : goal.try_statements-requires-clause-program
try_statements-requires-clause-program c = (c.requires.0, c.requires.1, (c.in_ok-system.ensures.made c.requires.0 c.requires.1).0)

pub returns-in_err-try_statements-clause-refused : goal.returns-in_err-try_statements-clause-refused
returns-in_err-try_statements-clause-refused c = λ line e p is.
    let made = c.in_ok-system.ensures.made p is in
    let r = c.try_statements.ensures.refused line (search rules) p is made.0 in
    statement_refuses p made.1 r.0 r.1 line r.2 r.3 r.4

pub returns-in_err-effects-clause-refused : goal.returns-in_err-effects-clause-refused
returns-in_err-effects-clause-refused c = λ line e p is.
    let made = c.in_ok-system.ensures.made p is in
    let r = c.effects_of.ensures.refused line (search rules) p is made.0 in
    locations_refuse p made.1 (c.in_ok-try_statements.ensures.allowed p is made.0) r.0 line r.1 r.2

pub returns-clause-analysed : goal.returns-clause-analysed
returns-clause-analysed c = λ p is.
    let made = c.in_ok-system.ensures.made p is in
    analysis_of p made.1 (c.in_ok-try_statements.ensures.allowed p is made.0) c.in_ok-system.system c.in_ok-solution.solution c.in_ok-effects.effects made.0 c.in_ok-solution.ensures.solved
    c.in_ok-effects.ensures.described (c.in_ok-effects.ensures.few p is made.0)
