use Rattle.std.proofs.Common.{◌≡◌, Result, Ok, Err, refl}
use Rattle.slicer_ids.specs.declared.ids.NoMemory.{NoMemory}
use Rattle.sessions.specs.declared.kept.Kept.{Kept}
use Rattle.sessions.proofs.session.Session.answer.Goals as goal

never : (k : Kept) (e : NoMemory) → ◌≡◌ {A = Result Kept NoMemory} (Err e) (Ok k) → ⊥
never k e h = absurd (cc h)

pub returns-in-Ok-clause-session : goal.returns-in-Ok-clause-session
returns-in-Ok-clause-session g c = record {
  state = c.in-Ok.ensures.session.state;
  widened = c.in-Ok.ensures.session.widened;
  finder = c.in-Ok.ensures.session.finder;
  pass = c.in-Ok.ensures.session.pass;
  inputs = c.in-Ok.ensures.session.inputs;
  seat = c.in-Ok.ensures.session.seat;
}

pub returns-in-Ok-clause-keeps : goal.returns-in-Ok-clause-keeps
returns-in-Ok-clause-keeps g c = c.in-Ok.ensures.keeps

pub returns-in-Ok-clause-knows : goal.returns-in-Ok-clause-knows
returns-in-Ok-clause-knows g c = c.in-Ok.ensures.knows

pub returns-in-Ok-clause-had : goal.returns-in-Ok-clause-had
returns-in-Ok-clause-had g c = c.in-Ok.ensures.had

pub returns-in-Ok-clause-rows : goal.returns-in-Ok-clause-rows
returns-in-Ok-clause-rows g c = c.in-Ok.ensures.rows

pub returns-in-Err-clause-session : goal.returns-in-Err-clause-session
returns-in-Err-clause-session g c = record {
  state = c.in-Err.ensures.session.state;
  widened = c.in-Err.ensures.session.widened;
  finder = c.in-Err.ensures.session.finder;
  pass = c.in-Err.ensures.session.pass;
  inputs = c.in-Err.ensures.session.inputs;
  seat = c.in-Err.ensures.session.seat;
}

pub returns-in-Err-clause-keeps : goal.returns-in-Err-clause-keeps
returns-in-Err-clause-keeps g c = c.in-Err.ensures.keeps

pub returns-in-Err-clause-knows : goal.returns-in-Err-clause-knows
returns-in-Err-clause-knows g c = c.in-Err.ensures.knows

pub returns-in-Err-clause-had : goal.returns-in-Err-clause-had
returns-in-Err-clause-had g c = c.in-Err.ensures.had

pub returns-in-Err-clause-rows : goal.returns-in-Err-clause-rows
returns-in-Err-clause-rows g c = c.in-Err.ensures.rows

pub returns-in-Ok-clause-answer : goal.returns-in-Ok-clause-answer
returns-in-Ok-clause-answer g c = c.in-Ok.ensures.answer

pub returns-in-Ok-clause-needed : goal.returns-in-Ok-clause-needed
returns-in-Ok-clause-needed g c = c.in-Ok.ensures.needed

pub returns-in-Ok-clause-turns : goal.returns-in-Ok-clause-turns
returns-in-Ok-clause-turns g c = c.in-Ok.ensures.turns

pub returns-in-Ok-clause-leaves : goal.returns-in-Ok-clause-leaves
returns-in-Ok-clause-leaves g c = c.in-Ok.ensures.leaves

pub returns-in-Ok-clause-free : goal.returns-in-Ok-clause-free
returns-in-Ok-clause-free g c = λ n h. refl

pub returns-in-Err-clause-unchanged : goal.returns-in-Err-clause-unchanged
returns-in-Err-clause-unchanged g c = c.in-Err.ensures.unchanged

pub returns-in-Err-clause-kept : goal.returns-in-Err-clause-kept
returns-in-Err-clause-kept g c = c.in-Err.ensures.kept

pub returns-in-Err-clause-free : goal.returns-in-Err-clause-free
returns-in-Err-clause-free g c = λ n h. let k = c.in-Err.ensures.free n h in absurd (never k.0 c.in-Err.error k.1)
