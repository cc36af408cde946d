use Rattle.std.proofs.Common.{ℕ, List, subst}
use Rattle.dep_form.specs.LookUps.{IsClassNamed}
use Rattle.session_form.specs.Places.{NamesNoLine}
use Rattle.session_form.specs.Answers.{refuses_line}
use Rattle.session_state.proofs.state.SessionState.seed_line.Goals as goal

pub returns-in-Ok-clause-answer : goal.returns-in-Ok-clause-answer
returns-in-Ok-clause-answer c =
    let h = c.in-Ok.ensures in
    c.add_seeds.ensures.answer c.args.f.now c.args.name.now c.args.line h.0 (subst (λ (n : List ℕ). IsClassNamed c.args.f.now n h.0) c.bytes.ensures h.1) h.2 h.3

pub returns-in-Err-clause-answer : goal.returns-in-Err-clause-answer
returns-in-Err-clause-answer c = refuses_line (subst (λ (n : List ℕ). NamesNoLine c.args.f.now n c.args.line c.in-Err.error) c.bytes.ensures c.in-Err.ensures)
