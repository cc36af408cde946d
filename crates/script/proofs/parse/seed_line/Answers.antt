use Rattle.script.proofs.Meaning.{seed_line_count, seed_line_number, seed_line_ok, seed_line_memory}
use Rattle.script.proofs.parse.seed_line.Goals as goal

pub returns-in_default : goal.returns-in_default
returns-in_default c = seed_line_count c.args.line.now c.in_default.ensures

pub returns-in_default-number : goal.returns-in_default-number
returns-in_default-number c = seed_line_number c.args.line.now _ _ c.in-Some.ensures c.in_default-number.ensures

pub returns-in-Ok : goal.returns-in-Ok
returns-in-Ok c = seed_line_ok c.args.line.now _ _ _ _ c.in-Some.ensures c.in-Ok.ensures c.in-Some-number.ensures

pub returns-in-Err : goal.returns-in-Err
returns-in-Err c = seed_line_memory c.args.line.now _ _ _ c.in-Some.ensures c.in-Some-number.ensures
