use Rattle.script.proofs.Meaning.{explain_count, explain_first, explain_second, explain_ok, explain_memory}
use Rattle.script.proofs.parse.explain.Goals as goal

pub returns-in_default : goal.returns-in_default
returns-in_default c = explain_count c.args.line.now c.in_default.ensures

pub returns-in_default-number : goal.returns-in_default-number
returns-in_default-number c = explain_first c.args.line.now _ _ _ _ _ _ _ _ c.in-Some.ensures c.in_default-number.ensures

pub returns-in_default-number-2 : goal.returns-in_default-number-2
returns-in_default-number-2 c = explain_second c.args.line.now _ _ _ _ _ _ _ _ c.in-Some.ensures c.in_default-number-2.ensures

pub returns-in_default-make_place : goal.returns-in_default-make_place
returns-in_default-make_place c = explain_memory c.args.line.now _ _ _ _ _ _ _ _ _ _ c.in-Some.ensures c.in-Some-number.ensures c.in-Some-number-2.ensures

pub returns-in-Ok-make_place : goal.returns-in-Ok-make_place
returns-in-Ok-make_place c = explain_ok c.args.line.now _ _ _ _ _ _ _ _ _ _ c.in-Some.ensures c.in-Ok.ensures c.in-Ok-make_place.ensures

pub returns-in-Err : goal.returns-in-Err
returns-in-Err c = explain_memory c.args.line.now _ _ _ _ _ _ _ _ _ _ c.in-Some.ensures c.in-Some-number.ensures c.in-Some-number-2.ensures
