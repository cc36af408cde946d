use Rattle.script.proofs.Meaning.{seed_ok, seed_error}
use Rattle.script.proofs.parse.seed.Goals as goal

pub returns-in-Ok : goal.returns-in-Ok
returns-in-Ok c = seed_ok c.args.line.now _ c.in-Ok.ensures

pub returns-in-Err : goal.returns-in-Err
returns-in-Err c = seed_error c.args.line.now _ c.in-Err.ensures
