use Rattle.script.proofs.Meaning.{expand_ok, expand_error}
use Rattle.script.proofs.parse.expand.Goals as goal

pub returns-in-Ok : goal.returns-in-Ok
returns-in-Ok c = expand_ok c.args.line.now _ c.in-Ok.ensures

pub returns-in-Err : goal.returns-in-Err
returns-in-Err c = expand_error c.args.line.now _ c.in-Err.ensures
