use Rattle.words.proofs.Outputs.{output_is}
use Rattle.words.proofs.scripts.is_output.Goals as goal

pub returns-in-Some : goal.returns-in-Some
returns-in-Some c = output_is c.args.script.now c.args.path.now c.in-Some.rest.now c.is_same.result c.in-Some.ensures.found c.is_same.ensures
