use Rattle.words.proofs.Wanted.{read_is, no_folder, no_scripts}
use Rattle.words.proofs.reading.requested.Goals as goal

pub returns-in-Ok-clause-asked : goal.returns-in-Ok-clause-asked
returns-in-Ok-clause-asked c =
    read_is c.args.matches.now c.get_str-2.result c.get_str.result c.get_strs.result c.in-Some.folder c.in-Some-get_strs.scripts c.in-Ok.request c.get_str-2.ensures c.get_str.ensures c.get_strs.ensures
    c.in-Some.is c.in-Some-get_strs.is c.in-Ok.ensures.main c.in-Ok.ensures.folder c.in-Ok.ensures.scripts

pub returns-in_default : goal.returns-in_default
returns-in_default c = record { asked = tt; usage = λ e. no_folder c.args.matches.now c.get_str.result c.get_str.ensures c.in_default.is }

pub returns-in_default-get_strs : goal.returns-in_default-get_strs
returns-in_default-get_strs c = record { asked = tt; usage = λ e. no_scripts c.args.matches.now c.get_strs.result c.get_strs.ensures c.in_default-get_strs.is }
