use Rattle.reply_laws.proofs.Unaccepted.{is_refused, refused_run}
use Rattle.reply_laws.proofs.laws.folders_that_are_not_accepted_are_refused.Goals as goal

pub returns-clause-definition : goal.returns-clause-definition
returns-clause-definition c = λ m r status told after scripts there never h. is_refused m r status told after scripts there never h

pub returns-clause-run : goal.returns-clause-run
returns-clause-run c = λ files files_after said said_after r status scripts h. refused_run files files_after said said_after r status scripts h
