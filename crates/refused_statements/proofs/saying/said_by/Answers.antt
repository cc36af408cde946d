use Rattle.text_tables.proofs.Options.{some_is}
use Rattle.refused_statements.proofs.Telling.{text_there}
use Rattle.refused_statements.proofs.saying.said_by.Goals as goal

pub returns-in-Some : goal.returns-in-Some
returns-in-Some c =
    let at = some_is _ c.text_at.result c.in-Some.text _ c.in-Some.is c.text_at.ensures in
    text_there c.args.r c.args.texts.now c.args.names.now c.in-Some.text.now c.said_in.result at c.said_in.ensures
