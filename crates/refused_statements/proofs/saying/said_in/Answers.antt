use Rattle.text_tables.proofs.Options.{some_is}
use Rattle.refused_statements.proofs.Telling.{class_there}
use Rattle.refused_statements.proofs.saying.said_in.Goals as goal

pub returns-in-Some : goal.returns-in-Some
returns-in-Some c =
    let at = some_is _ c.name_at.result c.in-Some.class _ c.in-Some.is c.name_at.ensures in
    class_there c.args.r c.args.text.now c.args.names.now c.in-Some.class.now c.said_of.result at c.said_of.ensures
