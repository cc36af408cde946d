use Rattle.text_tables.proofs.Options.{some_is, none_is}
use Rattle.text_tables.proofs.Placed.{code_found}
use Rattle.text_tables.proofs.finding.code_in.Goals as goal

pub returns-in-Some : goal.returns-in-Some
returns-in-Some c =
    code_found _ c.args.class.now c.args.place c.in-Some.method.now c.first_code.result c.requires (some_is _ c.member_at.result c.in-Some.method _ c.in-Some.is c.member_at.ensures)
    c.first_code.ensures.found c.first_code.ensures.missed

pub returns-in-None : goal.returns-in-None
returns-in-None c = λ code (x, at, has). none_is _ c.member_at.result _ x c.in-None.is c.member_at.ensures at
