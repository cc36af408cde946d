use Rattle.std.proofs.lemmas.List.Elements.{All-weaker}
use Rattle.class_form.specs.declared.body.Body.{Body}
use Rattle.site_tables.specs.Tables.{ArePointsInOrder}
use Rattle.variable_tables.specs.Statements.{IsFollowed}
use Rattle.constraints.proofs.Ending.{too_many_sites}
use Rattle.constraints.proofs.whole.with_root.Goals as goal

pub site_table-requires : goal.site_table-requires
site_table-requires c =
    let (p, given) = c.requires.program in
    record { bodies = (p, given.of, given.bodies_are); points = All-weaker IsFollowed ArePointsInOrder (λ (b : Body) h. h.flow.order) c.args.bodies.now c.requires.followed }

pub returns-in-Err-clause-limit : goal.returns-in-Err-clause-limit
returns-in-Err-clause-limit c = too_many_sites c.args.h.now c.args.bodies.now c.args.root c.requires.root c.in-Err.error c.in-Err.ensures.limit
