use Rattle.std.proofs.Common.{List, subst}
use Rattle.std.proofs.lemmas.Result.{on_ok_weaker}
use Rattle.class_form.specs.declared.class_file.Handler.{Handler}
use Rattle.worklists.specs.Growth.{Grows, FromOne}
use Rattle.variable_tables.specs.Statements.{IsPcOfHandler}
use Rattle.variable_tables.proofs.Gathering.{of_attribute}
use Rattle.variable_tables.proofs.handlers.push_attribute.Goals as goal

pub returns-in-Code : goal.returns-in-Code
returns-in-Code c =
    on_ok_weaker c.push_handlers.result
    (λ g. of_attribute c.args.attribute.now c.in-Code.code c.args.pcs.now.items c.push_handlers.new.pcs.items c.in-Code.is
    (subst (λ (hs : List Handler). Grows c.args.pcs.now.items c.push_handlers.new.pcs.items (FromOne IsPcOfHandler hs)) c.items.ensures g))
    c.push_handlers.ensures
