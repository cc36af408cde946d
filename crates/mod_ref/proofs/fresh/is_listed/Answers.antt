use Rattle.dep_form.specs.Orders.{statement_cmp}
use Rattle.mod_ref.proofs.Sorting.{found, missed}
use Rattle.mod_ref.proofs.Orders.{statements_exact}
use Rattle.mod_ref.proofs.fresh.is_listed.Goals as goal

pub returns-in-Err : goal.returns-in-Err
returns-in-Err c = (λ e. absurd (cc e), λ there. absurd (missed _ statement_cmp statements_exact c.args.places.now c.args.place c.in-Err.field-0 c.requires c.in-Err.ensures.position there))
