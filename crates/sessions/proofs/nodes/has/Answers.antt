use Rattle.std.proofs.Common.{ap, Some, ◌∙◌}
use Rattle.std.proofs.lemmas.Cmp.{tied_itself}
use Rattle.std.proofs.lemmas.Option.{slice_get-get_or}
use Rattle.slicer_ids.specs.declared.ids.Statement.{Statement}
use Rattle.dep_form.specs.Orders.{statement_cmp}
use Rattle.dep_form.proofs.Searching.{nowhere, statement_total}
use Rattle.session_state.proofs.StatementOrder.{rise}
use Rattle.sessions.proofs.nodes.has.Goals as goal

pub returns-in-Err : goal.returns-in-Err
returns-in-Err c = (
  λ t. absurd (cc t),
  λ k. absurd (nowhere statement_cmp statement_total (λ h. h) c.args.list.now c.args.s c.in-Err.field-0 (rise c.args.list.now c.requires) c.in-Err.ensures.position k.0 c.args.s
      (slice_get-get_or c.args.list.now k.0 c.args.s k.1 ∙ ap (λ (h : Statement). Some h) k.2) (tied_itself statement_total c.args.s)),
)
