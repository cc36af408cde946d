use Rattle.std.proofs.Common.{subst}
use Rattle.std.proofs.lemmas.Bool.{false≢true}
use Rattle.slicer_ids.specs.declared.ids.Statement.{Statement}
use Rattle.dep_form.specs.Inputs.{BelongsTo}
use Rattle.tabulate.proofs.Placing.{some_node}
use Rattle.widening.proofs.OpenLaws.{one_statement}
use Rattle.widening.proofs.expansions.belongs.Goals as goal

pub statement-requires : goal.statement-requires
statement-requires c = some_node c.args.f.now c.args.n c.requires

pub returns-in-Some : goal.returns-in-Some
returns-in-Some c = (
  λ h. subst (λ (t : Statement). BelongsTo c.args.f.now.inputs c.args.n t) (c.is_same.ensures.0 h) c.in-Some.ensures.found,
  λ b. c.is_same.ensures.1 (one_statement c.args.f.now c.args.n c.in-Some.t c.args.s c.in-Some.ensures.found b),
)

pub returns-in-None : goal.returns-in-None
returns-in-None c = (λ h. absurd (false≢true h), λ b. absurd (c.in-None.ensures.missed c.args.s b))
