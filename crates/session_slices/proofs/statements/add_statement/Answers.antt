use Rattle.std.proofs.Common.{◌⊎◌, ◌↔◌, List, Contains, sym, subst}
use Rattle.slicer_ids.specs.declared.ids.Statement.{Statement}
use Rattle.dep_form.specs.Inputs.{BelongsTo}
use Rattle.thin_slice.proofs.Located.{some_node}
use Rattle.session_slices.proofs.Listing.{statement_one, statement_none, one_owner}
use Rattle.session_slices.proofs.statements.add_statement.Goals as goal

pub statement-requires : goal.statement-requires
statement-requires c = some_node c.args.f.now c.args.n c.requires.node

pub returns-in-Some-clause-members : goal.returns-in-Some-clause-members
returns-in-Some-clause-members c =
    subst (λ (xs : List Statement). (t : Statement) → Contains xs t ↔ (Contains c.args.found.now.items t ⊎ BelongsTo c.args.f.now.inputs c.args.n t)) (sym c.put.ensures.items)
    (statement_one (BelongsTo c.args.f.now.inputs c.args.n) c.args.found.now.items c.in-Some.s c.in-Some.ensures.found (λ t b. one_owner c.args.f.now c.args.n c.in-Some.s t c.in-Some.ensures.found b))

pub returns-in_default-clause-members : goal.returns-in_default-clause-members
returns-in_default-clause-members c = statement_none (BelongsTo c.args.f.now.inputs c.args.n) c.args.found.now.items c.in_default.ensures.missed
