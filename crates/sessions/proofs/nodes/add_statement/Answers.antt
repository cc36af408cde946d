use Rattle.std.proofs.Common.{◌⊎◌, ◌↔◌, List, Contains, sym, subst}
use Rattle.slicer_ids.specs.declared.ids.Statement.{Statement}
use Rattle.dep_form.specs.Inputs.{BelongsTo}
use Rattle.thin_slice.proofs.Located.{some_node}
use Rattle.sessions.proofs.Listing.{statement_one, statement_none, one_owner}
use Rattle.sessions.proofs.nodes.add_statement.Goals as goal

pub statement-requires : goal.statement-requires
statement-requires c = some_node c.args.f.now c.args.n c.requires

pub returns : goal.returns
returns c =
    subst (λ (xs : List Statement). (t : Statement) → Contains xs t ↔ (Contains c.args.found.now.items t ⊎ BelongsTo c.args.f.now.inputs c.args.n t)) (sym c.in_ok-push.ensures.items)
    (statement_one (BelongsTo c.args.f.now.inputs c.args.n) c.args.found.now.items c.in-Some.s c.in-Some.ensures.found (λ t b. one_owner c.args.f.now c.args.n c.in-Some.s t c.in-Some.ensures.found b))

pub returns-in_default : goal.returns-in_default
returns-in_default c = statement_none (BelongsTo c.args.f.now.inputs c.args.n) c.args.found.now.items c.in_default.ensures.missed
