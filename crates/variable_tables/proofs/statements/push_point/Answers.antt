use Rattle.std.proofs.Common.{sym, subst, ◌∙◌}
use Rattle.std.proofs.lemmas.Bool.{false≢true}
use Rattle.variable_tables.specs.Statements.{Rises, HasKind, PointHas}
use Rattle.variable_tables.proofs.InOrder.{grows_none}
use Rattle.variable_tables.proofs.statements.push_point.Goals as goal

pub returns-else-has_kind : goal.returns-else-has_kind
returns-else-has_kind c =
    let kind = c.args.kind in
    let instrs = c.args.instrs.now in
    let q = c.args.point.now in
    grows_none Rises (λ x. ⊥) c.args.pcs.now.items (PointHas kind instrs q)
    (λ pc h. absurd (false≢true (sym c.if-has_kind.false ∙ c.has_kind.ensures.1 (subst (HasKind kind instrs) (sym h.0) h.1))))
