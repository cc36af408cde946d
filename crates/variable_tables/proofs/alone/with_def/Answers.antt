use Rattle.std.proofs.Common.{◌++◌, ◌∷◌, [], sym, subst, ◌∙◌}
use Rattle.std.proofs.lemmas.Bool.{false≢true}
use Rattle.variable_tables.specs.Operands.{IsSeen}
use Rattle.variable_tables.proofs.SeenDefs.{same_again, another, still_several}
use Rattle.variable_tables.proofs.alone.with_def.Goals as goal

pub returns-then-is_same : goal.returns-then-is_same
returns-then-is_same c = λ ds seen. same_again ds c.in-One.other c.args.def (subst (IsSeen ds) c.in-One.is seen) (c.is_same.ensures.0 c.if-is_same.true)

pub returns-else-is_same : goal.returns-else-is_same
returns-else-is_same c = λ ds seen. another ds c.in-One.other c.args.def (subst (IsSeen ds) c.in-One.is seen) (λ e. false≢true (sym c.if-is_same.false ∙ c.is_same.ensures.1 e))

pub returns-in-Several : goal.returns-in-Several
returns-in-Several c = λ ds seen. subst (IsSeen (ds ++ c.args.def ∷ [])) (sym c.in-Several.is) (still_several ds c.args.def (subst (IsSeen ds) c.in-Several.is seen))
