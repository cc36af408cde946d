use Rattle.std.proofs.Common.{List, Contains, sym, subst}
use Rattle.slicer_ids.specs.declared.ids.Statement.{Statement}
use Rattle.slicer_ids.specs.Order.{StatementBefore}
use Rattle.slicer_ids.specs.Sets.{IsOrderedListOf}
use Rattle.dep_form.specs.Slices.{Slice, Nothing, StatementsOf}
use Rattle.explainer_tests.proofs.explained.explain_both.Goals as goal

pub explain-requires-clause-left : goal.explain-requires-clause-left
explain-requires-clause-left g c =
    subst (λ (ss : List Statement). IsOrderedListOf StatementBefore ss (StatementsOf c.args.f.now.inputs (Slice c.args.f.now.inputs Nothing (Contains c.args.a.now.object)))) (sym c.as_slice.ensures.value) c.in_ok-left.ensures.statements

pub explain-requires-clause-right : goal.explain-requires-clause-right
explain-requires-clause-right g c =
    subst (λ (ss : List Statement). IsOrderedListOf StatementBefore ss (StatementsOf c.args.f.now.inputs (Slice c.args.f.now.inputs Nothing (Contains c.args.b.now.object)))) (sym c.as_slice-2.ensures.value) c.in_ok-right.ensures.statements
