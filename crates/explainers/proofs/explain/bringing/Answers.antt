use Rattle.std.proofs.Common.{List, sym, subst}
use Rattle.slicer_ids.specs.declared.ids.Statement.{Statement}
use Rattle.slicer_ids.specs.Sets.{IsOrderedListOf}
use Rattle.slicer_ids.specs.Order.{StatementBefore}
use Rattle.dep_form.specs.Explaining.{Brings}
use Rattle.explainers.proofs.Bringings.{brought}
use Rattle.explainers.proofs.explain.bringing.Goals as goal

pub returns : goal.returns
returns c = subst (λ (xs : List Statement). IsOrderedListOf StatementBefore xs (Brings c.args.f.now c.args.a.now c.args.objects.now)) (sym c.from_vec.ensures)
    (brought c.args.f.now c.args.a.now c.args.objects.now c.args.slice.now c.in_ok-kept.kept.items c.requires.slice c.in_ok-kept.ensures)
