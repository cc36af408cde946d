use Rattle.std.proofs.Common.{List, take, Contains, subst, arith}
use Rattle.std.proofs.lemmas.List.{take_all}
use Rattle.slicer_ids.specs.declared.ids.Statement.{Statement}
use Rattle.slicer_ids.specs.Sets.{IsOrderedListOf}
use Rattle.slicer_ids.specs.Order.{StatementBefore}
use Rattle.slicer_ids.proofs.GrowingOrder.{without}
use Rattle.explainers.specs.Bringing.{HasOneOf}
use Rattle.explainers.proofs.Bringings.{keeps_on}
use Rattle.explainers.proofs.explain.keep_statements.Goals as goal

pub loop-s-init : goal.loop-s-init
loop-s-init c = without StatementBefore c.new-kept.result.items (λ s. Contains (take 0 c.args.slice.now) s × HasOneOf c.args.f.now c.args.objects.now s) c.new-kept.ensures.items (λ s h. absurd (omega (arith, h.0.1)))

pub loop-s-preserved : goal.loop-s-preserved
loop-s-preserved c = keeps_on (HasOneOf c.args.f.now c.args.objects.now) c.args.slice.now c.requires.slice c.loop-s.s-index _ c.loop-s.kept.items c.keep_statement.new.kept.items c.loop-s-test.true c.in_ok-keep_statement.ensures c.loop-s.invariant

pub returns : goal.returns
returns c = subst (λ (xs : List Statement). IsOrderedListOf StatementBefore c.loop-s.kept.items (λ s. Contains xs s × HasOneOf c.args.f.now c.args.objects.now s)) (take_all c.loop-s.s-index c.args.slice.now c.loop-s-test.false) c.loop-s.invariant
