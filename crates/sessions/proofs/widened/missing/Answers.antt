use Rattle.std.proofs.Common.{List, take, sym, subst}
use Rattle.std.proofs.lemmas.List.{take_more, take_all}
use Rattle.slicer_ids.specs.declared.ids.Statement.{Statement}
use Rattle.sessions.proofs.Listing.{IsFilled, filled_none, filled_more}
use Rattle.sessions.proofs.widened.missing.Goals as goal

pub loop-s-init : goal.loop-s-init
loop-s-init c = filled_none c.args.had.now c.new-more.result.items c.new-more.ensures.items

pub loop-s-preserved : goal.loop-s-preserved
loop-s-preserved c =
    subst (λ (xs : List Statement). IsFilled c.args.had.now c.add_missing.new.more.items xs) (sym (take_more c.args.all.now c.loop-s.s-index _ c.loop-s-test.true))
    (filled_more c.args.had.now c.loop-s.more.items c.add_missing.new.more.items (take c.loop-s.s-index c.args.all.now) _ c.loop-s.invariant c.in_ok-add_missing.ensures)

pub returns : goal.returns
returns c = subst (λ (xs : List Statement). IsFilled c.args.had.now c.loop-s.more.items xs) (take_all _ _ c.loop-s-test.false) c.loop-s.invariant
