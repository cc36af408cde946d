use Rattle.std.proofs.Common.{refl, sym, subst}
use Rattle.sessions.proofs.Listing.{Fills, filled, filled_before}
use Rattle.sessions.proofs.widened.add_missing.Goals as goal

pub returns-then-has : goal.returns-then-has
returns-then-has c = filled_before c.args.had.now c.args.more.now.items c.args.s (c.if-has.ensures.0 refl)

pub returns : goal.returns
returns c = subst (Fills c.args.had.now c.args.more.now.items c.args.s) (sym c.in_ok-push.ensures.items) (filled c.args.had.now c.args.more.now.items c.args.s)
