use Rattle.std.proofs.Common.{ℕ, subst, List, Contains}
use Rattle.reaching_defs.proofs.frame.leaves_slot.Goals as goal

pub returns-then-is_moved_to : goal.returns-then-is_moved_to
returns-then-is_moved_to c =
    let m = c.is_moved_to.ensures.0 c.if-is_moved_to.true in
    (λ h. absurd (cc h), λ h. absurd (h.1 m.0 (subst (λ (xs : List (ℕ × ℕ)). Contains xs (m.0, c.args.slot)) c.items-2.ensures m.1)))
