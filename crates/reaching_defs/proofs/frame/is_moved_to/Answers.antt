use Rattle.std.proofs.Common.{◌≡◌, ◌<◌, ◌+◌, ℕ, List, length, take, get_or, Contains, inl, inr, sym, ap, subst}
use Rattle.std.proofs.lemmas.List.{take_more, take_all}
use Rattle.std.proofs.lemmas.List.Elements.{Contains-push_cases}
use Rattle.reaching_defs.proofs.frame.is_moved_to.Goals as goal

not_yet : (moves : List (ℕ × ℕ)) (i slot : ℕ) (d : ℕ × ℕ) → i < length moves → ((from : ℕ) → Contains (take i moves) (from, slot) → ⊥) → ((get_or moves i d).1 ≡ slot → ⊥) → (from : ℕ) → Contains (take (i + 1) moves) (from, slot) → ⊥
not_yet moves i slot d lt before here from c =
    elim (Contains-push_cases (take i moves) (get_or moves i d) (from, slot) (subst (λ (xs : List (ℕ × ℕ)). Contains xs (from, slot)) (take_more moves i d lt) c)) [
      | inl o ↦ before from o
      | inr e ↦ here (ap (λ (m : ℕ × ℕ). m.1) e)
    ]

pub loop-to-preserved : goal.loop-to-preserved
loop-to-preserved c = not_yet c.args.moves.now c.loop-to.to-index c.args.slot (0, 0) c.loop-to-test.true c.loop-to.invariant c.if-to-slot.false

pub returns : goal.returns
returns c =
    let all = take_all c.loop-to.to-index c.args.moves.now c.loop-to-test.false in
    (λ h. absurd (cc h), λ h. absurd (c.loop-to.invariant h.0 (subst (λ (xs : List (ℕ × ℕ)). Contains xs (h.0, c.args.slot)) (sym all) h.1)))
