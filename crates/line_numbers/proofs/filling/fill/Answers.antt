use Rattle.std.proofs.Common.{◌≡◌, ◌<◌, ◌≤◌, ◌+◌, ℕ, List, Some, None, length, set, inl, inr, refl, sym, ap, subst, ◌∙◌, arith, length-set, get_or-set_same, get_or-set_other}
use Rattle.std.proofs.lemmas.Bool.{cases_eq, cases_lt}
use Rattle.line_numbers.specs.LineTables.{AreLasts, IsLineAt, IsLastAt, IsLineBelow}
use Rattle.line_numbers.proofs.Tables.{same}
use Rattle.line_numbers.proofs.filling.fill.Goals as goal

pub loop-pc-preserved : goal.loop-pc-preserved
loop-pc-preserved c =
    let by = c.loop-pc.by_pc.items in
    let pc = c.loop-pc.pc in
    let line = c.later-line.result in
    let within : pc < length by = omega (arith, c.loop-pc.invariant.size, c.loop-pc-test.true) in
    let goes : (lines : List (ℕ × ℕ)) → AreLasts lines c.args.by_pc.now.items → IsLineAt lines pc line =
    λ lines lasts. c.later-line.ensures lines pc (subst (IsLastAt lines pc) (sym (c.index.ensures ∙ same by pc c.index.result.now None within ∙ c.loop-pc.invariant.rest pc (omega arith))) (lasts pc)) (c.loop-pc.invariant.line lines lasts) in
    record {
      size = length-set by pc line ∙ c.loop-pc.invariant.size;
      rest = λ k le. let other : k ≡ pc → ⊥ = λ e. absurd (omega arith) in get_or-set_other by pc k line None other ∙ c.loop-pc.invariant.rest k (omega arith);
      line = goes;
      filled = λ lines lasts k lt. elim (cases_eq k pc) [
        | inl e ↦ rw e (subst (IsLineAt lines pc) (sym (get_or-set_same by pc line None within)) (goes lines lasts))
        | inr other ↦ subst (IsLineAt lines k) (sym (get_or-set_other by pc k line None other)) (c.loop-pc.invariant.filled lines lasts k (omega arith))
      ];
    }

pub returns-clause-filled : goal.returns-clause-filled
returns-clause-filled c = λ lines lasts pc lt. c.loop-pc.invariant.filled lines lasts pc (omega (arith, c.loop-pc-test.false, c.loop-pc.invariant.size))
