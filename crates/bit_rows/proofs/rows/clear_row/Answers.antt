use Rattle.std.proofs.Common.{◌≡◌, ◌<◌, ◌+◌, ◌∙◌, arith, subst, length, refl}
use Rattle.std.specs.Prelude.{◌↔◌}
use Rattle.std.proofs.lemmas.List.{length-set}
use Rattle.bit_rows.specs.Words.{IsIn, Outside}
use Rattle.bit_rows.proofs.Bits.{cleared_more, cleared_none}
use Rattle.bit_rows.proofs.rows.clear_row.Goals as goal

pub loop-k-init : goal.loop-k-init
loop-k-init c = record { bits = λ i. cleared_none c.args.words.now c.args.at i; len = refl }

pub loop-k-preserved : goal.loop-k-preserved
loop-k-preserved c =
    let lt : c.args.at + c.loop-k.k < length c.loop-k.words = omega (arith, c.loop-k-test.true, c.requires, c.loop-k.invariant.len) in
    record {
      bits = λ i. cleared_more c.args.words.now c.loop-k.words c.args.at c.loop-k.k i lt (c.loop-k.invariant.bits i);
      len = length-set c.loop-k.words (c.args.at + c.loop-k.k) 0 ∙ c.loop-k.invariant.len;
    }

pub returns-clause-bits : goal.returns-clause-bits
returns-clause-bits c =
    let end : c.loop-k.k ≡ c.args.width = omega (arith, c.loop-k-test.false, c.loop-k.auto.k-end) in
    λ i. subst (λ k. IsIn c.loop-k.words i ↔ IsIn c.args.words.now i × Outside c.args.at k i) end (c.loop-k.invariant.bits i)
