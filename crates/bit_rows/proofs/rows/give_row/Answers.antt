use Rattle.std.proofs.Common.{◌≤◌, ◌∙◌, arith, inl, inr, length, refl}
use Rattle.bit_rows.proofs.Bits.{row_more, row_whole, row_none, any_of, none_of}
use Rattle.bit_rows.proofs.rows.give_row.Goals as goal

pub loop-k-init : goal.loop-k-init
loop-k-init g c = record {
  adds = row_none c.args.at c.args.delta.now _ _;
  turns = refl;
  words = λ all. all;
  on = omega arith;
  moved = λ lt. absurd (omega (arith, lt));
  quiet = λ z. refl;
}

pub loop-k-preserved : goal.loop-k-preserved
loop-k-preserved g c = record {
  adds = row_more c.args.at c.args.delta.now c.loop-k.k _ _ _ _ _ _ c.loop-k.invariant.adds c.give_word-any.ensures.adds;
  turns = omega (arith, c.give_word-any.ensures.turns, c.loop-k.invariant.turns);
  words = λ all. c.give_word-any.ensures.words (c.loop-k.invariant.words all);
  on = omega (arith, c.give_word-any.ensures.on, c.loop-k.invariant.on);
  moved = λ lt. elim (any_of _ _ lt) [ inl a ↦ omega (arith, c.loop-k.invariant.moved a, c.give_word-any.ensures.on) | inr b ↦ omega (arith, c.loop-k.invariant.on, c.give_word-any.ensures.moved b) ];
  quiet = λ z. let h = none_of _ _ z in c.give_word-any.ensures.quiet h.1 ∙ c.loop-k.invariant.quiet h.0;
}

pub returns-clause-adds : goal.returns-clause-adds
returns-clause-adds g c =
    let le : length c.args.delta.now ≤ c.loop-k.k = omega (arith, c.loop-k-test.false) in
    row_whole c.args.at c.args.delta.now c.loop-k.k _ _ _ _ le c.loop-k.invariant.adds
