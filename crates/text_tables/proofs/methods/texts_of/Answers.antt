use Rattle.std.proofs.Common.{◌≡◌, ℕ, length, subst, arith}
use Rattle.text_tables.specs.MethodLines.{AreTextsBelow}
use Rattle.text_tables.proofs.TextTables.{no_texts, one_text}
use Rattle.text_tables.proofs.methods.texts_of.Goals as goal

pub loop-m-init : goal.loop-m-init
loop-m-init c = no_texts c.args.h.now c.args.bodies.now c.args.sol.now c.args.places.now c.new-texts.result.items c.new-texts.ensures.items

pub add_text-requires-clause-m : goal.add_text-requires-clause-m
add_text-requires-clause-m c = omega (arith, c.loop-m-test.true, c.requires.places)

pub loop-m-preserved : goal.loop-m-preserved
loop-m-preserved c =
    let w = c.in_ok-add_text.ensures in
    one_text c.args.h.now c.args.bodies.now c.args.sol.now c.args.places.now c.loop-m.m c.place_at-place.result c.loop-m.texts.items c.add_text.new.texts.items w.0 c.place_at-place.ensures c.loop-m.invariant w.1 w.2

pub returns : goal.returns
returns c =
    let end : c.loop-m.m ≡ length c.args.places.now = omega (arith, c.loop-m-test.false, c.loop-m.auto.m-end) in
    subst (λ (n : ℕ). AreTextsBelow c.args.h.now c.args.bodies.now c.args.sol.now c.args.places.now n c.loop-m.texts.items) end c.loop-m.invariant
