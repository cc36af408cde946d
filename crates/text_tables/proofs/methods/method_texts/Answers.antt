use Rattle.std.proofs.Common.{List, length, refl, sym, subst, arith}
use Rattle.dep_form.specs.declared.texts.MethodText.{MethodText}
use Rattle.text_tables.specs.MethodLines.{AreTextsBelow}
use Rattle.text_tables.proofs.TextTables.{points_in_order, system_count, reached_count, texts_described}
use Rattle.text_tables.proofs.methods.method_texts.Goals as goal

pub texts_of-requires-clause-points : goal.texts_of-requires-clause-points
texts_of-requires-clause-points c = points_in_order c.args.h.now c.args.bodies.now c.args.s.now c.requires.program.0 c.requires.program.1

pub texts_of-requires-clause-places : goal.texts_of-requires-clause-places
texts_of-requires-clause-places c =
    reached_count c.args.h.now c.args.bodies.now c.args.s.now c.requires.program.0 c.requires.program.1 c.method_places.result.now c.method_places.ensures c.args.sol.now c.requires.solved

pub texts_of-requires-clause-few : goal.texts_of-requires-clause-few
texts_of-requires-clause-few c =
    omega (arith, system_count c.args.h.now c.args.bodies.now c.args.s.now c.requires.program.0 c.requires.program.1 c.method_places.result.now c.method_places.ensures, c.are_few.ensures c.if-not-are_few.false)

pub returns : goal.returns
returns c = λ p is.
    let places = c.method_places.result.now in
    let below = subst (λ (ts : List MethodText). AreTextsBelow c.args.h.now c.args.bodies.now c.args.sol.now places (length places) ts) (sym c.from_vec.ensures) c.in_ok-texts.ensures in
    texts_described c.args.h.now c.args.bodies.now c.args.sol.now places (length places) refl c.from_vec.result below c.method_places.ensures c.args.s.now c.requires.solved p is
