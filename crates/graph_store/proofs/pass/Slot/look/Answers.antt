use Rattle.std.proofs.Common.{rules, refl}
use Rattle.graph_store.proofs.Slots.{shared_told, has_graph}
use Rattle.graph_store.proofs.pass.Slot.look.Goals as goal

pub returns-then-is_same_input-clause-shared : goal.returns-then-is_same_input-clause-shared
returns-then-is_same_input-clause-shared c =
    ((λ _. (c.in-Some.published.now, c.in-Some.ensures.value.0, c.is_same_input.ensures.0 c.if-is_same_input.true)), (λ _. refl))

pub returns : goal.returns
returns c =
    let t = c.args.self.now in
    let told = shared_told c.args.input.now t.note.known t.seen c.in_default.not-No c.requires.fits in
    record {
      cell = c.requires.cell;
      fits = c.requires.fits;
      keeps = record { known = λ x h. h; given = λ g h. h };
      shared = ((λ r. told.0 (c.is_shared.ensures.0 r)), (λ x. c.is_shared.ensures.1 (told.1 x)));
      seen = λ _. has_graph t.seen c.in_default.not-No;
      stays = λ _. refl;
    }
