use Rattle.std.proofs.Common.{get_or, ◌∙◌}
use Rattle.std.proofs.lemmas.List.Elements.{Contains-get_or}
use Rattle.worklists.proofs.Growing.{Grows-more}
use Rattle.reaching_defs.specs.Frames.{IsMoved}
use Rattle.reaching_defs.proofs.Carrying.{that_move}
use Rattle.reaching_defs.proofs.frame.Frame.follow_all.Goals as goal

pub follow-requires-clause-slot : goal.follow-requires-clause-slot
follow-requires-clause-slot c = λ e.
    let m = get_or c.args.moves.now c.loop-from.from-index (0, 0) in
    c.requires.slot m.1 (that_move c.args.moves.now m c.args.slot (Contains-get_or c.args.moves.now c.loop-from.from-index (0, 0) c.loop-from-test.true) e)

pub loop-from-preserved : goal.loop-from-preserved
loop-from-preserved c = record {
  size = c.follow.ensures.size ∙ c.loop-from.invariant.size;
  set = c.in_ok-follow.ensures.set;
  grown = Grows-more (IsMoved c.args.self.now c.args.slot c.args.pc) c.args.moves.now c.loop-from.from-index (0, 0) c.args.found.now.items.items c.loop-from.found.items.items c.follow.new.found.items.items c.loop-from-test.true c.loop-from.invariant.grown c.in_ok-follow.ensures.grown;
}
