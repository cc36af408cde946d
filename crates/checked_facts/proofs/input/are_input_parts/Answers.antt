use Rattle.std.proofs.Common.{subst}
use Rattle.std.specs.Prelude.{All, AllPairs}
use Rattle.checked_facts.specs.InputParts.{IsFlowWithin, IsUse}
use Rattle.checked_facts.specs.Rising.{FormalBefore}
use Rattle.checked_facts.proofs.input.are_input_parts.Goals as goal

pub returns : goal.returns
returns c = λ t.
    let p = c.args.parts.now in
    record {
      are_small = c.are_small.ensures c.if-not-are_small.false;
      formals = subst (AllPairs FormalBefore) c.items.ensures (c.rise.ensures c.if-not-rise.false);
      ends_among = c.end_among.ensures c.if-not-end_among.false;
      put_uses = subst (All (IsUse p)) c.items-2.ensures (c.are_uses.ensures c.if-not-are_uses.false);
      get_uses = subst (All (IsUse p)) c.items-else-not-are_uses.ensures (c.are_uses-else-not-are_uses.ensures c.if-not-are_uses-2.false);
      steps = subst (All (IsFlowWithin p.points)) c.items-3.ensures (c.is_flow_within.ensures t);
    }
