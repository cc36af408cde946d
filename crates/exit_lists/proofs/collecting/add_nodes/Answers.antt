use Rattle.std.proofs.Common.{◌≡◌, ◌+◌, ℕ, length, subst, arith}
use Rattle.worklists.specs.Growth.{Grows}
use Rattle.worklists.proofs.Growing.{FromBelow, Grows-none, Grows-next}
use Rattle.exit_lists.specs.Exits.{IsExitPlace, IsRising}
use Rattle.exit_lists.proofs.Rising.{rising_more}
use Rattle.exit_lists.proofs.collecting.add_nodes.Goals as goal

pub loop-k-init : goal.loop-k-init
loop-k-init c = record {
  rising = rising_more c.args.first (c.args.first + 0) c.args.exits.now.items (omega arith) c.requires.rising;
  members = Grows-none c.args.exits.now.items (FromBelow (IsExitPlace c.args.first c.args.nodes.now) 0) (λ x f. omega (arith, f.1));
}

pub loop-k-preserved : goal.loop-k-preserved
loop-k-preserved c = record {
  rising = rising_more (c.args.first + c.loop-k.k + 1) (c.args.first + (c.loop-k.k + 1)) c.add_place.new.exits.items (omega arith) c.in_ok-add_place.ensures.rising;
  members = Grows-next (IsExitPlace c.args.first c.args.nodes.now) c.loop-k.k c.args.exits.now.items c.loop-k.exits.items c.add_place.new.exits.items c.loop-k.invariant.members c.in_ok-add_place.ensures.members;
}

pub add_place-requires-clause-rising : goal.add_place-requires-clause-rising
add_place-requires-clause-rising c = c.loop-k.invariant.rising

pub returns-clause-rising : goal.returns-clause-rising
returns-clause-rising c =
    let end : c.loop-k.k ≡ length c.args.nodes.now = omega (arith, c.loop-k-test.false, c.loop-k.auto.k-end) in
    subst (λ (n : ℕ). IsRising (c.args.first + n) c.loop-k.exits.items) end c.loop-k.invariant.rising

pub returns-clause-members : goal.returns-clause-members
returns-clause-members c =
    let end : c.loop-k.k ≡ length c.args.nodes.now = omega (arith, c.loop-k-test.false, c.loop-k.auto.k-end) in
    subst (λ (n : ℕ). Grows c.args.exits.now.items c.loop-k.exits.items (FromBelow (IsExitPlace c.args.first c.args.nodes.now) n)) end c.loop-k.invariant.members
