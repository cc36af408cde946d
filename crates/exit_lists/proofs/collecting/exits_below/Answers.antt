use Rattle.std.proofs.Common.{◌≡◌, ℕ, take, subst, arith}
use Rattle.dep_form.specs.Firsts.{node_count}
use Rattle.worklists.specs.Growth.{Grows}
use Rattle.worklists.proofs.Growing.{FromBelow, Grows-none, Grows-next}
use Rattle.exit_lists.specs.Exits.{IsExitOf}
use Rattle.exit_lists.proofs.Rising.{rising_none, listed}
use Rattle.exit_lists.proofs.collecting.exits_below.Goals as goal

pub loop-m-init : goal.loop-m-init
loop-m-init c = record {
  rising = rising_none (node_count (take 0 c.args.inputs.now)) c.new-exits.result.items c.new-exits.ensures.items;
  members = Grows-none c.new-exits.result.items (FromBelow (IsExitOf c.args.inputs.now) 0) (λ x f. omega (arith, f.1));
}

pub loop-m-preserved : goal.loop-m-preserved
loop-m-preserved c = record {
  rising = c.in_ok-add_method.ensures.rising;
  members = Grows-next (IsExitOf c.args.inputs.now) c.loop-m.m c.new-exits.result.items c.loop-m.exits.items c.add_method.new.exits.items c.loop-m.invariant.members c.in_ok-add_method.ensures.members;
}

pub returns : goal.returns
returns c =
    let end : c.loop-m.m ≡ c.args.count = omega (arith, c.loop-m-test.false, c.loop-m.auto.m-end) in
    listed c.loop-m.exits.items c.new-exits.result.items (node_count (take c.loop-m.m c.args.inputs.now)) (FromBelow (IsExitOf c.args.inputs.now) c.args.count) c.new-exits.ensures.items c.loop-m.invariant.rising
    (subst (λ (n : ℕ). Grows c.new-exits.result.items c.loop-m.exits.items (FromBelow (IsExitOf c.args.inputs.now) n)) end c.loop-m.invariant.members)
