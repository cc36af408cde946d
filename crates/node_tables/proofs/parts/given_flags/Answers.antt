use Rattle.std.proofs.Common.{◌≡◌, ℕ, length, arith, subst}
use Rattle.node_tables.specs.Parts.{AreGiven}
use Rattle.node_tables.proofs.Flags.{given_more, none_given}
use Rattle.node_tables.proofs.parts.given_flags.Goals as goal

pub loop-k-init : goal.loop-k-init
loop-k-init c = none_given c.args.s.now c.args.entries.now c.new-flags.result.items c.new-flags.ensures.items

pub loop-k-preserved : goal.loop-k-preserved
loop-k-preserved c = given_more c.args.s.now c.args.entries.now c.loop-k.k c.entry_at.result c.loop-k.flags.items c.push.new.flags.items c.is_given.result c.entry_at.ensures c.in_ok-push.ensures c.loop-k.invariant c.is_given.ensures

pub returns : goal.returns
returns c =
    let end : c.loop-k.k ≡ length c.args.entries.now = omega (arith, c.loop-k-test.false, c.loop-k.auto.k-end) in
    subst (λ (k : ℕ). AreGiven c.args.s.now c.args.entries.now c.loop-k.flags.items k) end c.loop-k.invariant
