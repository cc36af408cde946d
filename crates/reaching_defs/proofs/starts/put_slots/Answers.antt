use Rattle.std.proofs.Common.{◌≡◌, ◌+◌, subst, arith}
use Rattle.worklists.specs.Growth.{Grows}
use Rattle.worklists.proofs.Growing.{FromBelow, Grows-next}
use Rattle.reaching_defs.specs.Starts.{start}
use Rattle.reaching_defs.proofs.Beginning.{slots_below}
use Rattle.reaching_defs.proofs.starts.put_slots.Goals as goal

pub loop-i-preserved : goal.loop-i-preserved
loop-i-preserved c = Grows-next (λ i x. x ≡ start (c.args.first + i) c.args.def) c.loop-i.i c.args.starts.now.items c.loop-i.starts.items c.put.new.starts.items c.loop-i.invariant c.in_ok-put.ensures

pub returns : goal.returns
returns c =
    let end : c.loop-i.i ≡ c.args.width = omega arith in
    slots_below c.args.def c.args.first c.args.width c.args.starts.now.items c.loop-i.starts.items (subst (λ n. Grows c.args.starts.now.items c.loop-i.starts.items (FromBelow (λ i x. x ≡ start (c.args.first + i) c.args.def) n)) end c.loop-i.invariant)
