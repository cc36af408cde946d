use Rattle.std.proofs.Common.{◌≡◌, subst, arith}
use Rattle.variable_tables.specs.Growth.{GrowsInOrder}
use Rattle.variable_tables.proofs.InOrder.{grows_none, grows_next}
use Rattle.worklists.proofs.Growing.{FromBelow}
use Rattle.constraints.specs.Touches.{TouchRises}
use Rattle.constraints.proofs.OfTouches.{OfSite, sites_rise, sites_said}
use Rattle.constraints.proofs.touches.push_sites.Goals as goal

pub loop-k-init : goal.loop-k-init
loop-k-init c = grows_none TouchRises (λ y. ⊥) c.args.touches.now.items (FromBelow (OfSite c.args.place c.args.first c.args.field) 0) (λ y f. absurd (omega (arith, f.1)))

pub loop-k-preserved : goal.loop-k-preserved
loop-k-preserved c =
    grows_next TouchRises (λ y. ⊥) (OfSite c.args.place c.args.first c.args.field) c.loop-k.k c.args.touches.now.items c.loop-k.touches.items c.push_site.new.touches.items
    (λ i a b lt h k. sites_rise c.args.place c.args.first c.args.field i c.loop-k.k a b h k) c.loop-k.invariant c.in_ok-push_site.ensures

pub returns : goal.returns
returns c =
    let e : c.loop-k.k ≡ c.args.count = omega (arith, c.loop-k.auto.k-end, c.loop-k-test.false) in
    sites_said c.args.place c.args.first c.args.count c.args.field c.args.touches.now.items c.loop-k.touches.items
    (subst (λ n. GrowsInOrder TouchRises c.args.touches.now.items c.loop-k.touches.items (FromBelow (OfSite c.args.place c.args.first c.args.field) n)) e c.loop-k.invariant)
