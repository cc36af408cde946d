use Rattle.std.proofs.Common.{◌≡◌, subst, arith}
use Rattle.variable_tables.specs.Growth.{GrowsInOrder}
use Rattle.variable_tables.proofs.InOrder.{grows_none, grows_next}
use Rattle.constraints.specs.Initializers.{IsNumbered, FromNumbers, ClassRises}
use Rattle.constraints.proofs.OfInitializers.{numbers_rise}
use Rattle.constraints.proofs.initializers.push_methods.Goals as goal

pub loop-number-init : goal.loop-number-init
loop-number-init c = grows_none ClassRises (λ e. ⊥) c.args.found.now.items (FromNumbers c.args.h.now c.args.places.now 0) (λ e f. absurd (omega (arith, f.1)))

pub loop-number-preserved : goal.loop-number-preserved
loop-number-preserved c =
    let h = c.args.h.now in
    let places = c.args.places.now in
    grows_next ClassRises (λ e. ⊥) (IsNumbered h places) c.loop-number.number c.args.found.now.items c.loop-number.found.items c.push_method.new.found.items
    (λ i a b lt is has. numbers_rise h places c.requires i c.loop-number.number a b lt is has) c.loop-number.invariant c.in_ok-push_method.ensures

pub returns : goal.returns
returns c =
    let e : c.loop-number.number ≡ c.args.count = omega (arith, c.loop-number.auto.number-end, c.loop-number-test.false) in
    subst (λ n. GrowsInOrder ClassRises c.args.found.now.items c.loop-number.found.items (FromNumbers c.args.h.now c.args.places.now n)) e c.loop-number.invariant
