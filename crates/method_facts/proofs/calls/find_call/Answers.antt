use Rattle.std.proofs.Common.{rules}
use Rattle.dep_form.specs.Orders.{statement_cmp}
use Rattle.dep_form.proofs.Searching.{found_by, missed_by, statement_total}
use Rattle.method_facts.specs.Calls.{place_of}
use Rattle.method_facts.proofs.PlacedCalls.{stands, ties}
use Rattle.std.proofs.Common.{refl}
use Rattle.method_facts.proofs.calls.find_call.Goals as goal

pub returns-in-Ok : goal.returns-in-Ok
returns-in-Ok c =
    let h = found_by statement_cmp statement_total place_of _ c.args.calls.now c.args.t c.in-Ok.c refl (λ a r f' k. search rules) c.in-Ok.ensures.bound c.in-Ok.ensures.position in
    stands c.args.calls.now c.requires.placed c.args.t (record { 0 = c.in-Ok.c }) h.0 h.1 h.2

pub returns-in-Err : goal.returns-in-Err
returns-in-Err c = λ n h.
    missed_by statement_cmp statement_total place_of _ c.args.calls.now c.args.t _ refl (λ a r f' k. search rules) c.requires.placed.order c.in-Err.ensures.position n.0 h.0 h.1 (ties c.args.calls.now c.requires.placed c.args.t n h)
