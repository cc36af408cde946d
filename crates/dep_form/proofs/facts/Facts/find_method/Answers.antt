use Rattle.std.proofs.Common.{rules}
use Rattle.dep_form.specs.Orders.{method_cmp, MethodKey}
use Rattle.dep_form.specs.Keys.{key_of_text}
use Rattle.dep_form.proofs.Searching.{found_by, missed_by, one_method, method_total, same_method}
use Rattle.dep_form.proofs.facts.Facts.find_method.Goals as goal

pub returns-in-Ok : goal.returns-in-Ok
returns-in-Ok c =
    let key : MethodKey = record { class = c.args.c; name = c.args.name.now; descriptor = c.args.descriptor.now } in
    let h = found_by method_cmp method_total key_of_text _ c.args.self.now.methods key c.in-Ok.m c.items.ensures (λ a r f' k. search rules) c.in-Ok.ensures.bound c.in-Ok.ensures.position in
    let e = one_method (key_of_text h.0) key h.2 in
    (h.0, h.1, e.0, e.1, e.2)

pub returns-in-Err : goal.returns-in-Err
returns-in-Err c = λ m x.
    let key : MethodKey = record { class = c.args.c; name = c.args.name.now; descriptor = c.args.descriptor.now } in
    missed_by method_cmp method_total key_of_text _ c.args.self.now.methods key _ c.items.ensures (λ a r f' h. search rules) c.args.self.now.methods_rise c.in-Err.ensures.position m.0 x.0 x.1 (same_method (key_of_text x.0) key x.2 x.3 x.4)
