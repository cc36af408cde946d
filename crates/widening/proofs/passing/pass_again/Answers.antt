use Rattle.std.proofs.Common.{◌≡◌, length, arith}
use Rattle.worklists.proofs.Growing.{Grows-next, Grows-same, FromBelow}
use Rattle.thin_slice.specs.Marks.{found}
use Rattle.widening.specs.Marks.{OverMethod, IsOver}
use Rattle.widening.proofs.passing.pass_again.Goals as goal

pub loop-m-preserved : goal.loop-m-preserved
loop-m-preserved c = Grows-next (OverMethod c.args.f.now c.args.methods.now.items c.args.found.now.items (found c.args.marks.now)) c.loop-m.m c.args.into.now.items c.loop-m.into.items c.pass_method.new.into.items c.loop-m.invariant c.in_ok-pass_method.ensures

pub returns : goal.returns
returns c =
    let f = c.args.f.now in
    let ms = c.args.methods.now.items in
    let R = OverMethod f ms c.args.found.now.items (found c.args.marks.now) in
    let end : c.loop-m.m ≡ length ms = omega (arith, c.loop-m.auto.m-end, c.loop-m-test.false, c.len-m-end.ensures, c.args.methods.now.ok.0) in
    Grows-same c.args.into.now.items c.loop-m.into.items (FromBelow R c.loop-m.m) (IsOver f ms c.args.found.now.items (found c.args.marks.now)) (λ q h. (h.0, omega (arith, h.1, end), h.2)) (λ q h. (h.0, omega (arith, h.1, end), h.2)) c.loop-m.invariant
