use Rattle.std.proofs.Common.{◌∷◌, [], length-append, ap, length, arith}
use Rattle.std.proofs.lemmas.Result.{err_from_is_err_and}
use Rattle.byte_form.specs.States.{state}
use Rattle.byte_form.specs.Reading.{list_at}
use Rattle.byte_form.proofs.Loops.{goes_on, ends, is_done}
use Rattle.class_form.specs.PoolReading.{read_index}
use Rattle.const_pool.proofs.constants.constants.Goals as goal

pub returns-in_err-next : goal.returns-in_err-next
returns-in_err-next c =
    let p = err_from_is_err_and c.from_residual.result c.from_residual.ensures.1 in
    let one = read_index c.args.major c.args.count in
    rw (p.1, p.2) (ends one c.loop.constants.items c.args.count c.loop.counter (state c.loop.cursor) (list_at one c.args.count [] (state c.args.cursor.now)) c.in_err-next.field-0.0 c.loop-test.true (rw c.deref.ensures.value at c.in_err-next.ensures) c.loop.invariant.same)

pub loop-preserved : goal.loop-preserved
loop-preserved c =
    let one = read_index c.args.major c.args.count in
    let x = c.in_ok-next.next in
    let items = c.in_ok-push.ensures.items in
    record {
      len = omega (arith, ap length items, length-append c.loop.constants.items (x ∷ []), c.loop.invariant.len);
      same = rw items (goes_on one c.loop.constants.items c.args.count c.loop.counter (state c.loop.cursor) (list_at one c.args.count [] (state c.args.cursor.now)) x (state c.index.new.cursor) c.loop-test.true (rw c.deref.ensures.value at c.in_ok-next.ensures) c.loop.invariant.same);
    }

pub returns : goal.returns
returns c =
    let one = read_index c.args.major c.args.count in
    is_done one c.loop.constants.items c.args.count c.loop.counter (state c.loop.cursor) (list_at one c.args.count [] (state c.args.cursor.now)) c.loop-test.false c.loop.invariant.same
