use Rattle.std.proofs.Common.{[]}
use Rattle.std.proofs.lemmas.Result.{err_from_is_err_and}
use Rattle.class_reader.proofs.NewMembers.{names_push, texts_push}
use Rattle.byte_form.specs.States.{state}
use Rattle.byte_form.specs.Reading.{list_at}
use Rattle.byte_form.proofs.Loops.{goes_on, ends, is_done}
use Rattle.class_form.specs.ClassReading.{read_field}
use Rattle.class_reader.proofs.methods.field_list.Goals as goal

pub returns-in_err-next : goal.returns-in_err-next
returns-in_err-next c =
    let p = err_from_is_err_and c.from_residual.result c.from_residual.ensures.1 in
    rw (p.1, p.2) (ends (read_field c.args.pool.now) c.loop.items.items c.args.count c.loop.counter (state c.loop.cursor) (list_at (read_field c.args.pool.now) c.args.count [] (state c.args.cursor.now)) c.in_err-next.field-0.0 c.loop-test.true (rw c.deref.ensures.value at c.in_err-next.ensures.gives) c.loop.invariant.same)

pub loop-preserved : goal.loop-preserved
loop-preserved c =
    let more = names_push c.loop.items.items c.in_ok-next.next in
    record {
      same = rw c.in_ok-push.ensures.items (goes_on (read_field c.args.pool.now) c.loop.items.items c.args.count c.loop.counter (state c.loop.cursor) (list_at (read_field c.args.pool.now) c.args.count [] (state c.args.cursor.now)) c.in_ok-next.next (state c.field.new.cursor) c.loop-test.true (rw c.deref.ensures.value at c.in_ok-next.ensures.gives) c.loop.invariant.same);
      seen = rw (c.in_ok-push.ensures.items, more) (rw c.deref.ensures.value at c.in_ok-next.ensures.seen);
      texts = rw (c.in_ok-push.ensures.items, more) (texts_push c.args.pool.now c.loop.items.items c.in_ok-next.next.name c.in_ok-next.next.descriptor c.loop.invariant.texts c.in_ok-next.ensures.texts);
    }

pub returns : goal.returns
returns c = is_done (read_field c.args.pool.now) c.loop.items.items c.args.count c.loop.counter (state c.loop.cursor) (list_at (read_field c.args.pool.now) c.args.count [] (state c.args.cursor.now)) c.loop-test.false c.loop.invariant.same
