use Rattle.std.proofs.Common.{◌∙◌, sym, ap, length, length-append, append-nil, refl, arith}
use Rattle.std.proofs.lemmas.Iterator.Adapters.{YieldsList-from_vec}
use Rattle.std.proofs.lemmas.Iterator.Consumers.{YieldsList-turn, YieldsList-end}
use Rattle.serving.proofs.TakenDesks.{item_next, items_all}
use Rattle.serving.proofs.taking.keep_all.Goals as goal

pub loop-sink-init : goal.loop-sink-init
loop-sink-init g c = record { so = sym (append-nil c.args.all.now.items); room = refl }

pub keep-requires : goal.keep-requires
keep-requires g c =
    let l = c.loop-sink in
    let b = c.into_iter-sink-iterator.ensures.into_iter_gives in
    let turn = YieldsList-turn (YieldsList-from_vec {s = c.into_iter-sink-iterator.result} c.args.sinks.items b.0 (b.1 ∙ c.args.sinks.ok.0)) l.yielded l.sink-iterator l.yielded_by c.next.result c.next.new.self c.in-Some.sink c.in-Some.is c.next.ensures.steps in
    omega (arith, turn.0, l.all.ok.0, l.invariant.room, c.requires, ap length l.invariant.so, length-append c.args.all.now.items l.yielded)

pub loop-sink-preserved : goal.loop-sink-preserved
loop-sink-preserved g c =
    let l = c.loop-sink in
    record {
      so = item_next c.args.all.now.items l.yielded l.all.items l.invariant.so c.in-Some.sink c.keep.new.items.items c.keep.ensures.items;
      room = c.keep.ensures.room ∙ l.invariant.room;
    }

pub returns : goal.returns
returns g c =
    let l = c.loop-sink in
    let b = c.into_iter-sink-iterator.ensures.into_iter_gives in
    let end = YieldsList-end (YieldsList-from_vec {s = c.into_iter-sink-iterator.result} c.args.sinks.items b.0 (b.1 ∙ c.args.sinks.ok.0)) l.yielded l.sink-iterator l.yielded_by c.next.result c.next.new.self c.in-None.is c.next.ensures.steps in
    items_all c.args.all.now.items l.yielded l.all.items l.invariant.so c.args.sinks.items end.0
