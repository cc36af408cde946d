use Rattle.std.proofs.Common.{◌∙◌, arith}
use Rattle.std.specs.Iterator.Adapters.{zip_second}
use Rattle.std.proofs.lemmas.Iterator.{YieldsList-from_zip}
use Rattle.std.proofs.lemmas.Iterator.Adapters.{YieldsList-from_vec}
use Rattle.std.proofs.lemmas.Iterator.Consumers.{YieldsList-at, YieldsList-end}
use Rattle.serving.proofs.SeatedDesks.{seated_none, pair_next, pairs_all}
use Rattle.serving.proofs.seating.seat_all.Goals as goal

pub loop-source-init : goal.loop-source-init
loop-source-init g c = record {
  seat = c.requires.seat;
  so = seated_none c.args.shared.now c.args.desks.now.items c.args.back.now.items c.requires.no_desk c.requires.none_back;
  room_desks = c.requires.room_desks;
  room_back = c.requires.room_back;
}

pub loop-source-preserved : goal.loop-source-preserved
loop-source-preserved g c =
    let l = c.loop-source in
    record {
      seat = c.seat_one.ensures.seat;
      so = pair_next c.args.shared.now l.yielded l.desks.items c.seat_one.new.desks.items l.back.items c.seat_one.new.back.items l.invariant.so (c.in-Some.source, c.in-Some.sink) c.seat_one.ensures.step;
      room_desks = omega (arith, l.invariant.room_desks, c.seat_one.ensures.room_desks);
      room_back = omega (arith, l.invariant.room_back, c.seat_one.ensures.room_back);
    }

pub returns : goal.returns
returns g c =
    let l = c.loop-source in
    let b = c.zip-source-items.ensures.second in
    let road = YieldsList-from_zip (YieldsList-at c.zip-source-items.ensures.first (YieldsList-from_vec {s = c.into_iter.result} c.args.sources.items c.into_iter.ensures.rest (c.into_iter.ensures.len ∙ c.args.sources.ok.0)))
    (YieldsList-from_vec {s = zip_second c.zip-source-items.result} c.args.sinks.items b.0 (b.1 ∙ c.args.sinks.ok.0)) in
    let end = YieldsList-end (YieldsList-at c.into_iter-source-iterator.ensures.into_iter_gives road) l.yielded l.source-iterator l.yielded_by c.next.result c.next.new.self c.in-None.is c.next.ensures.steps in
    pairs_all c.args.shared.now l.yielded l.desks.items l.desks.items l.back.items l.back.items l.invariant.so c.args.sources.items c.args.sinks.items c.requires.pairs end.0
