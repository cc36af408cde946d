use Rattle.std.proofs.Common.{◌∙◌, arith}
use Rattle.std.proofs.lemmas.Iterator.Adapters.{YieldsList-from_vec}
use Rattle.std.proofs.lemmas.Iterator.Consumers.{YieldsList-turn, YieldsList-end}
use Rattle.serving.proofs.TakenDesks.{sink_next, sinks_many, sinks_all}
use Rattle.serving.proofs.taking.take_sinks.Goals as goal

pub keep-requires : goal.keep-requires
keep-requires g c =
    let l = c.loop-desk in
    let b = c.into_iter-desk-iterator.ensures.into_iter_gives in
    let turn = YieldsList-turn (YieldsList-from_vec {s = c.into_iter-desk-iterator.result} c.args.desks.items b.0 (b.1 ∙ c.args.desks.ok.0)) l.yielded l.desk-iterator l.yielded_by c.next.result c.next.new.self c.in-Some.desk c.in-Some.is c.next.ensures.steps in
    omega (arith, turn.0, l.all.ok.0, l.invariant.room, c.requires.room, sinks_many l.yielded l.all.items l.invariant.so)

pub loop-desk-preserved : goal.loop-desk-preserved
loop-desk-preserved g c =
    let l = c.loop-desk in
    record {
      so = sink_next l.yielded l.all.items l.invariant.so c.in-Some.desk c.keep.new.items.items c.keep.ensures.items;
      room = c.keep.ensures.room ∙ l.invariant.room;
    }

pub returns-clause-items : goal.returns-clause-items
returns-clause-items g c =
    let l = c.loop-desk in
    let b = c.into_iter-desk-iterator.ensures.into_iter_gives in
    let end = YieldsList-end (YieldsList-from_vec {s = c.into_iter-desk-iterator.result} c.args.desks.items b.0 (b.1 ∙ c.args.desks.ok.0)) l.yielded l.desk-iterator l.yielded_by c.next.result c.next.new.self c.in-None.is c.next.ensures.steps in
    sinks_all l.yielded l.all.items l.invariant.so c.args.desks.items end.0
