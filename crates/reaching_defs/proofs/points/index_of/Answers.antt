use Rattle.std.proofs.Common.{◌≡◌, ◌<◌, length, get_or, ap, arith, ◌∙◌, length-set}
use Rattle.std.proofs.lemmas.Option.{slice_get_within}
use Rattle.class_form.specs.declared.body.Point.{Point}
use Rattle.reaching_defs.proofs.Places.{index_more, read_at}
use Rattle.reaching_defs.proofs.points.index_of.Goals as goal

pub loop-k-preserved : goal.loop-k-preserved
loop-k-preserved c =
    let q = c.index-points-k.result in
    let at = read_at c.args.points.now c.loop-k.k q c.loop-k-test.true c.index-points-k.is in
    let pc : q.pc ≡ (get_or c.args.points.now c.loop-k.k q).pc = ap (λ (p : Point). p.pc) c.index-points-k.is in
    let within : q.pc < length c.loop-k.index.items = omega (arith, c.loop-k.invariant.size, c.in-Ok.ensures.len, c.end_of.ensures.within c.loop-k.k q c.loop-k-test.true, pc) in
    record {
      size = length-set c.loop-k.index.items q.pc c.loop-k.k ∙ c.loop-k.invariant.size;
      found = index_more c.args.points.now c.loop-k.index.items c.loop-k.k q c.requires at within c.loop-k.invariant.found;
    }

pub returns-clause-index : goal.returns-clause-index
returns-clause-index c = λ k p e. c.loop-k.invariant.found k p (omega (arith, slice_get_within c.args.points.now k p e)) e
