use Rattle.std.proofs.Common.{arith, length-set, ◌∙◌}
use Rattle.dep_form.specs.Summaries.{IsMask}
use Rattle.summary_memo.specs.Memo.{facts_of}
use Rattle.summary_memo.proofs.Starts.{put_next}
use Rattle.summary_memo.proofs.Knowing.{knows_all}
use Rattle.summary_memo.proofs.memo.Memo.copy.Goals as goal

pub loop-k-preserved : goal.loop-k-preserved
loop-k-preserved c =
    let f = facts_of c.args.self.now in
    let lt = c.loop-k-test.true in
    let same = c.loop-k.invariant.4 in (
      omega (arith, lt, c.width.ensures),
      c.mask.ensures.seat,
      knows_all _ _ _ c.loop-k.invariant.2 c.mask.ensures.knows,
      put_next (λ j n. IsMask f c.args.mode c.args.e j n) c.loop-k.into.items c.loop-k.k c.mask.result (omega (arith, lt, c.width.ensures, same, c.requires.room)) c.loop-k.invariant.3 c.mask.ensures.summary,
      length-set c.loop-k.into.items c.loop-k.k c.mask.result ∙ same,
    )
