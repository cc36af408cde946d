use Rattle.std.proofs.Common.{refl, arith, length, ◌≡◌, subst, ℕ}
use Rattle.summary_memo.specs.Memo.{view_of, facts_of}
use Rattle.summary_memo.proofs.Widths.{width_is}
use Rattle.summary_memo.proofs.Knowing.{HasOffered, knows_all, offered_more, knows_summary}
use Rattle.summary_memo.proofs.memo.Memo.fill.Goals as goal

pub loop-k-preserved : goal.loop-k-preserved
loop-k-preserved c = (
  omega (arith, c.loop-k-test.true),
  c.offer.ensures.seat,
  knows_all _ _ _ c.loop-k.invariant.2 c.offer.ensures.knows,
  offered_more (view_of c.loop-k.seat) (view_of c.offer.new.seat) (facts_of c.args.self.now) c.args.e c.args.mode c.loop-k.k _ c.args.words.now c.loop-k.invariant.3 refl c.offer.ensures.view,
)

pub shut-requires-clause-all : goal.shut-requires-clause-all
shut-requires-clause-all c =
    let le = c.loop-k.invariant.0 in
    let whole : c.loop-k.k ≡ length c.args.words.now = omega (arith, c.loop-k-test.false) in
    knows_summary (view_of c.loop-k.seat) (facts_of c.args.self.now) c.args.e c.args.mode c.args.words.now c.requires.words
    (subst (λ (n : ℕ). HasOffered (view_of c.loop-k.seat) (facts_of c.args.self.now) c.args.e c.args.mode c.args.words.now n) whole c.loop-k.invariant.3)

pub offer-requires-clause-word : goal.offer-requires-clause-word
offer-requires-clause-word c = omega (arith, c.loop-k-test.true, width_is (facts_of c.args.self.now) c.args.e (length c.args.words.now) c.requires.words.size)
