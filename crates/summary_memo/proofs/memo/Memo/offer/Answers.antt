use Rattle.std.proofs.Common.{rules, arith, ap}
use Rattle.summary_memo.proofs.Moves.{offers}
use Rattle.summary_memo.proofs.Apart.{data_in}
use Rattle.summary_memo.proofs.Knowing.{more_bits}
use Rattle.summary_memo.proofs.memo.Memo.offer.Goals as goal

pub fetch_or-requires : goal.fetch_or-requires
fetch_or-requires c = (
  search rules,
  let m = c.args.self.now in let here = data_in m.table.shared.key c.args.e c.args.mode c.args.k c.requires.exit c.requires.word in omega (arith, here, m.sized, c.word-word.ensures),
  offers _ _ _ _ c.args.e c.args.mode c.args.k _ _ c.requires.exit c.requires.word c.word-word.ensures c.requires.within,
)

pub returns-clause-knows : goal.returns-clause-knows
returns-clause-knows c = more_bits _ _ (c.word-word.result, c.args.bits) (ap (λ p. p.0) c.fetch_or.ensures.2)
