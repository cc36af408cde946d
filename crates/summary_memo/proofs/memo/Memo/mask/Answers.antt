use Rattle.std.proofs.Common.{rules, arith, ap}
use Rattle.summary_memo.proofs.Moves.{masks}
use Rattle.summary_memo.proofs.Apart.{data_in}
use Rattle.summary_memo.proofs.Knowing.{more_bits}
use Rattle.summary_memo.proofs.memo.Memo.mask.Goals as goal

pub load-requires : goal.load-requires
load-requires c = (
  search rules,
  let m = c.args.self.now in let here = data_in m.table.shared.key c.args.e c.args.mode c.args.k c.requires.exit c.requires.word in omega (arith, here, m.sized, c.word-word.ensures),
  masks _ _ _ _ c.args.e c.args.mode c.args.k _ c.requires.exit c.requires.word c.word-word.ensures,
)

pub returns-clause-summary : goal.returns-clause-summary
returns-clause-summary c = c.load.ensures.2.1 _ c.args.e c.args.mode c.args.k c.requires.seat.about c.word-word.ensures c.requires.exit c.requires.word c.requires.shut

pub returns-clause-knows : goal.returns-clause-knows
returns-clause-knows c = more_bits _ _ (c.word-word.result, c.load.result) (ap (λ p. p.0) c.load.ensures.2.0)
