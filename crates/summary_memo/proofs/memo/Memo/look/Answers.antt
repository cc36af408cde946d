use Rattle.std.proofs.Common.{rules, arith, ap}
use Rattle.summary_memo.proofs.Moves.{looks}
use Rattle.summary_memo.proofs.Apart.{gate_in}
use Rattle.summary_memo.proofs.Knowing.{more_gates, is_known, is_told, looks_once, is_nonzero}
use Rattle.summary_memo.specs.Memo.{view_of, facts_of}
use Rattle.summary_memo.proofs.memo.Memo.look.Goals as goal

pub load-requires : goal.load-requires
load-requires c = (
  search rules,
  let m = c.args.self.now in let here = gate_in m.table.shared.key c.args.e c.args.mode c.requires.exit in omega (arith, here, m.sized, c.gate-gate.ensures),
  looks _ _ _ _ c.args.e c.args.mode _ c.requires.exit c.gate-gate.ensures,
)

pub returns-clause-knows : goal.returns-clause-knows
returns-clause-knows c = more_gates _ _ (c.gate-gate.result, c.load.result) (ap (λ p. p.0) c.load.ensures.2.0)

pub returns-clause-known : goal.returns-clause-known
returns-clause-known c = is_known (view_of c.args.seat.now) c.load.new.seat.me.0 (facts_of c.args.self.now) c.args.e c.args.mode c.load.result c.gate-gate.result (ap (λ p. p.0) c.load.ensures.2.0) c.gate-gate.ensures c.load.ensures.2.1

pub returns-clause-shut : goal.returns-clause-shut
returns-clause-shut c = is_told (view_of c.args.seat.now) c.load.new.seat.me.0 (facts_of c.args.self.now) c.args.e c.args.mode c.load.result c.gate-gate.result (ap (λ p. p.0) c.load.ensures.2.0) c.gate-gate.ensures c.load.ensures.2.1

pub returns-clause-looked : goal.returns-clause-looked
returns-clause-looked c = (
  c.load.result,
  is_nonzero c.load.result,
  looks_once (view_of c.args.seat.now) c.load.new.seat.me.0 (facts_of c.args.self.now) c.args.e c.args.mode c.load.result c.gate-gate.result (ap (λ p. p.0) c.load.ensures.2.0) c.gate-gate.ensures c.load.ensures.2.1,
)
