use Rattle.std.proofs.Common.{rules, arith, ap, ◌∙◌, ℕ, ◌++◌, ◌∷◌, []}
use Rattle.summary_memo.proofs.Moves.{shuts}
use Rattle.summary_memo.proofs.Apart.{gate_in}
use Rattle.summary_memo.specs.Memo.{view_of, facts_of}
use Rattle.summary_memo.proofs.Knowing.{more_gates, shut_now}
use Rattle.summary_memo.proofs.memo.Memo.shut.Goals as goal

pub fetch_or-requires : goal.fetch_or-requires
fetch_or-requires c = (
  search rules,
  let m = c.args.self.now in let here = gate_in m.table.shared.key c.args.e c.args.mode c.requires.exit in omega (arith, here, m.sized, c.gate-gate.ensures),
  shuts _ _ _ _ c.args.e c.args.mode _ c.requires.exit c.gate-gate.ensures c.requires.all,
)

pub returns-clause-knows : goal.returns-clause-knows
returns-clause-knows c = more_gates _ _ (c.gate-gate.result, 1) (ap (λ p. p.0) c.fetch_or.ensures.2)

pub returns-clause-shut : goal.returns-clause-shut
returns-clause-shut c =
    shut_now (view_of c.args.seat.now) c.fetch_or.new.seat.me.0 (facts_of c.args.self.now) c.args.e c.args.mode 1
    (ap (λ p. p.0) c.fetch_or.ensures.2 ∙ ap (λ (w : ℕ). record (view_of c.args.seat.now) { gates = (view_of c.args.seat.now).gates ++ (w, 1) ∷ [] }) c.gate-gate.ensures) (λ e. absurd (omega arith))
