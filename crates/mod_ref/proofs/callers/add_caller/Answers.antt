use Rattle.std.proofs.Common.{◌≡◌, sym, arith}
use Rattle.mod_ref.proofs.TableRows.{rows_none, rows_same}
use Rattle.mod_ref.proofs.callers.add_caller.Goals as goal

pub returns-in_ok-push_to-clause-gain : goal.returns-in_ok-push_to-clause-gain
returns-in_ok-push_to-clause-gain c = rows_same c.args.rows.now.items c.push_to.new.rows.items (λ k m. (k ≡ c.args.target.0) × (m ≡ c.args.caller)) (λ k m. (c.args.target.0 ≡ k) × (m ≡ c.args.caller)) (λ k m lt. (λ p. (sym p.0, p.1), λ p. (sym p.0, p.1))) c.in_ok-push_to.ensures.gain

pub returns-else-row-len-clause-gain : goal.returns-else-row-len-clause-gain
returns-else-row-len-clause-gain c = rows_none c.args.rows.now.items (λ k m. (c.args.target.0 ≡ k) × (m ≡ c.args.caller)) (λ k m lt p. omega (arith, lt, p.0, c.if-row-len.false, c.len.ensures))
