use Rattle.std.proofs.Common.{◌≡◌, ℕ, List, length, refl, ap, ◌∙◌, subst, arith}
use Rattle.worklists.proofs.Growing.{FromBelow}
use Rattle.dep_form.specs.declared.call_site.CallSite.{CallSite}
use Rattle.dep_form.specs.declared.rules.MethodVars.{MethodVars}
use Rattle.mod_ref.specs.Gains.{Gains}
use Rattle.mod_ref.specs.Rows.{AtCaller, row_of}
use Rattle.mod_ref.proofs.Gaining.{gains_zero, gains_next, gained}
use Rattle.mod_ref.proofs.TableRows.{callers_is}
use Rattle.mod_ref.proofs.callers.callers.Goals as goal

pub loop-number-init : goal.loop-number-init
loop-number-init c = record { len = refl; gain = λ n lt. gains_zero (λ k. AtCaller c.args.system.now (record { 0 = k }) n) (row_of c.in_ok-rows.rows.items n) }

pub loop-number-preserved : goal.loop-number-preserved
loop-number-preserved c = record {
  len = c.in_ok-add_call.ensures.len ∙ c.loop-number.invariant.len;
  gain = λ n lt. gains_next (λ k. AtCaller c.args.system.now (record { 0 = k }) n) c.loop-number.number (row_of c.in_ok-rows.rows.items n) (row_of c.loop-number.rows.items n) (row_of c.add_call.new.rows.items n) (c.loop-number.invariant.gain n lt) (c.in_ok-add_call.ensures.gain n (omega (arith, lt, c.loop-number.invariant.len)));
}

pub returns : goal.returns
returns c =
    let s = c.args.system.now in
    let end : c.loop-number.number ≡ length s.calls = omega (arith, c.loop-number-test.false, c.loop-number.auto.number-end, ap (λ (ks : List CallSite). length ks) c.items-number-end.ensures) in
    record {
      len = c.loop-number.invariant.len ∙ c.in_ok-rows.ensures.len ∙ ap (λ (ms : List MethodVars). length ms) c.items.ensures;
      each = λ n lt m.
          let g = subst (λ (i : ℕ). Gains (row_of c.in_ok-rows.rows.items n) (row_of c.loop-number.rows.items n) (FromBelow (λ k. AtCaller s (record { 0 = k }) n) i)) end (c.loop-number.invariant.gain n (omega (arith, lt, c.in_ok-rows.ensures.len, ap (λ (ms : List MethodVars). length ms) c.items.ensures))) in
          let is = gained (row_of c.in_ok-rows.rows.items n) (row_of c.loop-number.rows.items n) (FromBelow (λ k. AtCaller s (record { 0 = k }) n) (length s.calls)) (c.in_ok-rows.ensures.none n) g m in
          (λ h. (callers_is s n m).0 (is.0 h), λ h. is.1 ((callers_is s n m).1 h));
    }
