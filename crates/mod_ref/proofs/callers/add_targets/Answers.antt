use Rattle.std.proofs.Common.{◌≡◌, refl, ◌∙◌}
use Rattle.slicer_ids.specs.declared.ids.MethodId.{MethodId}
use Rattle.mod_ref.proofs.TableRows.{rows_first, rows_more, rows_all}
use Rattle.mod_ref.proofs.callers.add_targets.Goals as goal

pub loop-target-init : goal.loop-target-init
loop-target-init c = record { len = refl; gain = rows_first (λ (t : MethodId) n m. (t.0 ≡ n) × (m ≡ c.args.caller)) c.args.targets.now c.args.rows.now.items }

pub loop-target-preserved : goal.loop-target-preserved
loop-target-preserved c = record {
  len = c.in_ok-add_caller.ensures.len ∙ c.loop-target.invariant.len;
  gain = rows_more (λ (t : MethodId) n m. (t.0 ≡ n) × (m ≡ c.args.caller)) c.args.targets.now c.loop-target.target-index _ c.args.rows.now.items c.loop-target.rows.items c.add_caller.new.rows.items c.loop-target-test.true c.loop-target.invariant.len c.loop-target.invariant.gain c.in_ok-add_caller.ensures.gain;
}

pub returns-clause-gain : goal.returns-clause-gain
returns-clause-gain c = rows_all (λ (t : MethodId) n m. (t.0 ≡ n) × (m ≡ c.args.caller)) c.args.targets.now c.loop-target.target-index c.args.rows.now.items c.loop-target.rows.items c.loop-target-test.false c.loop-target.invariant.gain
