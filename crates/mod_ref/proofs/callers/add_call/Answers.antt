use Rattle.std.proofs.Common.{◌≡◌, ◌∙◌}
use Rattle.slicer_ids.specs.declared.ids.MethodId.{MethodId}
use Rattle.worklists.specs.Growth.{FromOne}
use Rattle.mod_ref.specs.Rows.{AtCaller}
use Rattle.mod_ref.proofs.TableRows.{no_caller, rows_none, rows_same, targets_is}
use Rattle.mod_ref.proofs.callers.add_call.Goals as goal

pub returns-in-None-clause-gain : goal.returns-in-None-clause-gain
returns-in-None-clause-gain c = rows_none c.args.rows.now.items (AtCaller c.args.system.now c.args.number) (λ n m lt. no_caller c.args.system.now c.args.number c.place_of.ensures.0 n m c.place_of.ensures.1 (c.place_of.ensures.2 ∙ c.in-None.is))

pub returns-in_ok-add_targets-in-Some-clause-gain : goal.returns-in_ok-add_targets-in-Some-clause-gain
returns-in_ok-add_targets-in-Some-clause-gain c =
    let s = c.args.system.now in
    let k = c.place_of.ensures in
    rows_same c.args.rows.now.items c.add_targets.new.rows.items (λ n. FromOne (λ (t : MethodId) m. (t.0 ≡ n) × (m ≡ c.in-Some.place.method)) c.targets_of.result.now) (AtCaller s c.args.number)
    (λ n m lt. targets_is s c.args.number c.targets_of.result.now k.0 c.in-Some.place k.1 (k.2 ∙ c.in-Some.is) (λ y. c.targets_of.ensures s y c.requires.solved) n m) c.in_ok-add_targets-in-Some.ensures.gain
