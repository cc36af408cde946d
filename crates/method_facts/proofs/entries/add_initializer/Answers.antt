use Rattle.std.proofs.Common.{◌≡◌, ℕ, sym, ap, subst}
use Rattle.std.proofs.lemmas.Result.{on_ok_weaker}
use Rattle.slicer_ids.specs.declared.ids.MethodId.{MethodId}
use Rattle.mod_ref.proofs.Gaining.{gains_same}
use Rattle.method_facts.specs.Entering.{AtNumber, IsRunInitializer}
use Rattle.method_facts.proofs.entries.add_initializer.Goals as goal

pub returns-then-is_run_initializer : goal.returns-then-is_run_initializer
returns-then-is_run_initializer c =
    let s = c.args.system.now in
    let m = c.args.m in
    let run = (c.is_run_initializer.ensures s c.requires.solved).0 c.if-is_run_initializer.true in
    on_ok_weaker c.push.result
    (λ h. gains_same c.args.methods.now.items c.push.new.methods.items (λ (t : MethodId). t ≡ m) (AtNumber s c.args.h.now m.0)
    (λ t. (λ e. (ap (λ (z : MethodId). z.0) e, subst (λ (z : MethodId). IsRunInitializer s c.args.h.now z) (sym e) run), λ w. ap (λ (n : ℕ). record { 0 = n }) w.0)) h) c.push.ensures
