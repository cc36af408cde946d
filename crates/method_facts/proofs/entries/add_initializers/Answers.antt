use Rattle.std.proofs.Common.{◌≡◌, ℕ, List, length, ap, subst, arith}
use Rattle.worklists.proofs.Growing.{FromBelow}
use Rattle.dep_form.specs.declared.rules.MethodVars.{MethodVars}
use Rattle.mod_ref.specs.Gains.{Gains}
use Rattle.mod_ref.proofs.Gaining.{gains_zero, gains_next}
use Rattle.method_facts.specs.Entering.{AtNumber}
use Rattle.method_facts.proofs.entries.add_initializers.Goals as goal

pub loop-m-init : goal.loop-m-init
loop-m-init c = gains_zero (AtNumber c.args.system.now c.args.h.now) c.args.methods.now.items

pub loop-m-preserved : goal.loop-m-preserved
loop-m-preserved c = gains_next (AtNumber c.args.system.now c.args.h.now) c.loop-m.m c.args.methods.now.items c.loop-m.methods.items c.add_initializer.new.methods.items c.loop-m.invariant c.in_ok-add_initializer.ensures

pub returns : goal.returns
returns c =
    let s = c.args.system.now in
    let end : c.loop-m.m ≡ length s.methods = omega (arith, c.loop-m-test.false, c.loop-m.auto.m-end, ap (λ (ks : List MethodVars). length ks) c.items-m-end.ensures) in
    subst (λ (i : ℕ). Gains c.args.methods.now.items c.loop-m.methods.items (FromBelow (AtNumber s c.args.h.now) i)) end c.loop-m.invariant
