use Rattle.std.proofs.Common.{◌≡◌, ℕ, List, length, ap, subst, arith}
use Rattle.worklists.proofs.Growing.{FromBelow}
use Rattle.dep_form.specs.declared.call_site.CallSite.{CallSite}
use Rattle.mod_ref.specs.Gains.{Gains}
use Rattle.edge_tables.specs.Links.{IsEntryLink}
use Rattle.mod_ref.proofs.Gaining.{gains_zero, gains_next}
use Rattle.edge_tables.proofs.links.add_entries.Goals as goal

pub loop-n-init : goal.loop-n-init
loop-n-init c = gains_zero (IsEntryLink c.args.by_target c.args.scene.now.system.now c.args.scene.now.entries.now) c.args.links.now.items

pub loop-n-preserved : goal.loop-n-preserved
loop-n-preserved c = gains_next (IsEntryLink c.args.by_target c.args.scene.now.system.now c.args.scene.now.entries.now) c.loop-n.n c.args.links.now.items c.loop-n.links.items c.add_entry.new.links.items c.loop-n.invariant c.in_ok-add_entry.ensures

pub returns : goal.returns
returns c =
    let end : c.loop-n.n ≡ length c.args.scene.now.entries.now = omega (arith, c.loop-n-test.false, c.loop-n.auto.n-end) in
    subst (λ (n : ℕ). Gains c.args.links.now.items c.loop-n.links.items (FromBelow (IsEntryLink c.args.by_target c.args.scene.now.system.now c.args.scene.now.entries.now) n)) end c.loop-n.invariant
