use Rattle.std.proofs.Common.{◌≡◌, ℕ, List, length, ap, subst, arith}
use Rattle.worklists.proofs.Growing.{FromBelow}
use Rattle.dep_form.specs.declared.call_site.CallSite.{CallSite}
use Rattle.mod_ref.specs.Gains.{Gains}
use Rattle.edge_tables.specs.Again.{IsPairEdge}
use Rattle.mod_ref.proofs.Gaining.{gains_zero, gains_next}
use Rattle.edge_tables.proofs.again.add_pairs.Goals as goal

pub loop-j-init : goal.loop-j-init
loop-j-init c = gains_zero (IsPairEdge c.args.row.now.first c.args.row.now.nodes.now c.args.k c.args.n) c.args.edges.now.items

pub loop-j-preserved : goal.loop-j-preserved
loop-j-preserved c = gains_next (IsPairEdge c.args.row.now.first c.args.row.now.nodes.now c.args.k c.args.n) c.loop-j.j c.args.edges.now.items c.loop-j.edges.items c.add_pair.new.edges.items c.loop-j.invariant c.in_ok-add_pair.ensures

pub returns : goal.returns
returns c =
    let end : c.loop-j.j ≡ c.args.calls = omega (arith, c.loop-j-test.false, c.loop-j.auto.j-end) in
    subst (λ (n : ℕ). Gains c.args.edges.now.items c.loop-j.edges.items (FromBelow (IsPairEdge c.args.row.now.first c.args.row.now.nodes.now c.args.k c.args.n) n)) end c.loop-j.invariant
