use Rattle.std.proofs.Common.{arith, subst, sym}
use Rattle.hierarchy.specs.Names.{Leading, no_index}
use Rattle.hierarchy.proofs.Rows.{next_leads, whole_leads}
use Rattle.hierarchy.proofs.parents.interfaces_of.Goals as goal

pub loop-index-init : goal.loop-index-init
loop-index-init c = subst (Leading c.args.classes.now c.args.class.now _) (sym c.new-row.ensures.items) no_index

pub loop-index-preserved : goal.loop-index-preserved
loop-index-preserved c = next_leads c.args.classes.now c.args.class.now c.items-interfaces.result.now _ _ c.loop-index.index-index (omega arith) c.loop-index.invariant c.in_ok-push_named.ensures

pub returns : goal.returns
returns c =
    subst (λ is. Leading c.args.classes.now c.args.class.now is c.loop-index.row.items) c.items-interfaces.ensures
    (whole_leads c.args.classes.now c.args.class.now c.items-interfaces.result.now c.loop-index.row.items c.loop-index.index-index (omega arith) c.loop-index.invariant)
