use Rattle.std.proofs.Common.{List, sym, subst}
use Rattle.slicer_ids.specs.Order.{SiteBefore}
use Rattle.slicer_ids.specs.Sets.{IsOrderedListOf}
use Rattle.slicer_ids.specs.declared.ids.NodeId.{NodeId}
use Rattle.slicer_ids.specs.declared.ids.SiteId.{SiteId}
use Rattle.dep_form.specs.WithinFacts.{NodeBefore}
use Rattle.value_tables.specs.Values.{OperandHas}
use Rattle.access_tables.specs.Objects.{IsObjectStart}
use Rattle.access_tables.proofs.table.access_at.Goals as goal

pub operand_sites-requires : goal.operand_sites-requires
operand_sites-requires c = c.requires.method

pub returns : goal.returns
returns c =
    let x = c.args.scene.now in
    let q = c.args.point.now in
    record {
      objects = subst (λ (ns : List NodeId). IsOrderedListOf NodeBefore ns (IsObjectStart x q)) (sym c.from_vec.ensures) c.in_ok-objects.ensures;
      sites = subst (λ (hs : List SiteId). IsOrderedListOf SiteBefore hs (OperandHas x.method q 0)) (sym c.from_vec-2.ensures) c.in_ok-sites.ensures;
    }
