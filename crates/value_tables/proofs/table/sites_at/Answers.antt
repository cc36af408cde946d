use Rattle.std.proofs.Common.{◌≡◌, ◌⊎◌, List, Contains}
use Rattle.slicer_ids.specs.declared.ids.SiteId.{SiteId}
use Rattle.slicer_ids.specs.declared.ids.Statement.{Statement}
use Rattle.mod_ref.proofs.Gaining.{gains_both, gained}
use Rattle.value_tables.specs.Values.{CalledHas, MadeHas, PassedHas, PointHas}
use Rattle.value_tables.proofs.Gathered.{listed_in_order}
use Rattle.value_tables.proofs.table.sites_at.Goals as goal

pub returns : goal.returns
returns c =
    let x = c.args.x.now in
    let q = c.args.point.now in
    let t : Statement = record { method = x.body.now.method; pc = q.pc } in
    let none = c.new-sites.result.items in
    let one = c.add_made.new.sites.items in
    let two = c.add_passed.new.sites.items in
    let all = c.add_called.new.sites.items in
    let last = gains_both one two all (PassedHas x q) (CalledHas x.system.now t) c.in_ok-add_passed.ensures c.in_ok-add_called.ensures in
    let whole = gains_both none one all (MadeHas x q.pc) (λ h. PassedHas x q h ⊎ CalledHas x.system.now t h) c.in_ok-add_made.ensures last in
    listed_in_order all c.in_order.result.items (PointHas x q) (gained none all (PointHas x q) c.new-sites.ensures.items whole) c.in_order.ensures.order c.in_order.ensures.members
