use Rattle.std.proofs.Common.{◌≡◌, ◌↔◌, ◌+◌, List, length, sym, subst}
use Rattle.slicer_ids.specs.declared.ids.MethodId.{MethodId}
use Rattle.dep_form.specs.declared.call_site.CallSite.{CallSite}
use Rattle.mod_ref.proofs.Touched.{told}
use Rattle.edge_tables.specs.declared.links.Link.{Link}
use Rattle.edge_tables.specs.Links.{IsEntryLink, IsLinkTo}
use Rattle.edge_tables.proofs.LinkLists.{entry_link}
use Rattle.edge_tables.proofs.links.add_entry.Goals as goal

pub returns : goal.returns
returns c =
    let b = c.args.by_target in
    let s = c.args.scene.now.system.now in
    let entries = c.args.scene.now.entries.now in
    let n = c.args.n in
    let t = c.entry_at-target.result in
    told c.add_target.result c.args.links.now.items c.add_target.new.links.items (IsLinkTo b (record { 0 = length c.items.result.now + n }) (record { method = c.root_of.result; pc = n }) t) (IsEntryLink b s entries n)
    (subst (λ (ks : List CallSite). (x : Link) → IsLinkTo b (record { 0 = length ks + n }) (record { method = c.root_of.result; pc = n }) t x ↔ IsEntryLink b s entries n x) (sym c.items.ensures)
    (subst (λ (m : MethodId). (x : Link) → IsLinkTo b (record { 0 = length s.calls + n }) (record { method = m; pc = n }) t x ↔ IsEntryLink b s entries n x) (sym c.root_of.ensures)
    (entry_link b s entries n t c.entry_at-target.ensures))) c.add_target.ensures
