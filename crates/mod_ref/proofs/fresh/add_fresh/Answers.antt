use Rattle.std.proofs.Common.{List, ◌↔◌, length, Contains, sym, subst}
use Rattle.std.specs.Prelude.{OnOk}
use Rattle.worklists.proofs.Growing.{FromBelow}
use Rattle.slicer_ids.specs.declared.ids.Statement.{Statement}
use Rattle.mod_ref.specs.Direct.{AtFresh, AtIndex, IsFreshPlace}
use Rattle.mod_ref.proofs.Touched.{told}
use Rattle.mod_ref.proofs.Freshly.{freshes_is}
use Rattle.mod_ref.proofs.fresh.add_fresh.Goals as goal

pub returns : goal.returns
returns c =
    let s = c.args.system.now in
    let listed = subst (λ (ts : List Statement). (t : Statement) → Contains ts t ↔ IsFreshPlace s t) (sym c.deref.ensures.value) c.in_ok-places.ensures.members in
    told c.add_sites.result c.args.effects.now.items.items c.add_sites.new.effects.items.items (FromBelow (AtIndex s c.deref.result.now) (length s.sites)) (AtFresh s) (freshes_is s c.deref.result.now listed) c.add_sites.ensures
