use Rattle.std.proofs.Common.{◌≡◌, ◌↔◌, List, Contains, sym, subst}
use Rattle.slicer_ids.specs.declared.ids.LocId.{LocId}
use Rattle.dep_form.specs.declared.effects.Location.{Location}
use Rattle.dep_form.specs.Effects.{IsTraced, Mod, Ref}
use Rattle.mod_ref.specs.Traced.{AreSetsOf}
use Rattle.mod_ref.proofs.Tracing.{ordered}
use Rattle.mod_ref.proofs.Described.{answer_is}
use Rattle.mod_ref.proofs.finding.describe.Goals as goal

pub changed_sets-requires-clause-members : goal.changed_sets-requires-clause-members
changed_sets-requires-clause-members c = subst (λ (ls : List Location). (l : Location) → Contains ls l ↔ IsTraced c.args.system.now l) (sym c.as_slice-2.ensures.value) c.requires.traced.members

pub used_sets-requires-clause-members : goal.used_sets-requires-clause-members
used_sets-requires-clause-members c = subst (λ (ls : List Location). (l : Location) → Contains ls l ↔ IsTraced c.args.system.now l) (sym c.as_slice-4.ensures.value) c.requires.traced.members

pub returns-clause-described : goal.returns-clause-described
returns-clause-described c =
    let s = c.args.system.now in
    let mods = subst (λ (ls : List Location). AreSetsOf s (Mod s) ls c.in_ok-changed.changed.items) c.as_slice-2.ensures.value c.in_ok-changed.ensures in
    let refs = subst (λ (ls : List Location). AreSetsOf s (Ref s) ls c.in_ok-used.used.items) c.as_slice-4.ensures.value c.in_ok-used.ensures in
    answer_is s c.made.result c.args.traced.locations.items c.in_ok-changed.changed.items c.in_ok-used.used.items c.made.ensures.locations c.made.ensures.changed c.made.ensures.used
    (ordered c.args.traced.locations.items (IsTraced s) c.requires.traced.order c.requires.traced.members) mods refs
