use Rattle.std.proofs.Common.{◌≡◌, ◌∙◌, List, length, sym, ap, subst}
use Rattle.std.proofs.lemmas.Result.{IfOk-weaker}
use Rattle.std.specs.Global.{Vec}
use Rattle.slicer_ids.specs.declared.ids.LocId.{LocId}
use Rattle.slicer_ids.specs.declared.list.List.{List as ListOf}
use Rattle.slicer_ids.specs.declared.ids.MethodId.{MethodId}
use Rattle.dep_form.specs.Effects.{UsedIn, IsTraced, Ref}
use Rattle.mod_ref.specs.Rows.{AreSetsBelow, AreSources}
use Rattle.mod_ref.specs.Traced.{AreSetsOf}
use Rattle.mod_ref.specs.declared.effects.Effect.{Effect}
use Rattle.mod_ref.proofs.Described.{callers_within, used_within, sets_are, sources_within}
use Rattle.mod_ref.proofs.finding.used_sets.Goals as goal

pub sets-requires-clause-callers : goal.sets-requires-clause-callers
sets-requires-clause-callers c = callers_within c.args.system.now c.args.callers.now c.requires.callers

pub sets-requires-clause-sources : goal.sets-requires-clause-sources
sets-requires-clause-sources c =
    let s = c.args.system.now in
    let locations = c.args.locations.now in
    let rows = c.as_slice-2.result.now in
    let len : length rows ≡ length locations = ap (λ (ms : List (Vec MethodId)). length ms) c.as_slice-2.ensures.value ∙ c.in_ok-rows.ensures.len in
    let by = subst (λ (ms : List (Vec MethodId)). AreSources locations c.args.used.items ms) (sym c.as_slice-2.ensures.value) (subst (λ (xs : List Effect). AreSources locations xs c.in_ok-rows.rows.items) c.as_slice.ensures.value c.in_ok-rows.ensures.rows) in
    sources_within s c.args.callers.now c.requires.callers (UsedIn s) (used_within s) (IsTraced s) c.args.used.items c.requires.used locations c.requires.members rows len by

pub returns : goal.returns
returns c =
    let s = c.args.system.now in
    let locations = c.args.locations.now in
    let rows = c.as_slice-2.result.now in
    let len : length rows ≡ length locations = ap (λ (ms : List (Vec MethodId)). length ms) c.as_slice-2.ensures.value ∙ c.in_ok-rows.ensures.len in
    let by = subst (λ (ms : List (Vec MethodId)). AreSources locations c.args.used.items ms) (sym c.as_slice-2.ensures.value) (subst (λ (xs : List Effect). AreSources locations xs c.in_ok-rows.rows.items) c.as_slice.ensures.value c.in_ok-rows.ensures.rows) in
    IfOk-weaker c.sets.result (λ lists. AreSetsBelow c.args.callers.now rows lists.items (length rows)) (λ lists. AreSetsOf s (Ref s) locations lists.items)
    (λ lists h. sets_are s c.args.callers.now c.requires.callers (UsedIn s) (used_within s) (IsTraced s) c.args.used.items c.requires.used locations c.requires.members rows len by lists.items h) c.sets.ensures
