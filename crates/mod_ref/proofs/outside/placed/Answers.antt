use Rattle.std.proofs.Common.{◌≡◌, sym, subst, ap, ◌∙◌, arith}
use Rattle.std.proofs.lemmas.Option.{same_Some}
use Rattle.slicer_ids.specs.declared.ids.Statement.{Statement}
use Rattle.dep_form.specs.declared.call_site.CallSite.{CallSite}
use Rattle.dep_form.specs.Constraints.{SystemHolds}
use Rattle.dep_form.specs.PointsTo.{Reached}
use Rattle.mod_ref.proofs.Within.{place_within}
use Rattle.mod_ref.proofs.outside.placed.Goals.{else-is_reached-via-then-is_reached+else-goes_outside, else-is_reached-via-else-is_reached}
use Rattle.mod_ref.proofs.outside.placed.Goals as goal

pub is_reached-requires : goal.is_reached-requires
is_reached-requires c = omega (arith, c.requires.solved.methods, place_within c.args.system.now c.args.number.0 c.requires.place.0 c.args.place c.requires.place.1 c.requires.place.2)

pub returns-else-is_reached-clause-none : goal.returns-else-is_reached-clause-none
returns-else-is_reached-clause-none c = λ k t o site place reached gone.
    let s = c.args.system.now in
    let same : t ≡ c.args.place = same_Some t c.args.place (sym place ∙ ap (λ (y : CallSite). y.place) (same_Some k c.requires.place.0 (sym site ∙ c.requires.place.1)) ∙ c.requires.place.2) in
    elim c.else-is_reached.branch [
      | else-is_reached-via-then-is_reached+else-goes_outside w ↦ w.goes_outside.ensures.none s o c.requires.solved w.if-goes_outside.false gone
      | else-is_reached-via-else-is_reached w ↦ absurd (cc ((c.is_reached.ensures s c.requires.solved).1 (subst (λ (y : Statement). SystemHolds s (Reached y.method)) same reached), w.if-is_reached.false))
    ]
