use Rattle.std.proofs.Common.{◌≡◌, Option, Some, None, subst}
use Rattle.std.specs.Prelude.{MatchOption}
use Rattle.slicer_ids.specs.declared.ids.NodeId.{NodeId}
use Rattle.slicer_ids.specs.declared.ids.ExitId.{ExitId}
use Rattle.dep_form.specs.declared.facts.Facts.{Facts}
use Rattle.dep_form.specs.Summaries.{IsExitAt}
use Rattle.thin_slice.proofs.Located.{one_exit}
use Rattle.thin_slice.proofs.needs.row_need.Goals as goal

of_one : (f : Facts) (n : NodeId) (e : ExitId) (Known : ExitId → Type 0) (r : Option ExitId) → IsExitAt f e n → MatchOption r (Known e) (λ x. (x ≡ e) × (Known e → ⊥))
    → MatchOption r ((x : ExitId) → IsExitAt f x n → Known x) (λ x. IsExitAt f x n × (Known x → ⊥))
of_one f n e Known None at h = λ x there. subst Known (one_exit f n e x at there) h
of_one f n e Known (Some x) at h = (rw h.0 at, rw h.0 h.1)

pub returns-in-Some-clause-need : goal.returns-in-Some-clause-need
returns-in-Some-clause-need g c = of_one c.args.f.now c.args.n c.in-Some.e (λ e. g.R.KnownRows.known c.misses.new.rows e c.args.mode) c.misses.result c.in-Some.ensures c.misses.ensures.need
