-- Points by number, and steps of control between them.
use Rattle.std.specs.Prelude.{◌≡◌, ◌⊎◌, ◌↔◌, ◌<◌, ℕ, List, AllPairs, Contains, Option, Some, slice_get}
use Rattle.std.specs.Ordering.{nat_cmp}
use Rattle.slicer_ids.specs.declared.ids.MethodId.{MethodId}
use Rattle.class_form.specs.declared.body.Body.{Body}
use Rattle.class_form.specs.declared.body.Point.{Point}
use Rattle.dep_form.specs.Orders.{RiseBy}
use Rattle.worklists.specs.Growth.{FromOne}
use Rattle.program_form.specs.Programs.{Program}
use Rattle.fact_form.specs.FactTables.{IsFlowAt, IsPointAt, StepBefore}
use Rattle.input_tables.specs.declared.steps.Step.{Step}

-- the point of this number stands at the pc
abbrev pub StandsAt : List Point → ℕ → ℕ → Type 0
StandsAt points q pc = (t : Point) × (slice_get points q ≡ Some t) × (t.pc ≡ pc)

abbrev pub step : ℕ → ℕ → Step
step q r = record { from = q; to = r }

abbrev pub pair_of : Step → ℕ × ℕ
pair_of x = (x.from, x.to)

-- a step to the point that was found
abbrev pub IsStepToFound : ℕ → Option ℕ → Step → Type 0
IsStepToFound q found x = (r : ℕ) × (found ≡ Some r) × (x ≡ step q r)

-- .. to the point at a pc
abbrev pub IsStepTo : List Point → ℕ → ℕ → Step → Type 0
IsStepTo points q pc x = (r : ℕ) × StandsAt points r pc × (x ≡ step q r)

-- a step from a point, by its number
abbrev pub IsStepFrom : List Point → Point → ℕ → Step → Type 0
IsStepFrom points t q x = FromOne (IsStepTo points q) t.next x ⊎ FromOne (IsStepTo points q) t.handlers x

-- .. from the point of this number
abbrev pub IsStepAt : List Point → ℕ → Step → Type 0
IsStepAt points q x = (t : Point) × (slice_get points q ≡ Some t) × IsStepFrom points t q x

-- control goes from the one point to the other
abbrev pub IsStepOf : List Point → ℕ → ℕ → Type 0
IsStepOf points q r =
    (t : Point) × (u : Point) × (slice_get points q ≡ Some t) × (slice_get points r ≡ Some u) × (Contains t.next u.pc ⊎ Contains t.handlers u.pc)

-- so many points, and this flow between them, are those of a method in a program of these bodies
pub record IsControlOf (bodies : List Body) (m : MethodId) (points : ℕ) (flow : List (ℕ × ℕ)) : Type 0 where
  pub points_are : (p : Program) → p.bodies ≡ bodies → (q : ℕ) → (q < points) ↔ ((pc : ℕ) × IsPointAt p m q pc)
  pub flow_is : (p : Program) → p.bodies ≡ bodies → (q r : ℕ) → Contains flow (q, r) ↔ IsFlowAt p m q r
  pub flow_order : AllPairs StepBefore flow

-- these are the points of a method in any program of the bodies, in order
pub record ArePointsOf (bodies : List Body) (m : MethodId) (points : List Point) : Type 0 where
  pub order : RiseBy nat_cmp (λ (t : Point). t.pc) points
  pub stand : (p : Program) → p.bodies ≡ bodies → (q pc : ℕ) → StandsAt points q pc ↔ IsPointAt p m q pc
