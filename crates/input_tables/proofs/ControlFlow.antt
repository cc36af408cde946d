-- Steps of control, and the flow of a program.
use Rattle.std.proofs.Common.{◌≡◌, ◌⊎◌, ◌↔◌, ◌<◌, ℕ, List, [], AllPairs, Contains, length, get_or, map, Option, Some, inl, inr, refl, sym, ap, subst, ◌∙◌, arith}
use Rattle.std.specs.Prelude.{slice_get}
use Rattle.std.specs.Ordering.{nat_cmp}
use Rattle.std.proofs.lemmas.Option.{same_Some, slice_get_within}
use Rattle.slicer_ids.specs.declared.ids.MethodId.{MethodId}
use Rattle.class_form.specs.Reaching.{Flows}
use Rattle.class_form.specs.declared.body.Body.{Body}
use Rattle.class_form.specs.declared.body.Point.{Point}
use Rattle.class_form.proofs.Indices.{index_at, index_in, there_at}
use Rattle.dep_form.specs.Orders.{RiseBy}
use Rattle.worklists.specs.Growth.{FromOne}
use Rattle.worklists.proofs.Growing.{FromBelow}
use Rattle.program_form.specs.Programs.{Program}
use Rattle.fact_form.specs.FactTables.{IsBodyIn, IsFlowAt, IsPointAt, StepBefore}
use Rattle.fact_form.proofs.ItemLists.{map_at, mapped, pair_at, pairs_of}
use Rattle.input_tables.specs.declared.steps.Step.{Step}
use Rattle.input_tables.specs.Control.{ArePointsOf, IsControlOf, IsStepAt, IsStepFrom, IsStepOf, IsStepTo, IsStepToFound, StandsAt, pair_of, step}
use Rattle.input_tables.proofs.Keyed.{one_place}

-- ---- a step to what was found
pub found_step : (q r : ℕ) (found : Option ℕ) → found ≡ Some r → (x : Step) → (x ≡ step q r) ↔ IsStepToFound q found x
found_step q r found is x = (λ e. (r, is, e), λ (n, at, e). e ∙ ap (step q) (same_Some n r (sym at ∙ is)))

pub step_to : (points : List Point) (q pc : ℕ) (found : Option ℕ) → ((r : ℕ) → (found ≡ Some r) ↔ StandsAt points r pc) → (x : Step) → IsStepToFound q found x ↔ IsStepTo points q pc x
step_to points q pc found is x = (λ (r, at, e). (r, (is r).0 at, e), λ (r, at, e). (r, (is r).1 at, e))

pub step_at : (points : List Point) (q : ℕ) (t : Point) → slice_get points q ≡ Some t → (x : Step) → IsStepFrom points t q x ↔ IsStepAt points q x
step_at points q t at x = (λ h. (t, at, h), λ (u, there, h). subst (λ (y : Point). IsStepFrom points y q x) (same_Some u t (sym there ∙ at)) h)

-- ---- a step by its ends
module _ (points : List Point) (q r : ℕ) where
  of_pc : (pcs : List ℕ) → FromOne (IsStepTo points q) pcs (step q r) → (u : Point) × (slice_get points r ≡ Some u) × Contains pcs u.pc
  of_pc pcs (pc, c, (n, (u, at, e), same)) = (u, subst (λ i. slice_get points i ≡ Some u) (sym (ap (λ (x : Step). x.to) same)) at, subst (Contains pcs) (sym e) c)

  to_pc : (pcs : List ℕ) (u : Point) → slice_get points r ≡ Some u → Contains pcs u.pc → FromOne (IsStepTo points q) pcs (step q r)
  to_pc pcs u at c = (u.pc, c, (r, (u, at, refl), refl))

  from_of : (x : Step) → x ≡ step q r → (t : Point) → slice_get points x.from ≡ Some t → IsStepFrom points t x.from x → IsStepOf points q r
  from_of x e t at h =
      let here : slice_get points q ≡ Some t = subst (λ (y : Step). slice_get points y.from ≡ Some t) e at in
      let steps : IsStepFrom points t q (step q r) = subst (λ (y : Step). IsStepFrom points t y.from y) e h in
      elim steps [
        | inl f ↦ let w = of_pc t.next f in (t, w.0, here, w.1, inl w.2)
        | inr f ↦ let w = of_pc t.handlers f in (t, w.0, here, w.1, inr w.2)
      ]

  first_is : (pcs : List ℕ) (n : ℕ) → FromOne (IsStepTo points n) pcs (step q r) → q ≡ n
  first_is pcs n (pc, c, (k, at, same)) = ap (λ (x : Step). x.from) same

  start_is : (t : Point) (n : ℕ) → IsStepFrom points t n (step q r) → q ≡ n
  start_is t n (inl f) = first_is t.next n f
  start_is t n (inr f) = first_is t.handlers n f

  to : FromBelow (IsStepAt points) (length points) (step q r) → IsStepOf points q r
  to (n, lt, (t, at, h)) =
      let e = start_is t n h in
      from_of (step q r) refl t (subst (λ i. slice_get points i ≡ Some t) (sym e) at) (subst (λ i. IsStepFrom points t i (step q r)) (sym e) h)

  from : IsStepOf points q r → FromBelow (IsStepAt points) (length points) (step q r)
  from (t, u, at, there, inl c) = (q, slice_get_within points q t at, (t, at, inl (to_pc t.next u there c)))
  from (t, u, at, there, inr c) = (q, slice_get_within points q t at, (t, at, inr (to_pc t.handlers u there c)))

  pub step_of : FromBelow (IsStepAt points) (length points) (step q r) ↔ IsStepOf points q r
  step_of = (to, from)

-- ---- steps as pairs
pub pairs_order : (all slice : List Step) (pairs : List (ℕ × ℕ)) → slice ≡ all → pairs ≡ map pair_of slice → AllPairs (λ a b. StepBefore (pair_of a) (pair_of b)) all → AllPairs StepBefore pairs
pairs_order all slice pairs same e order = subst (AllPairs StepBefore) (sym (e ∙ ap (map pair_of) same)) (pairs_of StepBefore (map pair_of all) (λ i j x y lt at there.
    let a = mapped pair_of all i x at in
    let b = mapped pair_of all j y there in
    subst (λ z. StepBefore z y) a.2 (subst (λ z. StepBefore (pair_of a.0) z) b.2 (pair_at (λ a b. StepBefore (pair_of a) (pair_of b)) all order i j a.0 b.0 lt a.1 b.1))))

pub pairs_members : (old all slice : List Step) (pairs : List (ℕ × ℕ)) → slice ≡ all → pairs ≡ map pair_of slice → ((x : Step) → Contains all x ↔ Contains old x) → (q r : ℕ) → Contains pairs (q, r) ↔ Contains old (step q r)
pairs_members old all slice pairs same e members q r = (back, there)
  where
    is : pairs ≡ map pair_of all
    is = e ∙ ap (map pair_of) same

    back : Contains pairs (q, r) → Contains old (step q r)
    back c =
        let i = index_in (map pair_of all) (q, r) (subst (λ (ys : List (ℕ × ℕ)). Contains ys (q, r)) is c) in
        let w = mapped pair_of all i.0 (q, r) i.1 in
        let x : w.0 ≡ step q r = ap (λ (y : ℕ × ℕ). step y.0 y.1) w.2 in
        (members (step q r)).0 (subst (Contains all) x (there_at all i.0 w.0 w.1))

    there : Contains old (step q r) → Contains pairs (q, r)
    there c =
        let i = index_in all (step q r) ((members (step q r)).1 c) in
        subst (λ (ys : List (ℕ × ℕ)). Contains ys (q, r)) (sym is) (there_at (map pair_of all) i.0 (q, r) (map_at pair_of all i.0 (step q r) i.1))

-- ---- the flow of a method
module _ (bodies : List Body) (m : MethodId) where
  pub no_points : (points : List Point) → points ≡ [] → ((b : Body) → Contains bodies b → b.method ≡ m → ⊥) → ArePointsOf bodies m points
  no_points points empty never = subst (ArePointsOf bodies m) (sym empty) (record {
    order = λ i j d lt within. absurd (omega (arith, within));
    stand = λ p same q pc. (
      λ (t, here, f). absurd (omega (arith, slice_get_within [] q t here)),
      λ (b, t, is, here, f). absurd (never b (subst (λ (bs : List Body). Contains bs b) same is.0) is.1),
    );
  })

  pub no_control : (points : ℕ) (flow : List (ℕ × ℕ)) → points ≡ 0 → flow ≡ [] → ((b : Body) → Contains bodies b → b.method ≡ m → ⊥) → IsControlOf bodies m points flow
  no_control points flow none empty never = record {
    points_are = λ p same q. (λ lt. absurd (omega (arith, lt, none)), λ (pc, (b, t, is, at, e)). absurd (never b (subst (λ (bs : List Body). Contains bs b) same is.0) is.1));
    flow_is = λ p same q r. (
      λ c. absurd (omega (arith, (subst (λ (ys : List (ℕ × ℕ)). Contains ys (q, r)) empty c).1)),
      λ (b, t, u, is, at, there, flows). absurd (never b (subst (λ (bs : List Body). Contains bs b) same is.0) is.1),
    );
    flow_order = subst (AllPairs StepBefore) (sym empty) (λ i j d lt within. absurd (omega (arith, within)));
  }

  module _ (rise : RiseBy nat_cmp (λ (b : Body). b.method.0) bodies) (number : ℕ) (body : Body) (at : slice_get bodies number ≡ Some body) (is : (b : Body) × (slice_get bodies number ≡ Some b) × (b.method ≡ m)) where
    method_is : body.method ≡ m
    method_is = ap (λ (b : Body). b.method) (same_Some body is.0 (sym at ∙ is.1)) ∙ is.2

    same_body : (p : Program) → p.bodies ≡ bodies → (b : Body) → IsBodyIn p m b → b ≡ body
    same_body p same b (c, e) =
        let i = index_in bodies b (subst (λ (bs : List Body). Contains bs b) same c) in
        let k = one_place (λ (b : Body). b.method.0) bodies rise i.0 number b body i.1 at (ap (λ (n : MethodId). n.0) (e ∙ sym method_is)) in
        same_Some b body (sym (subst (λ n. slice_get bodies n ≡ Some b) k i.1) ∙ at)

    is_body : (p : Program) → p.bodies ≡ bodies → IsBodyIn p m body
    is_body p same = (subst (λ (bs : List Body). Contains bs body) (sym same) (there_at bodies number body at), method_is)

    module _ (points : RiseBy nat_cmp (λ (t : Point). t.pc) body.shape.points) (p : Program) (same : p.bodies ≡ bodies) where
      one_point : (t u : Point) → Contains body.shape.points t → Contains body.shape.points u → t.pc ≡ u.pc → t ≡ u
      one_point t u c d e =
          let i = index_in body.shape.points t c in
          let j = index_in body.shape.points u d in
          let k = one_place (λ (t : Point). t.pc) body.shape.points points i.0 j.0 t u i.1 j.1 e in
          same_Some t u (sym (subst (λ n. slice_get body.shape.points n ≡ Some t) k i.1) ∙ j.1)

      flow_to : (q r : ℕ) → IsStepOf body.shape.points q r → IsFlowAt p m q r
      flow_to q r (t, u, here, there, goes) = (body, t, u, is_body p same, here, there, (t, (there_at body.shape.points q t here, refl), goes))

      flow_from : (q r : ℕ) → IsFlowAt p m q r → IsStepOf body.shape.points q r
      flow_from q r (b, t, u, is, here, there, (w, (c, e), goes)) =
          let k = same_body p same b is in
          let first : slice_get body.shape.points q ≡ Some t = subst (λ (y : Body). slice_get y.shape.points q ≡ Some t) k here in
          let last : slice_get body.shape.points r ≡ Some u = subst (λ (y : Body). slice_get y.shape.points r ≡ Some u) k there in
          let inside : Contains body.shape.points w = subst (λ (y : Body). Contains y.shape.points w) k c in
          let one = one_point w t inside (there_at body.shape.points q t first) e in
          (t, u, first, last, subst (λ (y : Point). Contains y.next u.pc ⊎ Contains y.handlers u.pc) one goes)

      points_to : (q : ℕ) → q < length body.shape.points → (pc : ℕ) × IsPointAt p m q pc
      points_to q lt = let t = index_at body.shape.points q lt in (t.0.pc, (body, t.0, is_body p same, t.1, refl))

      points_from : (q : ℕ) → (pc : ℕ) × IsPointAt p m q pc → q < length body.shape.points
      points_from q (pc, (b, t, is, here, e)) = slice_get_within body.shape.points q t (subst (λ (y : Body). slice_get y.shape.points q ≡ Some t) (same_body p same b is) here)

    -- the points of the body
    pub body_points : RiseBy nat_cmp (λ (t : Point). t.pc) body.shape.points → (points : List Point) → points ≡ body.shape.points → ArePointsOf bodies m points
    body_points ordered points e = subst (ArePointsOf bodies m) (sym e) (record {
      order = ordered;
      stand = λ p same q pc. (
        λ (t, here, f). (body, t, is_body p same, here, f),
        λ (b, t, is, here, f). (t, subst (λ (y : Body). slice_get y.shape.points q ≡ Some t) (same_body p same b is) here, f),
      );
    })

    pub body_control : RiseBy nat_cmp (λ (t : Point). t.pc) body.shape.points → (points : List Point) → points ≡ body.shape.points → (count : ℕ) (flow : List (ℕ × ℕ)) → count ≡ length points → AllPairs StepBefore flow
        → ((q r : ℕ) → Contains flow (q, r) ↔ IsStepOf points q r) → IsControlOf bodies m count flow
    body_control ordered points e count flow size order members = record {
      points_are = λ p same q. (
        λ lt. points_to ordered p same q (omega (arith, lt, size, ap (λ (ts : List Point). length ts) e)),
        λ w. omega (arith, points_from ordered p same q w, size, ap (λ (ts : List Point). length ts) e),
      );
      flow_is = λ p same q r.
          let is = members q r in
          (λ c. flow_to ordered p same q r (subst (λ (ts : List Point). IsStepOf ts q r) e (is.0 c)), λ f. is.1 (subst (λ (ts : List Point). IsStepOf ts q r) (sym e) (flow_from ordered p same q r f)));
      flow_order = order;
    }
