-- The values of all statements.
use Rattle.std.proofs.Common.{◌≡◌, ◌⊎◌, ◌↔◌, ◌<◌, ◌+◌, ◌^◌, ◌++◌, ℕ, List, [], ◌∷◌, take, drop, length, length-append, get_or, Contains, All, inl, inr, refl, sym, ap, subst, ◌∙◌, arith}
use Rattle.std.specs.Prelude.{slice_get, Some, AllPairs}
use Rattle.std.specs.Ordering.{nat_cmp, ordering_then}
use Rattle.std.specs.Cmp.{nat_cmp_is}
use Rattle.std.specs.declared.cmp.Ordering.{Ordering}
use Rattle.std.specs.declared.cmp.Ordering.TheVariants.{Less, Equal}
use Rattle.std.proofs.lemmas.List.{length-drop, take_more, take-append-drop}
use Rattle.std.proofs.lemmas.List.Elements.{Contains-append_left, Contains-push, Contains-push_cases}
use Rattle.class_form.proofs.Indices.{index_in, there_at}
use Rattle.class_form.specs.declared.body.Body.{Body}
use Rattle.class_form.specs.declared.body.Point.{Point}
use Rattle.constraint_form.proofs.Instructions.{in_range}
use Rattle.dep_form.specs.Constraints.{SystemHolds}
use Rattle.dep_form.specs.PointsTo.{Reached}
use Rattle.dep_form.specs.Solutions.{IsSolutionOf}
use Rattle.dep_form.specs.Orders.{statement_cmp}
use Rattle.dep_form.specs.declared.rules.MethodVars.{MethodVars}
use Rattle.dep_form.specs.declared.solution.Solution.{Solution}
use Rattle.dep_form.specs.declared.system.System.{System}
use Rattle.fact_form.proofs.ItemLists.{all_of, join_left, listed_as, pair_at}
use Rattle.std.proofs.lemmas.Option.{slice_get-get_or, slice_get_within}
use Rattle.std.proofs.lemmas.List.Elements.{All-contains}
use Rattle.program_code.specs.Codes.{IsOfMethod}
use Rattle.fact_form.specs.FactTables.{AreValues, RunsIn}
use Rattle.fact_form.specs.Handed.{IsProgramWith}
use Rattle.fact_form.specs.ValueNumbers.{ValueSite}
use Rattle.program_code.proofs.OneInstruction.{coded_body, one_body}
use Rattle.program_form.specs.Programs.{Program}
use Rattle.program_form.specs.Statements.{HasOpcode}
use Rattle.slicer_ids.specs.Order.{SiteBefore, StatementBefore}
use Rattle.slicer_ids.specs.Sets.{IsOrderedListOf}
use Rattle.slicer_ids.specs.declared.ids.MethodId.{MethodId}
use Rattle.slicer_ids.specs.declared.ids.SiteId.{SiteId}
use Rattle.slicer_ids.specs.declared.ids.Statement.{Statement}
use Rattle.node_tables.proofs.ProgramScenes.{placed}
use Rattle.worklists.specs.Growth.{FromOne}
use Rattle.value_tables.specs.Methods.{IsMethod}
use Rattle.value_tables.specs.Tables.{AddsValues, IsAtPoint, IsInBody, RunsInBody}
use Rattle.value_tables.specs.Values.{PointHas}
use Rattle.value_tables.specs.declared.method.Method.{Method}
use Rattle.value_tables.proofs.Joined.{adds_none, adds_one, adds_both, adds_same}
use Rattle.value_tables.proofs.OfPoints.{to_value, of_value'}

-- ORDER

same_cmp : (a b : ℕ) → a ≡ b → nat_cmp a b ≡ Equal
same_cmp a b e = sym (nat_cmp_is a b Equal e)

pub later_pc : (m : MethodId) (i j : ℕ) → i < j → statement_cmp (record { method = m; pc = i }) (record { method = m; pc = j }) ≡ Less
later_pc m i j lt = ap (λ (o : Ordering). ordering_then o (nat_cmp i j)) (same_cmp m.0 m.0 refl) ∙ sym (nat_cmp_is i j Less lt)

pub later_method : (a b : Statement) → a.method.0 < b.method.0 → statement_cmp a b ≡ Less
later_method a b lt = ap (λ (o : Ordering). ordering_then o (nat_cmp a.pc b.pc)) (sym (nat_cmp_is a.method.0 b.method.0 Less lt))

-- ONE MORE ELEMENT

module _ {X A : Type 0} (R : X → A → Type 0) (xs : List X) (i : ℕ) (d : X) (lt : i < length xs) where
  pub from_more : (a : A) → FromOne R (take (i + 1) xs) a → FromOne R (take i xs) a ⊎ R (get_or xs i d) a
  from_more a (x, c, r) = elim (Contains-push_cases (take i xs) (get_or xs i d) x (subst (λ (ys : List X). Contains ys x) (take_more xs i d lt) c)) [
    | inl h ↦ inl (x, h, r)
    | inr e ↦ inr (subst (λ (y : X). R y a) (sym e) r)
  ]

  pub to_more : (a : A) → FromOne R (take i xs) a ⊎ R (get_or xs i d) a → FromOne R (take (i + 1) xs) a
  to_more a (inl (x, c, r)) = (x, subst (λ (ys : List X). Contains ys x) (sym (take_more xs i d lt)) (Contains-append_left (take i xs) (get_or xs i d ∷ []) x c), r)
  to_more a (inr r) = (get_or xs i d, subst (λ (ys : List X). Contains ys (get_or xs i d)) (sym (take_more xs i d lt)) (Contains-push (take i xs) (get_or xs i d)), r)

-- an element of the beginning comes before the next
pub before_next : {X : Type 0} (B : X → X → Type 0) (xs : List X) (i : ℕ) (d : X) → i < length xs → AllPairs B xs → (x : X) → Contains (take i xs) x → B x (get_or xs i d)
before_next {X} B xs i d lt order x c =
    let k = index_in (take i xs) x c in
    let here : slice_get xs k.0 ≡ Some x = subst (λ (ys : List X). slice_get ys k.0 ≡ Some x) (take-append-drop i xs) (join_left (take i xs) (drop i xs) k.0 x k.1) in
    let size = ap (λ (ys : List X). length ys) (take-append-drop i xs) in
    let less : k.0 < i = omega (arith, lt, slice_get_within (take i xs) k.0 x k.1, size, length-append (take i xs) (drop i xs), length-drop i xs) in
    pair_at B xs order k.0 i x (get_or xs i d) less here (slice_get-get_or xs i d lt)

-- A POINT

module _ (p : Program) (x : Method) (is : IsMethod x) (of : IsProgramWith p.classes p.bodies x.system.now p) (among : Contains p.bodies x.body.now) (q : Point) (has : Contains x.body.now.shape.points q)
    (hs : List SiteId) (listed : IsOrderedListOf SiteBefore hs (PointHas x q)) (old new : List (Statement × List SiteId)) where
  abbrev t : Statement
  t = record { method = x.body.now.method; pc = q.pc }

  values_listed : IsOrderedListOf SiteBefore hs (ValueSite p x.system.now t)
  values_listed = listed_as SiteBefore (PointHas x q) (ValueSite p x.system.now t) hs (to_value p of.coded x is among q has) (of_value' p of.coded x is among q has) listed

  pub point_skipped : length hs ≡ 0 → AddsValues old old (IsAtPoint x.body.now.method q) (ValueSite p x.system.now)
  point_skipped e = adds_none (ValueSite p x.system.now) old (IsAtPoint x.body.now.method q) (λ u h at some.
      let c = values_listed.whole h (subst (λ (v : Statement). ValueSite p x.system.now v h) at some) in
      absurd (omega (arith, c.1, e)))

  pub point_added : new ≡ old ++ (t, hs) ∷ [] → AddsValues old new (IsAtPoint x.body.now.method q) (ValueSite p x.system.now)
  point_added e = adds_one (ValueSite p x.system.now) old new (IsAtPoint x.body.now.method q) t hs (λ u at. at) refl values_listed e

-- THE POINTS OF A BODY

module _ (p : Program) (x : Method) (is : IsMethod x) (points : List Point) (order : AllPairs (λ (a b : Point). a.pc < b.pc) points) (start : List (Statement × List SiteId)) where
  pub no_points : AddsValues start start (FromOne (IsAtPoint x.body.now.method) (take 0 points)) (ValueSite p x.system.now)
  no_points = adds_none (ValueSite p x.system.now) start (FromOne (IsAtPoint x.body.now.method) (take 0 points)) (λ t h f has. absurd (omega (arith, f.1.1)))

  pub point_more : (i : ℕ) (d : Point) (mid new : List (Statement × List SiteId)) → i < length points → AddsValues start mid (FromOne (IsAtPoint x.body.now.method) (take i points)) (ValueSite p x.system.now) →
      AddsValues mid new (IsAtPoint x.body.now.method (get_or points i d)) (ValueSite p x.system.now) → AddsValues start new (FromOne (IsAtPoint x.body.now.method) (take (i + 1) points)) (ValueSite p x.system.now)
  point_more i d mid new lt a b =
      adds_both (ValueSite p x.system.now) start mid new (FromOne (IsAtPoint x.body.now.method) (take i points)) (IsAtPoint x.body.now.method (get_or points i d)) (FromOne (IsAtPoint x.body.now.method) (take (i + 1) points))
      (from_more (IsAtPoint x.body.now.method) points i d lt) (to_more (IsAtPoint x.body.now.method) points i d lt)
      (λ t u (r, c, e) f. subst (λ (v : Statement). statement_cmp v u ≡ Less) (sym e) (subst (λ (v : Statement). statement_cmp (record { method = x.body.now.method; pc = r.pc }) v ≡ Less) (sym f)
      (later_pc x.body.now.method r.pc (get_or points i d).pc (before_next (λ (y z : Point). y.pc < z.pc) points i d lt order r c)))) a b

-- A BODY

pub body_in_range : (p : Program) (s : System) → IsProgramWith p.classes p.bodies s p → (b : Body) → Contains p.bodies b → b.method.0 < length s.methods
body_in_range p s of b among =
    let h : IsOfMethod p b = All-contains (IsOfMethod p) p.bodies b of.coded.bodies among in
    omega (arith, slice_get_within p.methods b.method.0 h.0 h.6.0, of.constraints.1.methods)

module _ (p : Program) (x : Method) (of : IsProgramWith p.classes p.bodies x.system.now p) (among : Contains p.bodies x.body.now) (solved : IsSolutionOf x.system.now x.solution.now)
    (vars : slice_get x.system.now.methods x.body.now.method.0 ≡ Some x.vars.now) (few : length x.system.now.calls < 2 ^ 32) where
  pub method_is : IsMethod x
  method_is =
      let code = (coded_body p of.coded x.body.now among).is in
      let tables = of.constraints.1 in
      record {
        solved = solved;
        vars = vars;
        values = tables.order.values x.body.now.method x.vars.now vars;
        caught = tables.order.caught x.body.now.method x.vars.now vars;
        points = code.shape.2.depths.2.order;
        reach = code.reach;
        placed = placed p x.system.now of.constraints;
        few = few;
      }

pub not_reached : (p : Program) (s : System) (b : Body) (values : List (Statement × List SiteId)) → (SystemHolds s (Reached b.method) → ⊥) → AddsValues values values (RunsInBody s b) (ValueSite p s)
not_reached p s b values never = adds_none (ValueSite p s) values (RunsInBody s b) (λ t h r has. absurd (never r.0))

pub reached_body : (p : Program) (s : System) (b : Body) (old new : List (Statement × List SiteId)) → SystemHolds s (Reached b.method) → AddsValues old new (IsInBody b) (ValueSite p s) → AddsValues old new (RunsInBody s b) (ValueSite p s)
reached_body p s b old new reached a = adds_same (ValueSite p s) old new (IsInBody b) (RunsInBody s b) (λ t h. (reached, h)) (λ t h. h.1) a

-- ALL BODIES

pub as_own : (bodies : List Body) (s : System) (p : Program) → IsProgramWith p.classes bodies s p → IsProgramWith p.classes p.bodies s p
as_own bodies s p of = record { classes_are = refl; bodies_are = refl; asked = of.asked; coded = of.coded; constraints = of.constraints }

method_of : (b : Body) (t : Statement) → IsInBody b t → t.method ≡ b.method
method_of b t (q, c, e) = ap (λ (v : Statement). v.method) e

module _ (p : Program) (s : System) (bodies : List Body) (of : IsProgramWith p.classes bodies s p) where
  pub no_bodies : (values : List (Statement × List SiteId)) → values ≡ [] → AddsValues [] values (FromOne (RunsInBody s) (take 0 bodies)) (ValueSite p s)
  no_bodies values e = subst (λ (vs : List (Statement × List SiteId)). AddsValues [] vs (FromOne (RunsInBody s) (take 0 bodies)) (ValueSite p s)) (sym e)
      (adds_none (ValueSite p s) [] (FromOne (RunsInBody s) (take 0 bodies)) (λ t h f has. absurd (omega (arith, f.1.1))))

  body_order : AllPairs (λ (a b : Body). a.method.0 < b.method.0) bodies
  body_order = subst (λ (bs : List Body). AllPairs (λ (a b : Body). a.method.0 < b.method.0) bs) of.bodies_are of.asked.bodies

  pub body_more : (i : ℕ) (d : Body) (mid new : List (Statement × List SiteId)) → i < length bodies → AddsValues [] mid (FromOne (RunsInBody s) (take i bodies)) (ValueSite p s) →
      AddsValues mid new (RunsInBody s (get_or bodies i d)) (ValueSite p s) → AddsValues [] new (FromOne (RunsInBody s) (take (i + 1) bodies)) (ValueSite p s)
  body_more i d mid new lt a b =
      adds_both (ValueSite p s) [] mid new (FromOne (RunsInBody s) (take i bodies)) (RunsInBody s (get_or bodies i d)) (FromOne (RunsInBody s) (take (i + 1) bodies))
      (from_more (RunsInBody s) bodies i d lt) (to_more (RunsInBody s) bodies i d lt)
      (λ t u (r, c, h) g.
      let less = before_next (λ (y z : Body). y.method.0 < z.method.0) bodies i d lt body_order r c in
      later_method t u (omega (arith, less, ap (λ (m : MethodId). m.0) (method_of r t h.1), ap (λ (m : MethodId). m.0) (method_of (get_or bodies i d) u g.1)))) a b

  runs : (t : Statement) → FromOne (RunsInBody s) bodies t → RunsIn p s t (λ op. Unit {0})
  runs t (b, c, (reached, (q, has, e))) =
      let among = subst (λ (bs : List Body). Contains bs b) (sym of.bodies_are) c in
      let each = (coded_body p of.coded b among).is.shape.2.depths.2.each q has in
      let here : RunsIn p s (record { method = b.method; pc = q.pc }) (λ op. Unit {0}) = (reached, (b, each.0, (among, refl, each.1.0, sym each.2.pc, (q, (has, refl))), tt)) in
      subst (λ (v : Statement). RunsIn p s v (λ op. Unit {0})) (sym e) here

  in_bodies : (t : Statement) → RunsIn p s t (λ op. Unit {0}) → FromOne (RunsInBody s) bodies t
  in_bodies t (reached, (b, i, (c, method, there, pc, (q, (has, place))), kind)) = (
    b,
    subst (λ (bs : List Body). Contains bs b) of.bodies_are c,
    (subst (λ (m : MethodId). SystemHolds s (Reached m)) (sym method) reached, (q, has, ap (λ (m : MethodId). record { method = m; pc = t.pc }) (sym method) ∙ ap (λ (n : ℕ). record { method = b.method; pc = n }) (sym place))),
  )

  pub values_are : (values : List (Statement × List SiteId)) → AddsValues [] values (FromOne (RunsInBody s) bodies) (ValueSite p s) → AreValues p s values
  values_are values a = subst (AreValues p s) (sym a.is) (record {
    order = a.order;
    each = λ t hs c. (runs t (a.each t hs c).0, (a.each t hs c).1);
    whole = λ t h r has. a.whole t h (in_bodies t r) has;
  })
