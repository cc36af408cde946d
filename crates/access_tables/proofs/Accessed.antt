-- The accesses of points, bodies and a program.
use Rattle.std.proofs.Common.{◌≡◌, ◌<◌, ◌+◌, ◌++◌, ◌∷◌, [], ℕ, List, Contains, Option, Some, None, take, get_or, length, inl, refl, sym, ap, subst, ◌∙◌, arith}
use Rattle.std.specs.Prelude.{AllPairs, MatchOption}
use Rattle.std.specs.Cmp.{nat_cmp_is}
use Rattle.std.specs.Ordering.{nat_cmp}
use Rattle.std.specs.declared.cmp.Ordering.TheVariants.{Less}
use Rattle.std.proofs.lemmas.Option.{same_Some}
use Rattle.slicer_ids.specs.Order.{SiteBefore}
use Rattle.slicer_ids.specs.Sets.{IsOrderedListOf}
use Rattle.slicer_ids.specs.declared.ids.MethodId.{MethodId}
use Rattle.slicer_ids.specs.declared.ids.Statement.{Statement}
use Rattle.class_form.specs.declared.body.Body.{Body}
use Rattle.class_form.specs.declared.body.Def.{Def}
use Rattle.class_form.specs.declared.body.Point.{Point}
use Rattle.dep_form.specs.Constraints.{SystemHolds}
use Rattle.dep_form.specs.Inputs.{IsInputOf, IsNode}
use Rattle.dep_form.specs.Orders.{RiseBy, statement_cmp}
use Rattle.dep_form.specs.PointsTo.{Reached}
use Rattle.dep_form.specs.WithinFacts.{NodeBefore}
use Rattle.dep_form.specs.declared.access.Access.{Access}
use Rattle.dep_form.specs.declared.effects.ModRef.{ModRef}
use Rattle.dep_form.specs.declared.input.MethodInput.{MethodInput}
use Rattle.dep_form.specs.declared.node.Node.{Node}
use Rattle.dep_form.specs.declared.node.Node.TheVariants.{Own}
use Rattle.dep_form.specs.declared.system.System.{System}
use Rattle.fact_form.proofs.ItemLists.{listed_as}
use Rattle.fact_form.specs.EdgeNumbers.{IsDefinitionNumber}
use Rattle.fact_form.specs.FactTables.{AreAccesses, AreInputs, RunsIn}
use Rattle.fact_form.specs.Handed.{IsProgramWith}
use Rattle.fact_form.specs.NodeNumbers.{own}
use Rattle.fact_form.specs.ValueNumbers.{OperandSite}
use Rattle.program_form.specs.Programs.{Program}
use Rattle.program_form.specs.Statements.{OperandIs}
use Rattle.program_form.specs.Values.{IsAccessOpcode}
use Rattle.worklists.specs.Growth.{FromOne}
use Rattle.input_tables.specs.Uses.{IsNodeIn}
use Rattle.input_tables.proofs.PointKinds.{kind_here, to_kind}
use Rattle.value_tables.proofs.Tabled.{before_next, from_more, later_method, later_pc, to_more}
use Rattle.access_tables.specs.Tables.{AddsAccesses, HasAccess, HasAccessIn, HasBody, HasOwnNodes, IsAccessInBody, IsAccessPoint, RunsInBody}
use Rattle.access_tables.proofs.Joined.{adds_as, adds_both, adds_none, adds_one, adds_same}

abbrev Items : Type 0
Items = List (Statement × Access)

-- the order of points, as their program counters are compared
pub points_rise : (points : List Point) → AllPairs (λ (a b : Point). a.pc < b.pc) points → RiseBy nat_cmp (λ (q : Point). q.pc) points
points_rise points order = λ i j d lt within. sym (nat_cmp_is _ _ Less (order i j d lt within))

module _ (H : Statement → Access → Type 0) (m : MethodId) where
  -- ---- a point
  pub point_skipped : (old : Items) (q : Point) → (IsAccessOpcode q.op → ⊥) → AddsAccesses old old (IsAccessPoint m q) H
  point_skipped old q never = adds_none H old (IsAccessPoint m q) (λ t h. never h.0)

  pub point_added : (old new : Items) (q : Point) (a : Access) → IsAccessOpcode q.op → H (record { method = m; pc = q.pc }) a → new ≡ old ++ (record { method = m; pc = q.pc }, a) ∷ [] → AddsAccesses old new (IsAccessPoint m q) H
  point_added old new q a access has e = adds_one H old new (IsAccessPoint m q) (record { method = m; pc = q.pc }) a (λ u h. h.1) (access, refl) has e

  -- ---- points
  pub no_points : (points : List Point) (start : Items) → AddsAccesses start start (FromOne (IsAccessPoint m) (take 0 points)) H
  no_points points start = adds_none H start (FromOne (IsAccessPoint m) (take 0 points)) (λ t f. absurd (omega (arith, f.1.1)))

  pub point_more : (points : List Point) → AllPairs (λ (a b : Point). a.pc < b.pc) points → (i : ℕ) (d : Point) (start mid new : Items) → i < length points → AddsAccesses start mid (FromOne (IsAccessPoint m) (take i points)) H →
      AddsAccesses mid new (IsAccessPoint m (get_or points i d)) H → AddsAccesses start new (FromOne (IsAccessPoint m) (take (i + 1) points)) H
  point_more points order i d start mid new lt a b =
      adds_both H start mid new (FromOne (IsAccessPoint m) (take i points)) (IsAccessPoint m (get_or points i d)) (FromOne (IsAccessPoint m) (take (i + 1) points))
      (from_more (IsAccessPoint m) points i d lt) (to_more (IsAccessPoint m) points i d lt)
      (λ t u (r, c, e) f. subst (λ (v : Statement). statement_cmp v u ≡ Less) (sym e.1) (subst (λ (v : Statement). statement_cmp (record { method = m; pc = r.pc }) v ≡ Less) (sym f.1)
      (later_pc m r.pc (get_or points i d).pc (before_next (λ (y z : Point). y.pc < z.pc) points i d lt order r c)))) a b

-- ---- a body
pub not_reached : (H : Statement → Access → Type 0) (s : System) (b : Body) (old : Items) → (SystemHolds s (Reached b.method) → ⊥) → AddsAccesses old old (RunsInBody s b) H
not_reached H s b old never = adds_none H old (RunsInBody s b) (λ t r. never r.0)

own_method : (b : Body) (t : Statement) → IsAccessInBody b t → t.method ≡ b.method
own_method b t (q, c, (access, e)) = ap (λ (v : Statement). v.method) e

-- a method that may run, by its input
pub reached_body : (p : Program) (s : System) (inputs : List (Option MethodInput)) (b : Body) (i : MethodInput) (old new : Items) → IsInputOf inputs b.method i → SystemHolds s (Reached b.method) →
    AddsAccesses old new (IsAccessInBody b) (HasAccess p s i.first.0 i.nodes) → AddsAccesses old new (RunsInBody s b) (HasAccessIn p s inputs)
reached_body p s inputs b i old new input reached a =
    adds_as (HasAccess p s i.first.0 i.nodes) (HasAccessIn p s inputs) old new (RunsInBody s b)
    (λ t z r h. (i, subst (λ (m : MethodId). IsInputOf inputs m i) (sym (own_method b t r.1)) input, h))
    (adds_same (HasAccess p s i.first.0 i.nodes) old new (IsAccessInBody b) (RunsInBody s b) (λ t h. (reached, h)) (λ t h. h.1) a)

module _ (p : Program) (s : System) (mr : ModRef) (entries : List MethodId) (inputs : List (Option MethodInput)) (are : AreInputs p s mr entries inputs) (b : Body) where
  -- its input has the nodes of its statements
  pub own_nodes : HasBody p s b → SystemHolds s (Reached b.method) → (i : MethodInput) → IsInputOf inputs b.method i → HasOwnNodes i.nodes b
  own_nodes (of, files, among) reached i input = λ q has. (are.each b.method i input).nodes.whole (Own q.pc) (own reached (to_kind p of.coded b.method b among refl (λ op. Unit {0}) q has tt))

  -- a method that may run has an input
  pub no_input : {B : Type 0} (now : B → MethodInput) (o : Option B) → o ≡ None → MatchOption o ((i : MethodInput) → IsInputOf inputs b.method i → ⊥) (λ (z : B). IsInputOf inputs b.method (now z)) → SystemHolds s (Reached b.method) → ⊥
  no_input {B} now o none found reached =
      let w : MatchOption None ((i : MethodInput) → IsInputOf inputs b.method i → ⊥) (λ (z : B). IsInputOf inputs b.method (now z)) =
      subst (λ (y : Option B). MatchOption y ((i : MethodInput) → IsInputOf inputs b.method i → ⊥) (λ (z : B). IsInputOf inputs b.method (now z))) none found in
      let i = (are.whole b.method).1 (inl reached) in
      w i.0 i.1

-- what was found is an input
pub some_input : {B : Type 0} (now : B → MethodInput) (inputs : List (Option MethodInput)) (m : MethodId) (o : Option B) (x : B) → o ≡ Some x → MatchOption o ((i : MethodInput) → IsInputOf inputs m i → ⊥) (λ (z : B). IsInputOf inputs m (now z)) → IsInputOf inputs m (now x)
some_input {B} now inputs m o x is h =
    let w : MatchOption (Some x) ((i : MethodInput) → IsInputOf inputs m i → ⊥) (λ (z : B). IsInputOf inputs m (now z)) =
    subst (λ (y : Option B). MatchOption y ((i : MethodInput) → IsInputOf inputs m i → ⊥) (λ (z : B). IsInputOf inputs m (now z))) is h in
    w

-- ---- all bodies
module _ (p : Program) (s : System) (inputs : List (Option MethodInput)) (bodies : List Body) (of : IsProgramWith p.classes bodies s p) where
  abbrev H : Statement → Access → Type 0
  H = HasAccessIn p s inputs

  pub no_bodies : (accesses : Items) → accesses ≡ [] → AddsAccesses [] accesses (FromOne (RunsInBody s) (take 0 bodies)) H
  no_bodies accesses e = subst (λ (zs : Items). AddsAccesses [] zs (FromOne (RunsInBody s) (take 0 bodies)) H) (sym e)
      (adds_none H [] (FromOne (RunsInBody s) (take 0 bodies)) (λ t f. absurd (omega (arith, f.1.1))))

  body_order : AllPairs (λ (a b : Body). a.method.0 < b.method.0) bodies
  body_order = subst (λ (bs : List Body). AllPairs (λ (a b : Body). a.method.0 < b.method.0) bs) of.bodies_are of.asked.bodies

  pub body_more : (i : ℕ) (d : Body) (mid new : Items) → i < length bodies → AddsAccesses [] mid (FromOne (RunsInBody s) (take i bodies)) H →
      AddsAccesses mid new (RunsInBody s (get_or bodies i d)) H → AddsAccesses [] new (FromOne (RunsInBody s) (take (i + 1) bodies)) H
  body_more i d mid new lt a b =
      adds_both H [] mid new (FromOne (RunsInBody s) (take i bodies)) (RunsInBody s (get_or bodies i d)) (FromOne (RunsInBody s) (take (i + 1) bodies))
      (from_more (RunsInBody s) bodies i d lt) (to_more (RunsInBody s) bodies i d lt)
      (λ t u (r, c, h) g.
      let less = before_next (λ (y z : Body). y.method.0 < z.method.0) bodies i d lt body_order r c in
      later_method t u (omega (arith, less, ap (λ (m : MethodId). m.0) (own_method r t h.1), ap (λ (m : MethodId). m.0) (own_method (get_or bodies i d) u g.1)))) a b

  runs : (t : Statement) → FromOne (RunsInBody s) bodies t → RunsIn p s t IsAccessOpcode
  runs t (b, c, (reached, (q, has, (access, e)))) =
      let among = subst (λ (bs : List Body). Contains bs b) (sym of.bodies_are) c in
      let here : RunsIn p s (record { method = b.method; pc = q.pc }) IsAccessOpcode = (reached, to_kind p of.coded b.method b among refl IsAccessOpcode q has access) in
      subst (λ (v : Statement). RunsIn p s v IsAccessOpcode) (sym e) here

  in_bodies : (t : Statement) → RunsIn p s t IsAccessOpcode → FromOne (RunsInBody s) bodies t
  in_bodies t (reached, (b, i, (among, method, there, pc, (q, (has, place))), access)) =
      let same : t ≡ record { method = b.method; pc = q.pc } = ap (λ (m : MethodId). record { method = m; pc = t.pc }) (sym method) ∙ ap (λ (n : ℕ). record { method = b.method; pc = n }) (sym place) in
      let kind = subst (λ (v : Statement). RunsIn p s v IsAccessOpcode) same (reached, (b, i, (among, method, there, pc, (q, (has, place))), access)) in (
        b,
        subst (λ (bs : List Body). Contains bs b) of.bodies_are among,
        (kind.0, (q, has, (kind_here p of.coded b.method b among refl IsAccessOpcode q has kind.1, same))),
      )

  same_input : (m : MethodId) (i j : MethodInput) → IsInputOf inputs m i → IsInputOf inputs m j → i ≡ j
  same_input m i j a c = same_Some i j (same_Some (Some i) (Some j) (sym a ∙ c))

  objects_are : (t : Statement) (z : Access) → H t z → IsOrderedListOf NodeBefore z.object (λ n. (d : Def) × (k : Node) × OperandIs p t 0 d × IsDefinitionNumber p t.method d k × IsNode inputs n t.method k)
  objects_are t z (i, input, (objects, sites)) =
      listed_as NodeBefore (λ n. (d : Def) × (k : Node) × OperandIs p t 0 d × IsDefinitionNumber p t.method d k × IsNodeIn i.first.0 i.nodes n k) (λ n. (d : Def) × (k : Node) × OperandIs p t 0 d × IsDefinitionNumber p t.method d k × IsNode inputs n t.method k) z.object
      (λ n (d, k, operand, number, node). (d, k, operand, number, (i, input, node)))
      (λ n (d, k, operand, number, (j, there, node)). (d, k, operand, number, subst (λ (y : MethodInput). IsNodeIn y.first.0 y.nodes n k) (same_input t.method j i there input) node)) objects

  sites_are : (t : Statement) (z : Access) → H t z → IsOrderedListOf SiteBefore z.sites (OperandSite p s t 0)
  sites_are t z (i, input, (objects, sites)) = sites

  pub accesses_are : (accesses : Items) → AddsAccesses [] accesses (FromOne (RunsInBody s) bodies) H → AreAccesses p s inputs accesses
  accesses_are accesses a = subst (AreAccesses p s inputs) (sym a.is) (record {
    order = a.order;
    listed = λ t. (λ (z, c). runs t (a.each t z c).0, λ r. a.whole t (in_bodies t r));
    objects = λ t z c. objects_are t z (a.each t z c).1;
    sites = λ t z c. sites_are t z (a.each t z c).1;
  })
