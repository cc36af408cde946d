-- The table of all sites.
use Rattle.std.proofs.Common.{◌≡◌, ◌⊎◌, ◌<◌, ◌≤◌, ◌+◌, ◌^◌, ℕ, List, [], ◌++◌, length, get_or, Contains, Some, sym, ap, subst, ◌∙◌, inl, inr, refl, arith}
use Rattle.std.specs.Prelude.{All, AllPairs, slice_get, take, Result, Ok, Err, IfOk, IfErr}
use Rattle.std.proofs.lemmas.Option.{slice_get_within}
use Rattle.std.proofs.lemmas.List.Elements.{All-contains}
use Rattle.slicer_ids.specs.Sets.{IsOrderedListOf}
use Rattle.slicer_ids.specs.declared.ids.MethodId.{MethodId}
use Rattle.slicer_ids.specs.declared.ids.SiteId.{SiteId}
use Rattle.slicer_ids.specs.declared.ids.Statement.{Statement}
use Rattle.slicer_ids.proofs.Ordered.{one_ordered}
use Rattle.worklists.specs.Growth.{FromOne}
use Rattle.class_form.specs.declared.class_file.ClassFile.{ClassFile}
use Rattle.class_form.specs.declared.types.FieldType.{FieldType}
use Rattle.class_form.specs.declared.body.Body.{Body}
use Rattle.class_form.specs.declared.body.Instr.{Instr}
use Rattle.class_form.specs.declared.body.Point.{Point}
use Rattle.slicer_ids.specs.declared.limits.LimitKind.TheVariants.{Sites}
use Rattle.dep_form.specs.declared.rules.SiteInfo.{SiteInfo}
use Rattle.dep_form.specs.declared.rules.TooMany.{TooMany}
use Rattle.dep_form.specs.declared.rules.TooMany.TheVariants.{Limit}
use Rattle.program_form.specs.Programs.{Program}
use Rattle.program_form.specs.Statements.{IsAt}
use Rattle.program_form.specs.Sites.{Site, Made, OfRoot, HasType, of_new, of_primitive_array, of_reference_array, of_dimension, of_constant, of_result, SiteBefore}
use Rattle.program_form.specs.Systems.{SiteNumber}
use Rattle.constraint_form.specs.ConstraintSystems.{AreSites}
use Rattle.constraint_form.proofs.Instructions.{one_body}
use Rattle.signature_tables.specs.Programs.{IsOfClasses}
use Rattle.signature_tables.specs.Statements.{HasMethod, HasBody, HasBodies, IsInstrPc, statement}
use Rattle.site_tables.specs.declared.table.Table.{Table}
use Rattle.site_tables.specs.Tables.{IsSiteOf, IsInfoOf, AreInfosOf, Adds, IsMadeAt, IsMadeIn, IsOfRoot, IsWhole, IsTableOf, IsTooMany}
use Rattle.site_tables.proofs.Adding.{site_asym, infos_length, info_at, adds_none, adds_then, adds_each, taken_before}

-- the method of a body has a number
pub body_method : (classes : List ClassFile) (b : Body) → HasBody classes b → HasMethod classes b.method
body_method classes b (p, of, has) =
    let (c, (d, x, n, t, method, code)) = of.read.coded b has in
    (p, of, slice_get_within p.methods b.method.0 d method.0)

-- a site stands where an instruction does
pub instruction_of : (p : Program) (t : Statement) (k : ℕ) (u : FieldType) → HasType p (Made t k) u → (b : Body) × (i : Instr) × IsAt p t b i
instruction_of p t k u (of_new (b, i, at, is) names ty) = (b, i, at)
instruction_of p t k u (of_primitive_array (b, i, at, is) code e) = (b, i, at)
instruction_of p t k u (of_reference_array (b, i, at, is) names ty e) = (b, i, at)
instruction_of p t k u (of_dimension {b = b} {i = i} at is names ty lt e) = (b, i, at)
instruction_of p t k u (of_constant (b, i, at, is) loads e) = (b, i, at)
instruction_of p t k u (of_result (inl (m, ((b, i, at, is), bytes, names, ty), e)) le f r) = (b, i, at)
instruction_of p t k u (of_result (inr ((b, i, at, is), ty)) le f r) = (b, i, at)

module _ (p : Program) where
  -- sites of earlier statements come before
  pub made_before : (s t : Statement) (g h : Site) → ((k j : ℕ) → SiteBefore (Made s k) (Made t j)) → IsMadeAt p s g → IsMadeAt p t h → SiteBefore g h
  made_before s t g h before (k, u, e, x) (j, v, f, y) = subst (λ z. SiteBefore z h) (sym e) (subst (λ z. SiteBefore (Made s k) z) (sym f) (before k j))

  -- a loop's step over the points of a body
  pub adds_point : (b : Body) (points : List Point) (i : ℕ) (q : Point) (old mid new : Table) → AllPairs (λ (q r : Point). q.pc < r.pc) points → i < length points → q ≡ get_or points i q →
      Adds p old mid (FromOne (λ (r : Point). IsMadeAt p (statement b r.pc)) (take i points)) → Adds p mid new (IsMadeAt p (statement b q.pc)) →
      Adds p old new (FromOne (λ (r : Point). IsMadeAt p (statement b r.pc)) (take (i + 1) points))
  adds_point b points i q old mid new order lt is =
      adds_each p (λ (r : Point). IsMadeAt p (statement b r.pc)) points i q old mid new lt is
      (λ r g h c x y.
      let less : r.pc < q.pc = taken_before (λ (q r : Point). q.pc < r.pc) points i q r order lt is c in
      made_before (statement b r.pc) (statement b q.pc) g h (λ k j. inl (inr (refl, less))) x y)

  -- .. and over bodies
  pub adds_body : (bodies : List Body) (i : ℕ) (b : Body) (old mid new : Table) → AllPairs (λ (a b : Body). a.method.0 < b.method.0) bodies → i < length bodies → b ≡ get_or bodies i b →
      Adds p old mid (FromOne (IsMadeIn p) (take i bodies)) → Adds p mid new (IsMadeIn p b) → Adds p old new (FromOne (IsMadeIn p) (take (i + 1) bodies))
  adds_body bodies i b old mid new order lt is =
      adds_each p (IsMadeIn p) bodies i b old mid new lt is
      (λ a g h c (q, in_points, x) (r, too, y).
      let less : a.method.0 < b.method.0 = taken_before (λ (a b : Body). a.method.0 < b.method.0) bodies i b a order lt is c in
      made_before (statement a q.pc) (statement b r.pc) g h (λ k j. inl (inl less)) x y)

  -- the sites of bodies and the root's are all
  pub whole : (bodies : List Body) (old mid new : Table) → p.bodies ≡ bodies → old.count ≡ 0 → old.infos.items ≡ [] → Adds p old mid (FromOne (IsMadeIn p) bodies) → Adds p mid new (IsOfRoot p) → IsWhole p new
  whole bodies old mid new e start none a b =
      let all = adds_then p old mid new (FromOne (IsMadeIn p) bodies) (IsOfRoot p) (IsSiteOf p) cross to from_body from_root a b in (
        all.sites,
        all.ordered,
        omega (arith, all.count, start),
        λ le.
            let (more, f, are) = all.listed le in
            subst (AreInfosOf p all.sites) (sym (f ∙ ap (λ xs. xs ++ more) none)) are,
      )
    where
      cross : (g h : Site) → FromOne (IsMadeIn p) bodies g → IsOfRoot p h → SiteBefore g h
      cross g h (c, has, (q, in_points, (k, u, f, x))) (j, v, r, y) = subst (λ z. SiteBefore z h) (sym f) (subst (λ z. SiteBefore (Made (statement c q.pc) k) z) (sym r) tt)

      to : (h : Site) → IsSiteOf p h → FromOne (IsMadeIn p) bodies h ⊎ IsOfRoot p h
      to (Made t k) (u, typed) =
          let (c, i, at) = instruction_of p t k u typed in
          let (q, point) = at.4 in
          let place : t ≡ statement c q.pc = ap (λ (m : MethodId). record { method = m; pc = t.pc }) (sym at.1) ∙ ap (λ n. statement c n) (sym point.1) in
          inl (c, subst (λ bs. Contains bs c) e at.0, (q, point.0, (k, u, ap (λ z. Made z k) place, typed)))
      to (OfRoot k) (u, typed) = inr (k, u, refl, typed)

      from_body : (h : Site) → FromOne (IsMadeIn p) bodies h → IsSiteOf p h
      from_body h (c, has, (q, in_points, (k, u, f, x))) = (u, x)

      from_root : (h : Site) → IsOfRoot p h → IsSiteOf p h
      from_root h (k, u, f, x) = (u, x)

  -- and what is kept of them is the table
  pub sites_of : (table : Table) (sites : List SiteInfo) → IsWhole p table → sites ≡ table.infos.items → table.count ≤ 2 ^ 20 → AreSites p sites × (length sites ≤ 2 ^ 20)
  sites_of table sites (hs, ordered, count, kept) same le =
      let are : AreInfosOf p hs sites = subst (AreInfosOf p hs) (sym same) (kept le) in
      let here : (n : SiteId) (h : Site) → SiteNumber p n h → slice_get hs n.0 ≡ Some h = λ n h (xs, is, at).
      subst (λ zs. slice_get zs n.0 ≡ Some h) (one_ordered SiteBefore (IsSiteOf p) xs hs (λ x y u v. site_asym x y) is ordered) at in
      let info : (n : SiteId) (h : Site) (x : SiteInfo) → SiteNumber p n h → slice_get sites n.0 ≡ Some x → IsInfoOf p h x = λ n h x number at. info_at p hs sites n.0 h x are (here n h number) at in (
        record {
          listed = (hs, ordered, infos_length p hs sites are);
          places = λ n h x number at. (info n h x number at).place;
          arrays = λ n h x number at. (info n h x number at).array;
          objects = λ n h x c number at. (info n h x number at).class c;
        },
        omega (arith, infos_length p hs sites are, count, le),
      )

-- a statement without an instruction has no sites
pub nothing_there : (classes : List ClassFile) (p : Program) (b : Body) (pc : ℕ) (old : Table) → IsOfClasses classes p → Contains p.bodies b → (IsInstrPc b.instrs pc → ⊥) → Adds p old old (IsMadeAt p (statement b pc))
nothing_there classes p b pc old of has none = adds_none p old (IsMadeAt p (statement b pc)) (λ h (k, u, e, typed).
    let (a, i, at) = instruction_of p (statement b pc) k u (subst (λ g. HasType p g u) e typed) in
    let same = one_body p of.read a b at.0 has at.1 in
    none (i, subst (λ (x : Body). Contains x.instrs i) same at.2, at.3))

pub if_ok : {T E : Type 0} {P Q : T → Type 0} (r : Result T E) → ((x : T) → P x → Q x) → IfOk r P → IfOk r Q
if_ok (Ok x) f h = f x h
if_ok (Err e) f h = tt

pub if_err : {T E : Type 0} {P Q : E → Type 0} (r : Result T E) → ((e : E) → P e → Q e) → IfErr r P → IfErr r Q
if_err (Ok x) f h = tt
if_err (Err e) f h = f e h

module _ (classes : List ClassFile) (bodies : List Body) where
  pub table_listed : HasBodies classes bodies → (table : Table) → ((p : Program) → IsOfClasses classes p → p.bodies ≡ bodies → IsWhole p table) → (sites : List SiteInfo) →
      sites ≡ table.infos.items → table.count ≤ 2 ^ 20 → IsTableOf classes bodies sites × (length sites ≤ 2 ^ 20)
  table_listed has table whole sites same le = (
    λ p of e. (sites_of p table sites (whole p of e) same le).0,
    let (p, of, e) = has in (sites_of p table sites (whole p of e) same le).1,
  )

  pub table_refused : (table : Table) → ((p : Program) → IsOfClasses classes p → p.bodies ≡ bodies → IsWhole p table) → (error : TooMany) → error ≡ Limit Sites table.count → 2 ^ 20 < table.count → IsTooMany classes bodies error
  table_refused table whole error is more =
      subst (IsTooMany classes bodies) (sym is) (refl, more, λ p of e. let (hs, ordered, count, kept) = whole p of e in (hs, ordered, count))
