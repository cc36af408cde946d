-- Tables of facts keep what facts keep.
use Rattle.std.proofs.Common.{◌≡◌, ◌⊎◌, ◌<◌, ◌+◌, ◌-◌, ℕ, suc, List, length, take, Option, Some, None, inl, inr, refl, sym, ap, subst, ◌∙◌, arith}
use Rattle.std.specs.Prelude.{slice_get, All}
use Rattle.std.specs.declared.cmp.Ordering.{Ordering}
use Rattle.std.specs.declared.cmp.Ordering.TheVariants.{Less, Equal, Greater}
use Rattle.std.specs.Ordering.{nat_cmp, ordering_then}
use Rattle.std.specs.Cmp.{nat_cmp_is}
use Rattle.std.specs.Cmp.Lexicographic.{slice_cmp}
use Rattle.std.proofs.Math.Logic.{∥∥₁_elim}
use Rattle.std.proofs.Props.{props}
use Rattle.std.proofs.lemmas.Cmp.{nat_list_cmp_total, tied_itself}
use Rattle.std.proofs.lemmas.List.{take_all}
use Rattle.std.proofs.lemmas.Option.{same_Some, slice_get_within}
use Rattle.std.proofs.lemmas.List.Elements.{All-contains}
use Rattle.slicer_ids.specs.Order.{BytesBefore}
use Rattle.slicer_ids.specs.declared.ids.MethodId.{MethodId}
use Rattle.slicer_ids.specs.declared.ids.ClassId.{ClassId}
use Rattle.slicer_ids.specs.declared.ids.NodeId.{NodeId}
use Rattle.slicer_ids.specs.declared.ids.SiteId.{SiteId}
use Rattle.slicer_ids.specs.declared.ids.Statement.{Statement}
use Rattle.class_form.specs.Classes.{Declared, IsMethod, class_name}
use Rattle.class_form.specs.Numbers.{MemberBefore, IsThere}
use Rattle.class_form.specs.declared.class_file.ClassFile.{ClassFile}
use Rattle.class_form.specs.declared.class_file.Member.{Member}
use Rattle.class_form.proofs.Indices.{index_at, there_at}
use Rattle.dep_form.specs.declared.node.Node.{Node as NodeNumber}
use Rattle.dep_form.specs.declared.access.Access.{Access}
use Rattle.dep_form.specs.declared.texts.MethodText.{MethodText}
use Rattle.dep_form.specs.declared.texts.SiteName.{SiteName}
use Rattle.dep_form.specs.declared.rules.Var.{Var}
use Rattle.dep_form.specs.declared.rules.SiteInfo.{SiteInfo}
use Rattle.dep_form.specs.declared.system.System.{System}
use Rattle.dep_form.specs.declared.effects.ModRef.{ModRef}
use Rattle.dep_form.specs.PointsTo.{Has}
use Rattle.dep_form.specs.Constraints.{SystemHolds}
use Rattle.dep_form.specs.Firsts.{node_count, nodes_in}
use Rattle.dep_form.specs.Inputs.{IsNode}
use Rattle.dep_form.specs.Keys.{key_of_text}
use Rattle.dep_form.specs.Orders.{MethodKey, RiseBy, method_cmp}
use Rattle.dep_form.specs.Within.{IfPlace}
use Rattle.dep_form.specs.WithinFacts.{AreFacts, IsOfMethod, IsOfSites, IfOfMethod}
use Rattle.dep_form.proofs.Firsts.{count_next, count_rises}
use Rattle.dep_form.proofs.Searching.{all_at}
use Rattle.dep_form.proofs.WithinSystem.{counts_of}
use Rattle.program_form.specs.Programs.{Program}
use Rattle.constraint_form.proofs.Instructions.{in_range}
use Rattle.fact_form.specs.ValueNumbers.{OperandSite, ValueSite}
use Rattle.fact_form.specs.ValueNumbers as number
use Rattle.fact_form.specs.FactTables.{RunsIn, Parts, AreFactTables, AreFewParts}
use Rattle.fact_form.proofs.ItemLists.{pair_at, pairs_of, all_of}
use Rattle.fact_form.proofs.Setting.{Setting}
use Rattle.fact_form.proofs.Fitting.{fit, one_caller}

-- ORDERS

then_first : (o r : Ordering) → o ≡ Less → ordering_then o r ≡ Less
then_first Less r e = refl
then_first Equal r e = absurd cc
then_first Greater r e = absurd cc

then_next : (o r : Ordering) → o ≡ Equal → r ≡ Less → ordering_then o r ≡ Less
then_next Equal r e f = f
then_next Less r e f = absurd cc
then_next Greater r e f = absurd cc

same_bytes : (a b : List ℕ) → a ≡ b → slice_cmp nat_cmp a b ≡ Equal
same_bytes a b e = subst (λ z. slice_cmp nat_cmp a z ≡ Equal) e (tied_itself nat_list_cmp_total a)

abbrev KeyBefore : MethodKey → MethodKey → Type 0
KeyBefore a b = (a.class.0 < b.class.0) ⊎ ((a.class.0 ≡ b.class.0) × (BytesBefore a.name b.name ⊎ ((a.name ≡ b.name) × BytesBefore a.descriptor b.descriptor)))

method_less : (a b : MethodKey) → KeyBefore a b → method_cmp a b ≡ Less
method_less a b (inl lt) = then_first (nat_cmp a.class.0 b.class.0) _ (sym (nat_cmp_is a.class.0 b.class.0 Less lt))
method_less a b (inr (e, inl names)) = then_next (nat_cmp a.class.0 b.class.0) _ (sym (nat_cmp_is a.class.0 b.class.0 Equal e)) (then_first (slice_cmp nat_cmp a.name b.name) _ names)
method_less a b (inr (e, inr (names, descriptors))) =
    then_next (nat_cmp a.class.0 b.class.0) _ (sym (nat_cmp_is a.class.0 b.class.0 Equal e))
    (then_next (slice_cmp nat_cmp a.name b.name) _ (same_bytes a.name b.name names) descriptors)

of_place : (n : ℕ) (o : Option Statement) → ((q : Statement) → o ≡ Some q → q.method.0 < n) → IfOfMethod n o
of_place n None f = tt
of_place n (Some q) f = f q refl

place_within : (s : System) (k : ℕ) (info : SiteInfo) → slice_get s.sites k ≡ Some info → (q : Statement) → info.place ≡ Some q → q.method.0 < length s.methods
place_within s k info at q e = ∥∥₁_elim s.within (hlevel props) (λ w. subst (λ z. IfPlace (counts_of s) z) e (all_at (λ (i : SiteInfo). IfPlace (counts_of s) i.place) s.sites w.3 k info at))

module _ (p : Program) (s : System) (mr : ModRef) (entries : List MethodId) (g : Setting p s mr entries) (t : Parts) (tables : AreFactTables p s mr entries t) where
  method_count : length t.methods ≡ length s.methods
  method_count = tables.methods.count ∙ sym g.tables.methods

  in_methods : (q : Statement) → RunsIn p s q (λ op. Unit {0}) → IsOfMethod (length t.methods) q
  in_methods q run = omega (arith, in_range p g.asked q _ run.1, tables.methods.count)

  -- CLASSES AND METHODS

  name_is : (i : ℕ) (x : List ℕ) (c : ClassFile) (u : List ℕ) → slice_get t.classes i ≡ Some x → slice_get p.classes i ≡ Some c → class_name c ≡ Some u → u ≡ x
  name_is i x c u ex ec eu =
      let n = tables.classes.each i c ec in
      same_Some u n.0 (sym eu ∙ n.1) ∙ same_Some n.0 x (sym n.2 ∙ ex)

  classes_rise : RiseBy (slice_cmp nat_cmp) (λ name. name) t.classes
  classes_rise = pairs_of (λ (a b : List ℕ). slice_cmp nat_cmp a b ≡ Less) t.classes by_place
    where
      by_place : (i j : ℕ) (x y : List ℕ) → i < j → slice_get t.classes i ≡ Some x → slice_get t.classes j ≡ Some y → slice_cmp nat_cmp x y ≡ Less
      by_place i j x y lt ex ey =
          let c = index_at p.classes i (omega (arith, slice_get_within t.classes i x ex, tables.classes.count)) in
          let d = index_at p.classes j (omega (arith, slice_get_within t.classes j y ey, tables.classes.count)) in
          let (u, v, eu, ev, before) = pair_at (λ (a b : ClassFile). (x : List ℕ) × (y : List ℕ) × (class_name a ≡ Some x) × (class_name b ≡ Some y) × BytesBefore x y) p.classes g.asked.classes i j c.0 d.0 lt c.1 d.1 in
          subst (λ z. slice_cmp nat_cmp z y ≡ Less) (name_is i x c.0 u ex c.1 eu) (subst (λ z. slice_cmp nat_cmp u z ≡ Less) (name_is j y d.0 v ey d.1 ev) before)

  declared_at : (i : ℕ) (x : MethodText) → slice_get t.methods i ≡ Some x → (d : Declared) × (slice_get p.methods i ≡ Some d)
  declared_at i x ex = index_at p.methods i (omega (arith, slice_get_within t.methods i x ex, tables.methods.count))

  text_is : (i : ℕ) (x : MethodText) (d : Declared) (m : Member) (name descriptor : List ℕ) → slice_get t.methods i ≡ Some x → slice_get p.methods i ≡ Some d → IsMethod p.classes d m name descriptor
      → (x.class.0 ≡ d.class) × (x.name ≡ name) × (x.descriptor ≡ descriptor)
  text_is i x d m name descriptor ex ed is =
      let w = tables.methods.texts (record { 0 = i }) d m name descriptor (ed, is) in
      let same : w.0 ≡ x = same_Some w.0 x (sym w.1 ∙ ex) in
      (subst (λ (z : MethodText). z.class.0 ≡ d.class) same w.2, subst (λ (z : MethodText). z.name ≡ name) same w.3, subst (λ (z : MethodText). z.descriptor ≡ descriptor) same w.4)

  methods_rise : RiseBy method_cmp key_of_text t.methods
  methods_rise = pairs_of (λ (a b : MethodText). method_cmp (key_of_text a) (key_of_text b) ≡ Less) t.methods by_place
    where
      by_place : (i j : ℕ) (x y : MethodText) → i < j → slice_get t.methods i ≡ Some x → slice_get t.methods j ≡ Some y → method_cmp (key_of_text x) (key_of_text y) ≡ Less
      by_place i j x y lt ex ey =
          let d = declared_at i x ex in
          let e = declared_at j y ey in
          let (m, n, ds, k, o, es, is, has, order) = pair_at (MemberBefore (IsMethod p.classes)) p.methods g.coded.methods.order i j d.0 e.0 lt d.1 e.1 in
          let a = text_is i x d.0 m n ds ex d.1 is in
          let b = text_is j y e.0 k o es ey e.1 has in
          method_less (key_of_text x) (key_of_text y) (by_order d.0 e.0 n o ds es a b order)
        where
          by_order : (d e : Declared) (n o ds es : List ℕ) → (x.class.0 ≡ d.class) × (x.name ≡ n) × (x.descriptor ≡ ds) → (y.class.0 ≡ e.class) × (y.name ≡ o) × (y.descriptor ≡ es)
              → (d.class < e.class) ⊎ ((d.class ≡ e.class) × (BytesBefore n o ⊎ ((n ≡ o) × BytesBefore ds es))) → KeyBefore (key_of_text x) (key_of_text y)
          by_order d e n o ds es a b (inl lt) = inl (omega (arith, lt, a.0, b.0))
          by_order d e n o ds es a b (inr (same, inl names)) =
              inr (a.0 ∙ same ∙ sym b.0, inl (subst (λ z. BytesBefore z y.name) (sym a.1) (subst (λ z. BytesBefore n z) (sym b.1) names)))
          by_order d e n o ds es a b (inr (same, inr (names, descriptors))) =
              inr (a.0 ∙ same ∙ sym b.0, inr (a.1 ∙ names ∙ sym b.1, subst (λ z. BytesBefore z y.descriptor) (sym a.2) (subst (λ z. BytesBefore ds z) (sym b.2) descriptors)))

  method_classes : All (λ (x : MethodText). x.class.0 < length t.classes) t.methods
  method_classes = all_of (λ (x : MethodText). x.class.0 < length t.classes) t.methods by_place
    where
      by_place : (i : ℕ) (x : MethodText) → slice_get t.methods i ≡ Some x → x.class.0 < length t.classes
      by_place i x ex =
          let d = declared_at i x ex in
          let (m, n, ds, is) = All-contains (IsThere (IsMethod p.classes)) p.methods d.0 g.coded.methods.each (there_at p.methods i d.0 d.1) in
          let a = text_is i x d.0 m n ds ex d.1 is in
          omega (arith, a.0, slice_get_within p.classes d.0.class is.0 is.1, tables.classes.count)

  -- SITES AND LINES

  site_places : All (λ (x : SiteName). IfOfMethod (length t.methods) x.place) t.sites
  site_places = all_of (λ (x : SiteName). IfOfMethod (length t.methods) x.place) t.sites by_place
    where
      by_place : (i : ℕ) (x : SiteName) → slice_get t.sites i ≡ Some x → IfOfMethod (length t.methods) x.place
      by_place i x ex =
          let info = index_at s.sites i (omega (arith, slice_get_within t.sites i x ex, tables.sites.count)) in
          let same = tables.sites.places (record { 0 = i }) x info.0 ex info.1 in
          of_place (length t.methods) x.place (λ q e. omega (arith, place_within s i info.0 info.1 q (sym same.0 ∙ e), method_count))

  abbrev Row : Type 0
  Row = ClassId × ℕ × List Statement

  line_classes : All (λ (x : Row). x.0.0 < length t.classes) t.lines
  line_classes = all_of (λ (x : Row). x.0.0 < length t.classes) t.lines (λ i x ex. omega (arith, tables.lines.classes x.0 x.1 x.2 (there_at t.lines i x ex), tables.classes.count))

  line_statements : All (λ (x : Row). All (IsOfMethod (length t.methods)) x.2) t.lines
  line_statements = all_of (λ (x : Row). All (IsOfMethod (length t.methods)) x.2) t.lines (λ i x ex. λ k d lt. in_methods _ ((tables.lines.each x.0 x.1 x.2 (there_at t.lines i x ex)).each k d lt).0)

  -- ACCESSES AND VALUES

  node_below : (n : NodeId) (m : MethodId) (k : NodeNumber) → IsNode t.inputs n m k → n.0 < node_count t.inputs
  node_below n m k (i, is, of) =
      let size : nodes_in (Some i) ≡ length i.nodes = refl in
      let whole : node_count (take (length t.inputs) t.inputs) ≡ node_count t.inputs = ap node_count (take_all (length t.inputs) t.inputs (omega arith)) in
      let rises = count_rises t.inputs (m.0 + 1) (length t.inputs) (omega (arith, slice_get_within t.inputs m.0 (Some i) is)) in
      omega (arith, (tables.inputs.follow_on m.0 i is).1, count_next t.inputs m.0 (Some i) is, size, whole, rises, of.0, slice_get_within i.nodes (n.0 - i.first.0) k of.1)

  site_below : (x : Var) (h : SiteId) → SystemHolds s (Has x h) → IsOfSites (length t.sites) h
  site_below x h holds = let n = g.tie.sites_named x h holds in omega (arith, (g.tie.sites h).1 n, tables.sites.count)

  operand_below : (q : Statement) (i : ℕ) (h : SiteId) → OperandSite p s q i h → IsOfSites (length t.sites) h
  operand_below q i h (d, x, is, variable, holds) = site_below x h holds

  value_below : (q : Statement) (h : SiteId) → ValueSite p s q h → IsOfSites (length t.sites) h
  value_below q h (number.made {x} op variable holds) = site_below x h holds
  value_below q h (number.passed_on {i} op site) = operand_below q i h site
  value_below q h (number.given c is lt (a, at, holds)) = site_below a h holds
  value_below q h (number.thrown c {k} is holds) = site_below k.exception h holds

  abbrev Accessing : Type 0
  Accessing = Statement × Access

  abbrev Valued : Type 0
  Valued = Statement × List SiteId

  access_runs : (i : ℕ) (x : Accessing) → slice_get t.accesses i ≡ Some x → IsOfMethod (length t.methods) x.0
  access_runs i x ex =
      let run = (tables.accesses.listed x.0).0 (x.1, there_at t.accesses i x ex) in
      omega (arith, in_range p g.asked x.0 _ run.1, tables.methods.count)

  pub kept : AreFewParts t → AreFacts t.inputs t.exits t.classes t.methods t.sites t.lines t.accesses t.values
  kept few = record {
    root = tables.inputs.methods ∙ ap suc (sym method_count);
    with_root = (tables.inputs.whole (record { 0 = length t.methods })).1 (inr method_count);
    follow_on = tables.inputs.follow_on;
    few = few.nodes;
    few_methods = few.methods;
    few_exits = few.exits;
    few_classes = few.classes;
    all_exits = tables.exits;
    fit = λ e is. fit p s mr entries g t.inputs tables.inputs t.accesses tables.accesses e is;
    one_caller = λ c e h a b x y first second. one_caller p s mr entries g t.inputs tables.inputs c e h a b x y first second;
    classes_rise = classes_rise;
    methods_rise = methods_rise;
    lines_rise = tables.lines.order;
    accesses_rise = tables.accesses.order;
    values_rise = tables.values.order;
    method_classes = method_classes;
    site_places = site_places;
    line_classes = line_classes;
    line_statements = line_statements;
    access_places = all_of (λ (x : Accessing). IsOfMethod (length t.methods) x.0) t.accesses access_runs;
    access_nodes = all_of (λ (x : Accessing). All (λ (n : NodeId). n.0 < node_count t.inputs) x.1.object) t.accesses (λ i x ex. λ k d lt.
        let n = (tables.accesses.objects x.0 x.1 (there_at t.accesses i x ex)).each k d lt in
        node_below _ x.0.method n.1 n.4);
    access_sites = all_of (λ (x : Accessing). All (IsOfSites (length t.sites)) x.1.sites) t.accesses (λ i x ex. λ k d lt. operand_below x.0 0 _ ((tables.accesses.sites x.0 x.1 (there_at t.accesses i x ex)).each k d lt));
    value_places = all_of (λ (x : Valued). IsOfMethod (length t.methods) x.0) t.values (λ i x ex. in_methods x.0 (tables.values.each x.0 x.1 (there_at t.values i x ex)).0);
    value_sites = all_of (λ (x : Valued). All (IsOfSites (length t.sites)) x.1) t.values (λ i x ex. λ k d lt. value_below x.0 _ ((tables.values.each x.0 x.1 (there_at t.values i x ex)).1.each k d lt));
  }
