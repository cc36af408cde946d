-- Tables of facts are the facts of the program.
use Rattle.std.proofs.Common.{◌≡◌, ◌⊎◌, ◌<◌, ◌+◌, ℕ, suc, ◌-◌, List, [], length, Contains, Option, Some, inl, inr, refl, sym, ap, subst, ◌∙◌, arith}
use Rattle.std.specs.Prelude.{slice_get, sum_by, Bool}
use Rattle.std.proofs.lemmas.List.Elements.{All-contains}
use Rattle.slicer_ids.specs.Sets.{IsOrderedListOf, IsListOf}
use Rattle.slicer_ids.specs.Order.{StatementBefore}
use Rattle.slicer_ids.specs.declared.ids.MethodId.{MethodId}
use Rattle.slicer_ids.specs.declared.ids.ClassId.{ClassId}
use Rattle.slicer_ids.specs.declared.ids.LocId.{LocId}
use Rattle.slicer_ids.specs.declared.ids.NodeId.{NodeId}
use Rattle.slicer_ids.specs.declared.ids.SiteId.{SiteId}
use Rattle.slicer_ids.specs.declared.ids.Statement.{Statement}
use Rattle.class_form.specs.declared.class_file.ClassFile.{ClassFile}
use Rattle.class_form.proofs.Indices.{index_in, index_at, there_at}
use Rattle.dep_form.specs.declared.node.Node.{Node as NodeNumber}
use Rattle.dep_form.specs.declared.input.MethodInput.{MethodInput}
use Rattle.dep_form.specs.declared.texts.SiteName.{SiteName}
use Rattle.dep_form.specs.declared.system.System.{System}
use Rattle.dep_form.specs.declared.effects.ModRef.{ModRef}
use Rattle.dep_form.specs.declared.facts.Facts.{Facts}
use Rattle.dep_form.specs.Inputs.{IsInputOf, IsNode as IsNodeNumber}
use Rattle.dep_form.specs.LookUps.{AreAtLine}
use Rattle.dep_form.specs.WithinFacts.{AreFacts}
use Rattle.program_form.specs.Programs.{Program, IsRoot, ClassOf}
use Rattle.program_form.specs.Sites.{Site, StandsAt}
use Rattle.program_form.specs.Effects.{Location, IsTraced, IsReached, IsStatement}
use Rattle.program_form.specs.Nodes.{Kind, Node, node, IsNode}
use Rattle.program_form.specs.Graphs.{Numbering, KindNumber, NumberOf, IsSiteName, AreFactsOf}
use Rattle.program_form.specs.Lines.{IsLineOf}
use Rattle.program_form.specs.Systems.{SiteNumber, VariableNumber, IsSystemOf}
use Rattle.program_form.specs.Facts.{Variable, IsStaticVariable}
use Rattle.dep_form.specs.declared.rules.Var.{Var}
use Rattle.dep_form.specs.declared.rules.Spot.TheVariants.{Static}
use Rattle.dep_form.specs.Effects.{IsModRefOf}
use Rattle.constraint_form.specs.Asked.{IsReadProgram}
use Rattle.constraint_form.specs.ConstraintSystems.{IsConstraintSystem}
use Rattle.program_code.specs.Codes.{IsProgramOfCode}
use Rattle.program_code.specs.Locations.{AreStaticsNamed}
use Rattle.fact_form.specs.NodeNumbers.{IsNumbered}
use Rattle.fact_form.specs.FactTables.{RunsIn, IsAtLine, Parts, parts_of, AreFactTables, AreFewParts, AreNodeRows, words_in, IsFactSystem}
use Rattle.fact_form.specs.FactLimits.{IsMemoSize}
use Rattle.fact_form.specs.EntryCalls.{AreEntryCalls}
use Rattle.fact_form.proofs.Keeping.{kept}
use Rattle.fact_form.proofs.Counting.{counted}
use Rattle.fact_form.proofs.Words.{words_counted}
use Rattle.dep_form.specs.Summaries.{HasSize}
use Rattle.fact_form.proofs.ItemLists.{listed_as, apart, all_of}
use Rattle.fact_form.proofs.Setting.{Setting, IsNumberingOf, numbering, number_of, one_loc, traced_back}
use Rattle.fact_form.proofs.CallNumbers.{calls_apart}
use Rattle.fact_form.proofs.NodesAgree.{reach, unreach, node_there, node_back, runs_or_root}
use Rattle.fact_form.proofs.Edges.{edge_there, edge_back, full_there, full_back, labelled, labels}
use Rattle.fact_form.proofs.Values.{values_agree, valued, accesses_agree, objects_agree, sites_agree}

module _ (p : Program) (s : System) (mr : ModRef) (entries : List MethodId) (g : Setting p s mr entries) (ns : Numbering) (numbers : IsNumberingOf p s mr entries ns) (f : Facts) (tables : AreFactTables p s mr entries (parts_of f)) where
  -- LOCATIONS

  location_traced : (l : Location) → Contains ns.locations l → IsTraced p l
  location_traced l c = let i = index_in ns.locations l c in traced_back p s mr entries g ns numbers (record { 0 = i.0 }) l i.1

  locations : IsListOf ns.locations (IsTraced p)
  locations = record {
    each = all_of (IsTraced p) ns.locations (λ i l e. location_traced l (there_at ns.locations i l e));
    once = apart ns.locations (λ i j l e h. ap (λ (n : LocId). n.0) (one_loc p s mr entries g ns numbers (record { 0 = i }) (record { 0 = j }) l e h));
    whole = λ l h. let n = number_of p s mr entries g ns numbers l h in there_at ns.locations n.0.0 l n.1;
  }

  -- METHODS AND NODES

  input_there : (m : MethodId) → (i : MethodInput) × IsInputOf f.inputs m i → IsReached p m ⊎ IsRoot p m
  input_there m i = elim ((tables.inputs.whole m).0 i) [ inl reached ↦ inl (unreach p s mr entries g ns numbers m reached) | inr root ↦ inr (root ∙ g.tables.methods) ]

  input_back : (m : MethodId) → IsReached p m ⊎ IsRoot p m → (i : MethodInput) × IsInputOf f.inputs m i
  input_back m (inl reached) = (tables.inputs.whole m).1 (inl (reach p s mr entries g ns numbers m reached))
  input_back m (inr root) = (tables.inputs.whole m).1 (inr (root ∙ sym g.tables.methods))

  number_in : (m : MethodId) (i : MethodInput) → IsInputOf f.inputs m i → (k : NodeNumber) → Contains i.nodes k → (n : NodeId) × IsNodeNumber f.inputs n m k
  number_in m i is k c =
      let at = index_in i.nodes k c in
      let place : at.0 ≡ i.first.0 + at.0 - i.first.0 = omega arith in
      (record { 0 = i.first.0 + at.0 }, (i, is, (omega arith, subst (λ z. slice_get i.nodes z ≡ Some k) place at.1)))

  numbered : (a : Node) → IsNode p a → (n : NodeId) × NumberOf ns f a n
  numbered a is =
      let k = node_there p s mr entries g ns numbers a is in
      let i = of_node a.method (k.0) k.2 in
      let n = number_in a.method i.0 i.1 k.0 ((tables.inputs.each a.method i.0 i.1).nodes.whole k.0 k.2) in
      (n.0, (k.0, n.1, k.1))
    where
      of_node : (m : MethodId) (k : NodeNumber) → IsNumbered p s mr entries m k → (i : MethodInput) × IsInputOf f.inputs m i
      of_node m k is = (tables.inputs.whole m).1 (runs_or_root p s mr entries g ns numbers m k is)

  named : (n : NodeId) (m : MethodId) (k : NodeNumber) → IsNodeNumber f.inputs n m k → (c : Kind) × KindNumber ns c k × IsNode p (node m c)
  named n m k (i, is, of) =
      let each = (tables.inputs.each m i is).nodes.each in
      node_back p s mr entries g ns numbers m k (All-contains (IsNumbered p s mr entries m) i.nodes k each (there_at i.nodes _ k of.1))

  -- TEXTS

  runs_there : (t : Statement) → IsStatement p t → RunsIn p s t (λ op. Unit {0})
  runs_there t h = (reach p s mr entries g ns numbers t.method h.0, h.1)

  runs_back : (t : Statement) → RunsIn p s t (λ op. Unit {0}) → IsStatement p t
  runs_back t h = (unreach p s mr entries g ns numbers t.method h.0, h.1)

  abbrev IsThere : ClassId → ℕ → Statement → Type 0
  IsThere c line t = IsStatement p t × IsLineOf p t (Some line) × ((k : ClassFile) × ClassOf p t.method c.0 k)

  -- where nothing is listed, nothing stands
  none_there : (c : ClassId) (line : ℕ) → ((k : ℕ) (x : ClassId × ℕ × List Statement) → slice_get f.lines k ≡ Some x → x.0 ≡ c → x.1 ≡ line → ⊥) → (t : Statement) → IsThere c line t → ⊥
  none_there c line none t h =
      let row = tables.lines.whole c line t (runs_there t h.0, h.1, h.2) in
      let at = index_in f.lines (c, line, row.0) row.1 in
      none at.0 (c, line, row.0) at.1 refl refl

  at_lines : (c : ClassId) (line : ℕ) (ts : List Statement) → AreAtLine f c line ts → IsOrderedListOf StatementBefore ts (IsThere c line)
  at_lines c line ts (inl (k, x, at, class, number, same)) =
      let row : Contains f.lines (c, line, ts) = subst (λ (z : ClassId × ℕ × List Statement). Contains f.lines z) (triple x.0 c x.1 line x.2 ts class number same) (there_at f.lines k x at) in
      listed_as StatementBefore (IsAtLine p s c line) (IsThere c line) ts (λ t h. (runs_back t h.0, h.1, h.2)) (λ t h. (runs_there t h.0, h.1, h.2)) (tables.lines.each c line ts row)
    where
      triple : (a b : ClassId) (i j : ℕ) (xs ys : List Statement) → a ≡ b → i ≡ j → xs ≡ ys → (let z : ClassId × ℕ × List Statement = (a, i, xs) in z) ≡ (b, j, ys)
      triple a b i j xs ys e d h = rw (e, d, h) refl
  at_lines c line ts (inr (empty, none)) =
      let nothing : IsOrderedListOf StatementBefore [] (IsThere c line) = record {
        each = λ k d lt. absurd (omega (arith, lt));
        order = λ i j d lt within. absurd (omega (arith, lt, within));
        whole = λ t h. absurd (none_there c line none t h);
      } in
      subst (λ zs. IsOrderedListOf StatementBefore zs (IsThere c line)) (sym empty) nothing

  -- SITES

  site_there : (n : SiteId) → n.0 < length f.sites → (h : Site) × SiteNumber p n h
  site_there n lt = (g.tie.sites n).0 (omega (arith, lt, tables.sites.count))

  site_back : (n : SiteId) → (h : Site) × SiteNumber p n h → n.0 < length f.sites
  site_back n h = omega (arith, (g.tie.sites n).1 h, tables.sites.count)

  stands : (h : Site) (place : Option Statement) (k : ℕ) (q : Option Statement) (j : ℕ) → place ≡ q → k ≡ j → StandsAt h q j → StandsAt h place k
  stands h place k q j e d at = subst (λ z. StandsAt h z k) (sym e) (subst (λ z. StandsAt h q z) (sym d) at)

  site_name : (h : Site) (n : SiteId) (x : SiteName) → SiteNumber p n h → slice_get f.sites n.0 ≡ Some x → IsSiteName p h x
  site_name h n x number is =
      let info = index_at s.sites n.0 ((g.tie.sites n).1 (h, number)) in
      let place = tables.sites.places n x info.0 is info.1 in
      let text = tables.sites.texts n x h is number in
      ((text.0, text.1, text.2), stands h x.place x.k info.0.place info.0.k place.0 place.1 (g.tie.places n h info.0 number info.1))

  pub facts_of_program : AreFactsOf p ns f
  facts_of_program = record {
    locations = locations;
    methods = tables.inputs.methods ∙ ap suc g.tables.methods;
    inputs = λ m. (input_there m, input_back m);
    order = λ m i is. (tables.inputs.each m i is).nodes.order;
    numbered = numbered;
    named = named;
    edges = λ a b d x y l ha h number. (edge_there p s mr entries g ns numbers f tables.inputs a b d x y l ha h number, edge_back p s mr entries g ns numbers f tables.inputs a b d x y l ha h number);
    full_edges = λ a b d x y l ha h number. (full_there p s mr entries g ns numbers f tables.inputs a b d x y l ha h number, full_back p s mr entries g ns numbers f tables.inputs a b d x y l ha h number);
    labelled = λ a b d h. labelled p s mr entries g ns numbers a b d h;
    labels = λ e is. labels p s mr entries g ns numbers f tables.inputs e is;
    calls = calls_apart p s mr entries g ns numbers;
    accesses = λ t. accesses_agree p s mr entries g ns numbers f tables.inputs tables.accesses t;
    objects = λ t a c. objects_agree p s mr entries g ns numbers f tables.inputs tables.accesses t a c;
    object_sites = λ t a c. sites_agree p s mr entries g ns numbers f tables.inputs tables.accesses t a c;
    values = λ t hs c. values_agree p s mr entries g ns numbers f.values tables.values t hs c;
    valued = λ t h may. valued p s mr entries g ns numbers f.values tables.values t h may;
    class_count = tables.classes.count;
    classes = tables.classes.each;
    texts = tables.methods.texts;
    statements = λ t. (λ h. (tables.methods.statements t).0 (runs_there t h), λ h. runs_back t ((tables.methods.statements t).1 h));
    lines = λ t line h. tables.methods.lines t line (runs_there t h);
    at_lines = at_lines;
    sites = λ n. (site_there n, site_back n);
    site_names = site_name;
  }

-- a static variable that a statement touches is one that the statement names
abbrev pub AreSpotsNamed : Program → System → Type 0
AreSpotsNamed p s = (t : Statement) (write : Bool) (x : Var) → Contains s.touches (record { place = t; write = write; spot = Static x }) → (v : Variable) × VariableNumber p s v x × IsStaticVariable p t v

statics_of : (p : Program) (s : System) → AreSpotsNamed p s → AreStaticsNamed p s
statics_of p s named t x c e =
    let here : Contains s.touches (record { place = t.place; write = t.write; spot = Static x }) = subst (λ z. Contains s.touches (record { place = t.place; write = t.write; spot = z })) e c in
    let v = named t.place t.write x here in
    (v.0, v.1)

setting : (p : Program) (s : System) (mr : ModRef) (entries : List MethodId) → IsReadProgram p → IsProgramOfCode p → IsConstraintSystem p s → IsSystemOf p s → AreSpotsNamed p s → IsModRefOf s mr → AreEntryCalls p s entries
    → Setting p s mr entries
setting p s mr entries asked coded system tie named effects entered =
    record { asked = asked; coded = coded; names = system.0; tables = system.1; tie = tie; statics = statics_of p s named; effects = effects; entered = entered }

pub whole : (p : Program) (s : System) (mr : ModRef) (f : Facts) → IsReadProgram p → IsProgramOfCode p → IsConstraintSystem p s → IsSystemOf p s → AreSpotsNamed p s → IsModRefOf s mr → IsFactSystem p s mr f → (ns : Numbering) × AreFactsOf p ns f
whole p s mr f asked coded system tie named effects (entries, tables) =
    let g = setting p s mr entries asked coded system tie named effects tables.entry_calls in
    let n = numbering p s mr entries g in
    (n.0, facts_of_program p s mr entries g n.0 n.1 f tables)

pub keeps : (p : Program) (s : System) (mr : ModRef) (entries : List MethodId) (t : Parts) → IsReadProgram p → IsProgramOfCode p → IsConstraintSystem p s → IsSystemOf p s → AreSpotsNamed p s → IsModRefOf s mr
    → AreFactTables p s mr entries t → AreFewParts t → AreFacts t.inputs t.exits t.classes t.methods t.sites t.lines t.accesses t.values
keeps p s mr entries t asked coded system tie named effects tables few =
    let g = setting p s mr entries asked coded system tie named effects tables.entry_calls in
    kept p s mr entries g t tables few

pub counts : (p : Program) (s : System) (mr : ModRef) (entries : List MethodId) (rows : List (List NodeNumber)) → IsReadProgram p → IsProgramOfCode p → IsConstraintSystem p s → IsSystemOf p s → AreSpotsNamed p s → IsModRefOf s mr
    → AreEntryCalls p s entries → AreNodeRows p s mr entries rows → HasSize (IsNode p) (sum_by length rows)
counts p s mr entries rows asked coded system tie named effects entered are =
    let g = setting p s mr entries asked coded system tie named effects entered in
    let n = numbering p s mr entries g in
    counted p s mr entries g n.0 n.1 rows are

pub words : (p : Program) (s : System) (mr : ModRef) (entries : List MethodId) (rows : List (List NodeNumber)) → IsReadProgram p → IsProgramOfCode p → IsConstraintSystem p s → IsSystemOf p s → AreSpotsNamed p s → IsModRefOf s mr
    → AreEntryCalls p s entries → AreNodeRows p s mr entries rows → IsMemoSize p (sum_by words_in rows)
words p s mr entries rows asked coded system tie named effects entered are =
    let g = setting p s mr entries asked coded system tie named effects entered in
    let n = numbering p s mr entries g in
    words_counted p s mr entries g n.0 n.1 rows are
