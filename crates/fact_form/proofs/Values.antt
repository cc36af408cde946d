-- What accesses reach through, and what the values of statements may be.
use Rattle.std.proofs.Common.{ℕ, List, Contains, sym, subst}
use Rattle.slicer_ids.specs.Sets.{IsOrderedListOf}
use Rattle.slicer_ids.specs.Order.{SiteBefore}
use Rattle.slicer_ids.specs.declared.ids.MethodId.{MethodId}
use Rattle.slicer_ids.specs.declared.ids.NodeId.{NodeId}
use Rattle.slicer_ids.specs.declared.ids.SiteId.{SiteId}
use Rattle.slicer_ids.specs.declared.ids.Statement.{Statement}
use Rattle.std.proofs.lemmas.List.Elements.{All-contains}
use Rattle.class_form.specs.Opcodes.{IsCall}
use Rattle.class_form.specs.declared.body.Def.{Def}
use Rattle.class_form.proofs.Indices.{there_at}
use Rattle.dep_form.specs.declared.node.Node.{Node as NodeNumber}
use Rattle.dep_form.specs.declared.access.Access.{Access}
use Rattle.dep_form.specs.declared.rules.Var.{Var}
use Rattle.dep_form.specs.declared.system.System.{System}
use Rattle.dep_form.specs.declared.effects.ModRef.{ModRef}
use Rattle.dep_form.specs.declared.facts.Facts.{Facts}
use Rattle.dep_form.specs.PointsTo.{Has}
use Rattle.dep_form.specs.Constraints.{SystemFact, SystemHolds}
use Rattle.dep_form.specs.Inputs.{IsNode as IsNodeNumber}
use Rattle.dep_form.specs.WithinFacts.{NodeBefore}
use Rattle.program_form.specs.Programs.{Program}
use Rattle.program_form.specs.Statements.{OperandIs}
use Rattle.program_form.specs.Sites.{Site}
use Rattle.program_form.specs.Facts.{Variable, ValueOf, ExceptionOf, variable_of, Holds}
use Rattle.program_form.specs.Effects.{IsReached, IsStatement, OperandMayBe}
use Rattle.program_form.specs.Nodes.{node}
use Rattle.program_form.specs.Graphs.{Numbering, IsProducerNumber, IsNumberOfSome}
use Rattle.program_form.specs.Systems.{SiteNumber, VariableNumber, Counterpart, has, of_exception}
use Rattle.program_form.specs.Values.{ValueMayBe, PassesOn, IsAccess}
use Rattle.program_form.specs.Values as value
use Rattle.constraint_form.proofs.SiteNumbers.{one_site_number}
use Rattle.fact_form.specs.NodeNumbers.{IsNumbered}
use Rattle.fact_form.specs.EdgeNumbers.{IsDefinitionNumber}
use Rattle.fact_form.specs.ValueNumbers.{OperandSite, ValueSite}
use Rattle.fact_form.specs.ValueNumbers as number
use Rattle.fact_form.specs.FactTables.{AreInputs, AreAccesses, AreValues}
use Rattle.fact_form.proofs.ItemLists.{listed_as}
use Rattle.fact_form.proofs.Setting.{Setting, IsNumberingOf}
use Rattle.fact_form.proofs.Touching.{any}
use Rattle.fact_form.proofs.NodesAgree.{reach, unreach, call_of, is_call, argument_there, argument_back, exception_back, node_back}
use Rattle.fact_form.proofs.Edges.{definition_there, definition_back}

-- the number of what a variable may be
by_counterpart : (p : Program) (s : System) (v : Variable) (h : Site) (f : SystemFact) → Counterpart p s (Has v h) f → SystemHolds s f → (x : Var) × (n : SiteId) × VariableNumber p s v x × SiteNumber p n h × SystemHolds s (Has x n)
by_counterpart p s v h f (has {x} {n} variable site) holds = (x, n, variable, site, holds)

module _ (p : Program) (s : System) (mr : ModRef) (entries : List MethodId) (g : Setting p s mr entries) (ns : Numbering) (numbers : IsNumberingOf p s mr entries ns) where
  has_there : (v : Variable) (h : Site) → Holds p (Has v h) → (x : Var) × (n : SiteId) × VariableNumber p s v x × SiteNumber p n h × SystemHolds s (Has x n)
  has_there v h holds =
      let f = g.tie.numbered (Has v h) holds in
      by_counterpart p s v h f.0 f.1 ((g.tie.facts (Has v h) f.0 f.1).0 holds)

  has_back : (v : Variable) (x : Var) (n : SiteId) → VariableNumber p s v x → SystemHolds s (Has x n) → (h : Site) × SiteNumber p n h × Holds p (Has v h)
  has_back v x n variable holds =
      let h = g.tie.sites_named x n holds in
      (h.0, h.1, (g.tie.facts (Has v h.0) (Has x n) (has variable h.1)).1 holds)

  -- OPERANDS

  operand_number : (t : Statement) (i : ℕ) (h : Site) → OperandMayBe p t i h → (n : SiteId) × SiteNumber p n h × OperandSite p s t i n
  operand_number t i h (d, is, holds) =
      let x = has_there (variable_of t.method d) h holds in
      (x.1, x.3, (d, x.0, is, x.2, x.4))

  operand_back : (t : Statement) (i : ℕ) (n : SiteId) → OperandSite p s t i n → (h : Site) × SiteNumber p n h × OperandMayBe p t i h
  operand_back t i n (d, x, is, variable, holds) =
      let h = has_back (variable_of t.method d) x n variable holds in
      (h.0, h.1, (d, is, h.2))

  operand_there : (t : Statement) (i : ℕ) (n : SiteId) → IsNumberOfSome p (OperandMayBe p t i) n → OperandSite p s t i n
  operand_there t i n (h, number, may) =
      let x = operand_number t i h may in
      subst (λ (z : SiteId). OperandSite p s t i z) (one_site_number p x.0 n h x.1 number) x.2

  -- VALUES

  pub value_number : (t : Statement) (h : Site) → ValueMayBe p t h → (n : SiteId) × SiteNumber p n h × IsStatement p t × ValueSite p s t n
  value_number t h (value.made st holds) =
      let x = has_there (ValueOf t) h holds in
      (x.1, x.3, st, number.made st.1 x.2 x.4)
  value_number t h (value.passed_on {n = i} st may) =
      let x = operand_number t i h may in
      (x.0, x.1, any p t (PassesOn i) st, number.passed_on st.1 x.2)
  value_number t h (value.given {i} st has_argument may) =
      let x = operand_number t i h may in
      let c = call_of p s mr entries g ns numbers t st.1 in
      let argument = (g.tie.arguments t c.0 c.1 i x.0 h c.2 x.1).0 may in
      (x.0, x.1, any p t IsCall st, number.given c.0 c.2 (argument_there p s mr entries g ns numbers t i c.0 c.1 c.2 has_argument) argument)
  value_number t h (value.thrown st holds) =
      let x = has_there (ExceptionOf t) h holds in
      by_thrown x.0 x.1 x.2 x.3 x.4
    where
      by_thrown : (x : Var) (n : SiteId) → VariableNumber p s (ExceptionOf t) x → SiteNumber p n h → SystemHolds s (Has x n) → (n : SiteId) × SiteNumber p n h × IsStatement p t × ValueSite p s t n
      by_thrown x n (of_exception c {k} is place e) site may =
          (n, site, any p t IsCall st, number.thrown c (is, place) (subst (λ (z : Var). SystemHolds s (Has z n)) (sym e) may))

  value_there : (t : Statement) (n : SiteId) → IsNumberOfSome p (ValueMayBe p t) n → ValueSite p s t n
  value_there t n (h, number, may) =
      let x = value_number t h may in
      subst (λ (z : SiteId). ValueSite p s t z) (one_site_number p x.0 n h x.1 number) x.3

  value_back : (t : Statement) (n : SiteId) → IsReached p t.method → ValueSite p s t n → IsNumberOfSome p (ValueMayBe p t) n
  value_back t n reached (number.made {x} op variable holds) =
      let h = has_back (ValueOf t) x n variable holds in
      (h.0, h.1, value.made (reached, op) h.2)
  value_back t n reached (number.passed_on {i} op site) =
      let h = operand_back t i n site in
      (h.0, h.1, value.passed_on (reached, op) h.2)
  value_back t n reached (number.given {i} c {k} is lt (a, at, holds)) =
      let h = g.tie.sites_named a n holds in
      let may = (g.tie.arguments t c k i n h.0 is h.1).1 (a, at, holds) in
      (h.0, h.1, value.given (reached, is_call p s mr entries g ns numbers t c k is) (argument_back p s mr entries g ns numbers t i c k is lt) may)
  value_back t n reached (number.thrown c {k} is holds) =
      let h = exception_back p s mr entries g ns numbers t c k n is holds in
      (h.0, h.2, value.thrown (reached, is_call p s mr entries g ns numbers t c k is) h.1)

  pub values_agree : (values : List (Statement × List SiteId)) → AreValues p s values → (t : Statement) (hs : List SiteId) → Contains values (t, hs) → IsOrderedListOf SiteBefore hs (IsNumberOfSome p (ValueMayBe p t))
  values_agree values tables t hs c =
      let own = tables.each t hs c in
      listed_as SiteBefore (ValueSite p s t) (IsNumberOfSome p (ValueMayBe p t)) hs (λ n v. value_back t n (unreach p s mr entries g ns numbers t.method own.0.0) v) (λ n v. value_there t n v) own.1

  pub valued : (values : List (Statement × List SiteId)) → AreValues p s values → (t : Statement) (h : Site) → ValueMayBe p t h → (hs : List SiteId) × Contains values (t, hs)
  valued values tables t h may =
      let x = value_number t h may in
      tables.whole t x.0 (reach p s mr entries g ns numbers t.method x.2.0, x.2.1) x.3

  -- ACCESSES

  module _ (f : Facts) (inputs : AreInputs p s mr entries f.inputs) (accesses : AreAccesses p s f.inputs f.accesses) where
    pub accesses_agree : (t : Statement) → ((a : Access) × Contains f.accesses (t, a) → IsAccess p t) × (IsAccess p t → (a : Access) × Contains f.accesses (t, a))
    accesses_agree t = (
      λ c. let run = (accesses.listed t).0 c in (unreach p s mr entries g ns numbers t.method run.0, run.1),
      λ h. (accesses.listed t).1 (reach p s mr entries g ns numbers t.method h.0, h.1),
    )

    abbrev Producer : Statement → NodeId → Type 0
    Producer t x = (d : Def) × (k : NodeNumber) × OperandIs p t 0 d × IsDefinitionNumber p t.method d k × IsNodeNumber f.inputs x t.method k

    producer_back : (t : Statement) → IsAccess p t → (x : NodeId) → Producer t x → IsProducerNumber p ns f t x
    producer_back t access x (d, k, is, definition, (i, input, of)) =
        let numbered : IsNumbered p s mr entries t.method k = All-contains (IsNumbered p s mr entries t.method) i.nodes k (inputs.each t.method i input).nodes.each (there_at i.nodes _ k of.1) in
        let a = node_back p s mr entries g ns numbers t.method k numbered in
        (node t.method a.0, (k, (i, input, of), a.1), (d, access, is, definition_back p s mr entries g ns numbers t.method d k definition a.0 a.1 access.0, a.2))

    producer_there : (t : Statement) (x : NodeId) → IsProducerNumber p ns f t x → Producer t x
    producer_there t x (a, (k, at, number), (d, access, is, definition, node_is)) =
        let w = definition_there p s mr entries g ns numbers t.method d a definition k number in
        (d, k, is, w.1, subst (λ (m : MethodId). IsNodeNumber f.inputs x m k) w.0 at)

    pub objects_agree : (t : Statement) (a : Access) → Contains f.accesses (t, a) → IsOrderedListOf NodeBefore a.object (IsProducerNumber p ns f t)
    objects_agree t a c =
        listed_as NodeBefore (Producer t) (IsProducerNumber p ns f t) a.object (producer_back t ((accesses_agree t).0 (a, c))) (producer_there t) (accesses.objects t a c)

    pub sites_agree : (t : Statement) (a : Access) → Contains f.accesses (t, a) → IsOrderedListOf SiteBefore a.sites (IsNumberOfSome p (OperandMayBe p t 0))
    sites_agree t a c =
        listed_as SiteBefore (OperandSite p s t 0) (IsNumberOfSome p (OperandMayBe p t 0)) a.sites (λ n o. operand_back t 0 n o) (λ n o. operand_there t 0 n o) (accesses.sites t a c)
