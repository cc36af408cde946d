-- The rows by number are those of the program, and so are their totals.
use Rattle.std.proofs.Common.{◌≡◌, ◌⊎◌, ◌↔◌, ◌<◌, ◌≤◌, ◌^◌, ℕ, suc, Bool, true, List, Contains, length, Some, inl, inr, refl, sym, ap, subst, ◌∙◌, arith}
use Rattle.std.specs.Prelude.{slice_get, sum_by}
use Rattle.std.proofs.lemmas.Bool.{cases_lt}
use Rattle.std.proofs.lemmas.Option.{slice_get_within}
use Rattle.class_form.proofs.Indices.{index_at}
use Rattle.slicer_ids.specs.Sets.{IsOrderedListOf}
use Rattle.slicer_ids.specs.declared.ids.MethodId.{MethodId}
use Rattle.slicer_ids.specs.declared.ids.Statement.{Statement}
use Rattle.dep_form.specs.declared.node.Node.{Node}
use Rattle.dep_form.specs.declared.rules.Spot.TheVariants.{Static}
use Rattle.dep_form.specs.declared.rules.TooMany.{TooMany}
use Rattle.dep_form.specs.declared.rules.TooMany.TheVariants.{NoMemory, Limit}
use Rattle.dep_form.specs.declared.rules.Touch.{Touch}
use Rattle.dep_form.specs.declared.rules.Var.{Var}
use Rattle.dep_form.specs.Effects.{IsModRefOf}
use Rattle.dep_form.specs.PointsTo.{Reached}
use Rattle.dep_form.specs.Constraints.{IsRoot, SystemHolds}
use Rattle.dep_form.specs.Nodes.{ComesBefore}
use Rattle.dep_form.specs.Summaries.{HasSize}
use Rattle.program_form.specs.Programs.{Program}
use Rattle.program_form.specs.Nodes.{IsNode}
use Rattle.program_form.specs.Facts.{Variable}
use Rattle.program_form.specs.Systems.{IsSystemOf, VariableNumber}
use Rattle.program_code.specs.Locations.{AreStaticsNamed}
use Rattle.fact_form.specs.NodeNumbers.{IsNumbered}
use Rattle.fact_form.specs.FactTables.{AreNodeRows, words_in}
use Rattle.fact_form.specs.FactLimits.{IsMemoSize, IsTooMany, IsWithinLimits}
use Rattle.fact_form.proofs.Setting.{Setting, numbering}
use Rattle.fact_form.proofs.NodesAgree.{runs_or_root}
use Rattle.node_tables.specs.Limits.{IsTooManyOf, IsWithinLimitsOf}
use Rattle.node_tables.specs.Rows.{AreAllTotals, AreRows, AtReached, AtRoot}
use Rattle.node_tables.specs.Scenes.{IsProgramOf}
use Rattle.node_tables.specs.declared.scene.Scene.{Scene}
use Rattle.node_tables.proofs.Joining.{ordered_same}
use Rattle.node_tables.proofs.Numbered.{method_there, method_back, root_there, root_back}

module _ (x : Scene) (p : Program) (is : IsProgramOf x p) (effects : IsModRefOf x.system.now x.effects.now) (tie : IsSystemOf p x.system.now) (statics : AreStaticsNamed p x.system.now)
    (answering : length x.answering.now ≡ length x.system.now.methods) where
  g : Setting p x.system.now x.effects.now x.entries.now
  g = record { asked = is.asked; coded = is.coded; names = is.constraints.0; tables = is.constraints.1; tie = tie; statics = statics; effects = effects; entered = is.entry_calls }

  abbrev IsOf : MethodId → Node → Type 0
  IsOf m n = IsNumbered p x.system.now x.effects.now x.entries.now m n

  there : (m : MethodId) (n : Node) → AtReached x m n → IsOf m n
  there m n (reached, (b, at, h)) = method_there p x is.bodies is.asked is.coded tie m reached b (is.answers m b at) n h

  back : (m : MethodId) (n : Node) → m.0 < length x.system.now.methods → IsOf m n → AtReached x m n
  back m n lt h =
      let ns = numbering p x.system.now x.effects.now x.entries.now g in
      elim (runs_or_root p x.system.now x.effects.now x.entries.now g ns.0 ns.1 m n h) [
        | inl reached ↦
            let b = index_at x.answering.now m.0 (omega (arith, lt, answering)) in
            (reached, (b.0, b.1, method_back p x is.bodies is.asked is.coded tie m reached b.0 (is.answers m b.0 b.1) n h))
        | inr root ↦ absurd (omega (arith, lt, root))
      ]

  pub node_rows_are : (rows : List (List Node)) → AreRows x rows → AreNodeRows p x.system.now x.effects.now x.entries.now rows
  node_rows_are rows are = record {
    count = are.count;
    each = λ m ks at. elim (cases_lt m.0 (length x.system.now.methods)) [
      | inl lt ↦ ordered_same ComesBefore ks (AtReached x m) (IsOf m) (there m) (λ n h. back m n lt h) (are.methods m ks lt at)
      | inr ge ↦
          let root : m.0 ≡ length x.system.now.methods = omega (arith, ge, are.count, slice_get_within rows m.0 ks at) in
          ordered_same ComesBefore ks (AtRoot x) (IsOf m) (root_there p x is.bodies is.asked is.coded tie m root) (root_back p x is.bodies is.asked is.coded tie m root)
          (are.root ks (subst (λ k. slice_get rows k ≡ Some ks) root at))
    ];
  }

  module _ (nodes words : ℕ) (totals : AreAllTotals x nodes words)
      (count : (rows : List (List Node)) → AreNodeRows p x.system.now x.effects.now x.entries.now rows → HasSize (IsNode p) (sum_by length rows))
      (weigh : (rows : List (List Node)) → AreNodeRows p x.system.now x.effects.now x.entries.now rows → IsMemoSize p (sum_by words_in rows)) where
    nodes_are : HasSize (IsNode p) nodes
    nodes_are = subst (λ k. HasSize (IsNode p) k) (sym totals.2) (count totals.0 (node_rows_are totals.0 totals.1))

    words_are : IsMemoSize p words
    words_are = subst (λ k. IsMemoSize p k) (sym totals.3) (weigh totals.0 (node_rows_are totals.0 totals.1))

    pub within_limits : IsWithinLimitsOf nodes words → IsWithinLimits p
    within_limits h = record { nodes = (nodes, nodes_are, h.0); words = (words, words_are, h.1) }

    pub too_many : (e : TooMany) → IsTooManyOf nodes words e → IsTooMany p e
    too_many NoMemory h = tt
    too_many (Limit kind n) (inl (k, lt, e)) = inl (k, lt, subst (λ i. HasSize (IsNode p) i) (sym e) nodes_are)
    too_many (Limit kind n) (inr (k, lt, e, le)) = inr (k, lt, subst (λ i. IsMemoSize p i) (sym e) words_are, (nodes, nodes_are, le))

pub statics_named : (p : Program) (x : Scene)
    → ((t : Statement) (write : Bool) (v : Var) → Contains x.system.now.touches (record { place = t; write = write; spot = Static v }) → (w : Variable) × VariableNumber p x.system.now w v)
    → AreStaticsNamed p x.system.now
statics_named p x named t v c e = named t.place t.write v (subst (λ z. Contains x.system.now.touches (record { place = t.place; write = t.write; spot = z })) e c)
