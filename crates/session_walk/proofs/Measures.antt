-- What a session has, as tests, and how much of what the facts have is missing.
use Rattle.std.proofs.Common.{◌≡◌, ◌≢◌, ◌<◌, ◌≤◌, ◌+◌, ℕ, Bool, true, false, Option, Some, None, List, length, refl, sym, ap, ◌∙◌, subst, inl, inr, arith, true≢false}
use Rattle.std.specs.Prelude.{Contains, nat_eq, not, ◌&&◌}
use Rattle.std.specs.List.{list_any}
use Rattle.std.specs.Option.{is_some}
use Rattle.std.proofs.lemmas.Bool.{cases_Bool, and_from, and_parts, eq-eqb, eqb-true, ne_eqb}
use Rattle.std.proofs.lemmas.Option.{none-some}
use Rattle.std.proofs.lemmas.List.Folds.{Any-from_list_any, list_any-from_Any}
use Rattle.slicer_ids.specs.declared.ids.MethodId.{MethodId}
use Rattle.slicer_ids.specs.declared.ids.ExitId.{ExitId}
use Rattle.slicer_ids.specs.declared.ids.Mode.{Mode}
use Rattle.dep_form.specs.declared.facts.Facts.{Facts}
use Rattle.dep_form.specs.declared.graph.Graph.{Graph}
use Rattle.graph_store.specs.declared.pass.GraphPass.{GraphPass}
use Rattle.graph_store.specs.Store.{gives, Keeps, HasSeen}
use Rattle.summary_memo.specs.declared.view.View.{View}
use Rattle.summary_memo.specs.Places.{gate_of}
use Rattle.summary_memo.specs.Rule.{KnowsShut, Knows}
use Rattle.session_walk.specs.Missing.{missing, has_graph, is_gate, has_row, all_missing}
use Rattle.session_walk.proofs.Fewer.{no_more_missing, less_missing}

some_is : {X : Type 0} (o : Option X) (x : X) → o ≡ Some x → is_some o ≡ true
some_is o x e = ap is_some e

pub none_or : {X : Type 0} (o : Option X) → is_some o ≡ true → (x : X) × (o ≡ Some x)
none_or None e = absurd (true≢false (sym e))
none_or (Some x) e = (x, refl)

-- what the pass gave it gives
pub graph_kept : (p q : GraphPass) → Keeps p q → (m : ℕ) → has_graph p m ≡ true → has_graph q m ≡ true
graph_kept p q keeps m has = let g = none_or (gives p m) has in some_is (gives q m) g.0 (keeps.given m g.0 g.1)

pub seen_has_graph : (f : Facts) (p : GraphPass) (m : MethodId) (g : Graph) → HasSeen f p m g → has_graph p m.0 ≡ true
seen_has_graph f p m g seen = some_is (gives p m.0) g seen.given

not_zero : (n : ℕ) → n ≢ 0 → not (nat_eq n 0) ≡ true
not_zero n ne = ap not (ne_eqb n 0 ne)

is_zero_or : (n : ℕ) → not (nat_eq n 0) ≡ true → n ≢ 0
is_zero_or n e z = true≢false (sym e ∙ ap not (eq-eqb n 0 z))

pub knows_has_row : (f : Facts) (mode : Mode) (v : View) (e : ExitId) → KnowsShut v f e mode → has_row f mode v e.0 ≡ true
knows_has_row f mode v e (n, at, ne) =
    list_any-from_Any (is_gate (gate_of f e mode)) v.gates (at.0, (gate_of f e mode, n), at.1, at.2, and_from _ _ (eq-eqb (gate_of f e mode) (gate_of f e mode) refl) (not_zero n ne))

pub has_row_knows : (f : Facts) (mode : Mode) (v : View) (e : ExitId) → has_row f mode v e.0 ≡ true → KnowsShut v f e mode
has_row_knows f mode v e has =
    let any = Any-from_list_any (is_gate (gate_of f e mode)) v.gates has in
    let parts = and_parts (nat_eq any.1.0 (gate_of f e mode)) (not (nat_eq any.1.1 0)) any.4 in
    let same : any.1.0 ≡ gate_of f e mode = eqb-true any.1.0 (gate_of f e mode) parts.0 in
    (any.1.1, subst (λ (g : ℕ). Contains v.gates (g, any.1.1)) same (any.0, any.2, any.3), is_zero_or any.1.1 parts.1)

-- what a view knew it knows
pub knows_kept : (f : Facts) (mode : Mode) (v w : View) (e : ExitId) → Knows v w → KnowsShut v f e mode → KnowsShut w f e mode
knows_kept f mode v w e knows h = (h.0, knows.gates (gate_of f e mode, h.0) h.1, h.2)

pub row_kept : (f : Facts) (mode : Mode) (v w : View) → Knows v w → (e : ℕ) → has_row f mode v e ≡ true → has_row f mode w e ≡ true
row_kept f mode v w knows e has = knows_has_row f mode w (record { 0 = e }) (knows_kept f mode v w (record { 0 = e }) knows (has_row_knows f mode v (record { 0 = e }) has))

module _ (f : Facts) (mode : Mode) (p q : GraphPass) (v w : View) (keeps : Keeps p q) (knows : Knows v w) where
  pub less_by_graph : (m : ℕ) → m < length f.inputs → has_graph p m ≡ false → has_graph q m ≡ true → all_missing f mode q w < all_missing f mode p v
  less_by_graph m lt was is =
      omega (arith, less_missing (has_graph p) (has_graph q) (graph_kept p q keeps) (length f.inputs) m lt was is, no_more_missing (has_row f mode v) (has_row f mode w) (row_kept f mode v w knows) (length f.exits))

  pub less_by_row : (e : ℕ) → e < length f.exits → has_row f mode v e ≡ false → has_row f mode w e ≡ true → all_missing f mode q w < all_missing f mode p v
  less_by_row e lt was is =
      omega (arith, no_more_missing (has_graph p) (has_graph q) (graph_kept p q keeps) (length f.inputs), less_missing (has_row f mode v) (has_row f mode w) (row_kept f mode v w knows) (length f.exits) e lt was is)

  pub no_more : all_missing f mode q w ≤ all_missing f mode p v
  no_more =
      omega (arith, no_more_missing (has_graph p) (has_graph q) (graph_kept p q keeps) (length f.inputs), no_more_missing (has_row f mode v) (has_row f mode w) (row_kept f mode v w knows) (length f.exits))
