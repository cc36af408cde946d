-- The row of the one exit: its one bit is set.
use Rattle.std.proofs.Common.{◌≡◌, ◌≢◌, ◌<◌, ◌+◌, ◌*◌, ◌/◌, ℕ, zero, suc, inl, inr, List, [], ◌∷◌, length, Bool, Some, refl, sym, ap, ◌∙◌, subst, arith, true, false, true≢false}
use Rattle.std.specs.Prelude.{Contains, slice_get, slice_index, count_by}
use Rattle.std.specs.Int.{bit_at}
use Rattle.std.proofs.lemmas.Nat.Bits.{bit_at-pow_same, bit_at-pow_other}
use mathlib.Core.Logic.{dite}
use native.Mathlib.Decide.{ℕ_discrete}
use Rattle.slicer_ids.specs.declared.ids.NodeId.{NodeId}
use Rattle.slicer_ids.specs.declared.ids.MethodId.{MethodId}
use Rattle.slicer_ids.specs.declared.ids.Mode.{Mode}
use Rattle.slicer_ids.specs.declared.ids.Mode.TheVariants.{Thin, Full}
use Rattle.dep_form.specs.declared.node.Node.{Node}
use Rattle.dep_form.specs.declared.node.Node.TheVariants.{Formal, Return}
use Rattle.dep_form.specs.declared.node.Edge.{Edge}
use Rattle.dep_form.specs.declared.node.Label.{Label}
use Rattle.dep_form.specs.declared.node.Label.TheVariants.{Base}
use Rattle.dep_form.specs.declared.facts.Facts.{Facts}
use Rattle.dep_form.specs.Nodes.{is_formal}
use Rattle.dep_form.specs.Inputs.{IsInputOf, IsEdge}
use Rattle.dep_form.specs.Graphs.{HasInput}
use Rattle.dep_form.specs.Slices.{ModeEdges}
use Rattle.dep_form.specs.Summaries.{IsExitAt, IsWidthOf, Summary, IsRow}
use Rattle.dep_form.proofs.OneMethod.{summary_of_formals}
use Rattle.sharing_tests.specs.OneMethod.{IsOneMethod, only_exit, flow_through}
use Rattle.sharing_tests.proofs.SmallFacts.{node_is, first_node, second_node}

abbrev is_base : Label → Bool
is_base Base = true
is_base x = false

-- the one word of a list
bit_of : (k b : ℕ) → k < 1 → bit_at (slice_index (1 ∷ []) k) b ≡ bit_at 1 b
bit_of zero b lt = refl
bit_of (suc k) b lt = absurd (omega (arith, lt))

module _ (f : Facts) (o : IsOneMethod f) where
  pub input_is : IsInputOf f.inputs (record { 0 = 0 }) o.input
  input_is = ap (λ xs. slice_get xs 0) o.inputs_are

  pub root_is : IsInputOf f.inputs (record { 0 = 1 }) o.root
  root_is = ap (λ xs. slice_get xs 1) o.inputs_are

  exit_at : IsExitAt f only_exit (record { 0 = 1 })
  exit_at = ap (λ xs. slice_get xs 0) o.exits_are

  width_is : IsWidthOf f only_exit 1
  width_is = (record { 0 = 0 }, o.input, record { 0 = 1 }, Return, exit_at, input_is, second_node o.input o.hands_on, ap (λ ns. (count_by is_formal ns + 63) / 64) (sym o.hands_on.nodes_are))

  edge : IsEdge f.inputs flow_through
  edge = (record { 0 = 0 }, o.input, input_is, inl (subst (λ es. Contains es flow_through) (sym o.hands_on.direct_is) (0, omega arith, refl)))

  mode_edge : (mode : Mode) → ModeEdges f.inputs mode flow_through
  mode_edge Thin = (edge, λ e. absurd (true≢false (ap is_base (sym e))))
  mode_edge Full = (flow_through, edge, refl)

  flows : (mode : Mode) → Summary f mode only_exit 0
  flows mode = (
    record { 0 = 0 },
    o.input,
    record { 0 = 1 },
    record { 0 = 0 },
    Return,
    exit_at,
    input_is,
    second_node o.input o.hands_on,
    (omega (arith, o.hands_on.first_is), Formal 0, first_node o.input o.hands_on, refl),
    (flow_through ∷ [], (refl, mode_edge mode, refl), refl),
  )

  alone : (mode : Mode) (k : ℕ) → Summary f mode only_exit k → k ≡ 0
  alone mode k s =
      let found = summary_of_formals f mode only_exit k (record { 0 = 1 }) (record { 0 = 0 }) o.input Return exit_at input_is (second_node o.input o.hands_on) s in
      let formal = found.1 in
      elim (node_is o.input found.0 formal.1 o.hands_on formal.2) [
        | inl first ↦ omega (arith, formal.0, first.0, o.hands_on.first_is)
        | inr last ↦ absurd (true≢false (sym formal.3 ∙ ap is_formal (sym last.1)))
      ]

  pub row_is : (mode : Mode) → IsRow f mode only_exit (1 ∷ [])
  row_is mode = record {
    size = width_is;
    masks = λ k lt b small. (
      (λ bit. dite (ℕ_discrete b 0)
          (λ (low : b ≡ 0). subst (λ n. Summary f mode only_exit n) (omega (arith, low, lt)) (flows mode))
          (λ (high : b ≢ 0). absurd (omega (arith, bit_of k b lt ∙ bit_at-pow_other 0 b high, bit)))),
      (λ s. let low = alone mode (64 * k + b) s in let same : b ≡ 0 = omega (arith, low) in bit_of k b lt ∙ ap (bit_at 1) same ∙ bit_at-pow_same 0),
    );
  }
