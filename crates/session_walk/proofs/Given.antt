-- What a pass gives for a method is the graph that it has seen.
use Rattle.std.proofs.Common.{◌≡◌, ◌<◌, ◌≤◌, Option, Some, None, length, sym, subst, ◌∙◌, inl, inr, arith}
use Rattle.std.specs.Prelude.{MatchOption, slice_get}
use Rattle.std.specs.Option.{option_map}
use denote.Bor.{Bor}
use Rattle.std.proofs.lemmas.Option.{none-some, same_Some, slice_get_cases, slice_get_within}
use Rattle.slicer_ids.specs.declared.ids.MethodId.{MethodId}
use Rattle.dep_form.specs.declared.facts.Facts.{Facts}
use Rattle.dep_form.specs.declared.graph.Graph.{Graph}
use Rattle.dep_form.specs.Graphs.{IsGraphIn, IsGraphOf, HasInput}
use Rattle.graph_store.specs.declared.pass.GraphPass.{GraphPass}
use Rattle.graph_store.specs.Store.{HasInputsOf, HasSeen, gives}
use Rattle.graph_store.proofs.Slots.{given_at, has_seen}

-- what the pass gives for a method of the facts it has seen
pub given_is_seen : (f : Facts) (p : GraphPass) (m : MethodId) (g : Graph) → HasInputsOf f p → HasInput f.inputs m → gives p m.0 ≡ Some g → (h : Graph) × HasSeen f p m h
given_is_seen f p m g has (i, at) is = elim (slice_get_cases p.slots.items m.0).1 [
  | inl c ↦ has_seen f p m i c.0 at c.2 (has.each m.0 i c.0 at c.2) (g, sym (given_at p m.0 c.0 c.2) ∙ is)
  | inr c ↦ absurd (omega (arith, c.0, has.count, slice_get_within f.inputs m.0 (Some i) at))
]

pub seen_is : (f : Facts) (p : GraphPass) (m : MethodId) (result : Option (Bor Graph)) → HasInputsOf f p → HasInput f.inputs m → option_map (λ g. g.now) result ≡ gives p m.0
    → MatchOption result (((g : Graph) × HasSeen f p m g) → ⊥) (λ g. ((h : Graph) × HasSeen f p m h) × IsGraphIn f.inputs m g.now)
seen_is f p m None has input is = λ seen. absurd (none-some seen.0 (is ∙ seen.1.given))
seen_is f p m (Some g) has input is =
    let seen = given_is_seen f p m g.now has input (sym is) in
    let same : seen.0 ≡ g.now = sym (same_Some g.now seen.0 (is ∙ seen.1.given)) in
    ((seen.0, seen.1), (seen.1.input, seen.1.is_input, subst (λ (x : Graph). IsGraphOf seen.1.input x) same seen.1.right))
