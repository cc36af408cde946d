-- What the graphs of a session keep.
use Rattle.std.specs.Prelude.{◌≡◌, length, refl}
use Rattle.std.proofs.Common.{◌∙◌, ap}
use Rattle.dep_form.specs.declared.facts.Facts.{Facts}
use Rattle.graph_store.specs.Store.{IsPassOf, HasInputsOf, Keeps}
use Rattle.graph_store.specs.declared.graphs.PassGraphs.{PassGraphs}

abbrev pub facts_of_pass : PassGraphs → Facts
facts_of_pass g = g.facts.now

-- the pass is one of the store's, and what it has seen has the inputs of the facts
pub record IsSound (g : PassGraphs) : Type 0 where
  pub pass : IsPassOf g.store.now.cells.items g.pass.now
  pub inputs : HasInputsOf g.facts.now g.pass.now

-- the pass is still that one, of that store, and has all that it had seen
pub record IsLater (g h : PassGraphs) : Type 0 where
  pub facts : h.facts.now ≡ g.facts.now
  pub store : h.store.now ≡ g.store.now
  pub pass : h.pass.ghost_name ≡ g.pass.ghost_name
  pub keeps : Keeps g.pass.now h.pass.now

pub later_refl : (g : PassGraphs) → IsLater g g
later_refl g = record { facts = refl; store = refl; pass = refl; keeps = record { known = λ m x k. k; given = λ m x k. k } }

pub later_trans : (g h k : PassGraphs) → IsLater g h → IsLater h k → IsLater g k
later_trans g h k a b = record {
  facts = b.facts ∙ a.facts;
  store = b.store ∙ a.store;
  pass = b.pass ∙ a.pass;
  keeps = record { known = λ m x n. b.keeps.known m x (a.keeps.known m x n); given = λ m x n. b.keeps.given m x (a.keeps.given m x n) };
}

pub later_facts : (g h : PassGraphs) → IsLater g h → facts_of_pass h ≡ facts_of_pass g
later_facts g h a = a.facts
