use Rattle.std.proofs.Common.{◌≡◌, ◌∙◌, refl, sym, subst}
use Rattle.std.proofs.lemmas.Option.{same_Some}
use Rattle.dep_form.specs.declared.graph.Graph.{Graph}
use Rattle.dep_form.specs.Graphs.{IsGraphOf}
use Rattle.graph_store.proofs.graphs.PassGraphsGraphs.graph.Goals as goal

pub returns : goal.returns
returns c =
    let h = c.in_ok-fetch.ensures.seen in
    let same : h.0 ≡ c.in-Some.graph.now = same_Some h.0 c.in-Some.graph.now (sym h.1.given ∙ sym c.in-Some.ensures) in (
      (
        refl,
        (λ _. tt),
        (
          record { pass = c.in_ok-fetch.ensures.pass; inputs = c.in_ok-fetch.ensures.inputs },
          record { facts = refl; store = refl; pass = refl; keeps = c.in_ok-fetch.ensures.keeps },
          (h.1.input, h.1.is_input, subst (λ (g : Graph). IsGraphOf h.1.input g) same h.1.right),
        ),
      ),
      record { after = tt },
    )
