use Rattle.std.proofs.Common.{◌≡◌, ℕ, List, sym, subst, ◌∙◌}
use Rattle.std.specs.Prelude.{◌<◌, All, length}
use Rattle.digraph.specs.Graphs.{targets}
use Rattle.digraph.proofs.Marks.{targets_row, target_within}
use Rattle.hierarchy.specs.Visits.{IsFirst, LeadsToOneOf}
use Rattle.hierarchy.proofs.Descents.{all_within}
use Rattle.hierarchy.proofs.graph.Graph.first_next.Goals as goal

pub first_leading-requires-clause-classes : goal.first_leading-requires-clause-classes
first_leading-requires-clause-classes c =
    let g = c.args.self.now.edges.items in
    let same = targets_row g c.args.class c.index.result.now c.requires.class c.index.ensures ∙ sym c.as_slice-classes.ensures.value in
    subst (All (λ n. n < length g)) same (all_within g c.args.class c.requires.graph)

pub returns : goal.returns
returns c =
    let g = c.args.self.now.edges.items in
    let same = targets_row g c.args.class c.index.result.now c.requires.class c.index.ensures ∙ sym c.as_slice-classes.ensures.value in
    subst (λ xs. IsFirst (LeadsToOneOf g c.args.places.now) xs c.first_leading.result) (sym same) c.first_leading.ensures
