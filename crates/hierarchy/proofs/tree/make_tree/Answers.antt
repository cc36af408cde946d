use Rattle.std.proofs.Common.{◌<◌, ◌^◌, refl, sym, subst}
use Rattle.hierarchy.specs.declared.members.Kind.TheVariants.{Field, Method}
use Rattle.hierarchy.specs.declared.parents.Above.TheVariants.{Interfaces, Parents}
use Rattle.hierarchy.specs.Names.{AreEdges}
use Rattle.hierarchy.specs.Numbered.{AreMembers}
use Rattle.hierarchy.specs.Places.{count_members}
use Rattle.hierarchy.specs.Searched.{IsSearched}
use Rattle.hierarchy.proofs.Building.{tree_from, few_members}
use Rattle.hierarchy.proofs.Rows.{edges_graph}
use Rattle.hierarchy.proofs.tree.make_tree.Goals as goal

pub with_rows-requires-clause-graph : goal.with_rows-requires-clause-graph
with_rows-requires-clause-graph c = edges_graph Parents c.args.classes.items c.args.rows.items c.requires.edges

pub new-requires-clause-count : goal.new-requires-clause-count
new-requires-clause-count c = subst (λ classes. count_members Field classes < 2 ^ 32) (sym c.as_slice-5.ensures.value) (few_members Field c.args.classes.items c.requires.few)

pub new-requires-2-clause-count : goal.new-requires-2-clause-count
new-requires-2-clause-count c = subst (λ classes. count_members Method classes < 2 ^ 32) (sym c.as_slice-6.ensures.value) (few_members Method c.args.classes.items c.requires.few)

pub returns : goal.returns
returns c = (
  refl,
  tree_from _ c.args.classes.items c.requires.ordered
      (subst (AreEdges Parents c.args.classes.items) (sym c.in_ok-parents.ensures.0) c.requires.edges)
      (subst (λ classes. AreEdges Interfaces classes c.in_ok-interfaces.interfaces.edges.items) c.as_slice.ensures.value c.in_ok-interfaces.ensures.0)
      (subst (IsSearched c.in_ok-parents.parents) c.as_slice-4.ensures.value c.in_ok-parents.ensures.1)
      (subst (IsSearched c.in_ok-interfaces.interfaces) c.as_slice-3.ensures.value c.in_ok-interfaces.ensures.1)
      (subst (λ classes. AreMembers Field classes c.in_ok-fields.fields) c.as_slice-5.ensures.value c.in_ok-fields.ensures)
      (subst (λ classes. AreMembers Method classes c.in_ok-methods.methods) c.as_slice-6.ensures.value c.in_ok-methods.ensures)
      refl,
)
