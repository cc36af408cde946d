use Rattle.std.proofs.Common.{inl, inr, sym, subst, ap, ◌∙◌, arith}
use Rattle.hierarchy.specs.Names.{name_bytes}
use Rattle.class_form.specs.Folders.{IsOwnAncestor, IsLeastName}
use Rattle.hierarchy.proofs.Building.{least_ancestor}
use Rattle.hierarchy.proofs.Rows.{edges_above, edges_graph}
use Rattle.hierarchy.specs.declared.parents.Above.TheVariants.{Parents}
use Rattle.hierarchy.proofs.tree.find_cycle.Goals as goal

pub first_on_cycle-requires-clause-graph : goal.first_on_cycle-requires-clause-graph
first_on_cycle-requires-clause-graph c = edges_graph Parents c.args.classes.now c.args.rows.now c.requires.edges

pub unreachable-requires : goal.unreachable-requires
unreachable-requires c =
    let none = rw c.in-Ok-None.field-0-is at c.in-Ok-None.ensures in
    none c.requires.some.0 c.requires.some.1 c.requires.some.2

pub bounds-classes-first : goal.bounds-classes-first
bounds-classes-first c = let found = rw c.in-Ok-Some.field-0-is at c.in-Ok-Some.ensures in omega (arith, found.0, c.requires.edges.len)

pub returns-in-Ok-Some : goal.returns-in-Ok-Some
returns-in-Ok-Some c =
    let found = rw c.in-Ok-Some.field-0-is at c.in-Ok-Some.ensures in
    let classes = c.args.classes.now in
    let d = c.index-classes-first.result in
    elim c.cycle.ensures [
      | inl none ↦ inl none
      | inr is ↦ inr (
        c.name_of.result.now,
        is,
        subst (IsLeastName (IsOwnAncestor classes)) (sym (c.name_of.ensures ∙ ap name_bytes c.index-classes-first.is))
            (least_ancestor classes c.args.rows.now c.in-Ok-Some.first d c.requires.ordered (edges_above classes c.args.rows.now c.requires.ordered.order c.requires.edges) (omega (arith, found.0, c.requires.edges.len)) found.1 found.2),
      )
    ]
