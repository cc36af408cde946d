use Rattle.std.proofs.Common.{◌∙◌}
use Rattle.slicer_ids.specs.Sets.{IsOrderedListOf}
use Rattle.variable_tables.proofs.InOrder.{from_nothing, chosen_all}
use Rattle.variable_tables.proofs.SeenDefs.{ordered_members}
use Rattle.constraints.specs.Initializers.{FromNumbers, ClassRises}
use Rattle.constraints.proofs.OfInitializers.{initializers_are, one_count}
use Rattle.constraints.proofs.initializers.initializers.Goals as goal

pub returns-clause-all : goal.returns-clause-all
returns-clause-all c = λ p of.
    let h = c.args.h.now in
    let places = c.method_places.result.now in
    let P = FromNumbers h places c.args.root.0 in
    let new = c.push_methods.new.found.items in
    let g : IsOrderedListOf ClassRises new P = chosen_all ClassRises new P (from_nothing ClassRises (λ e. ⊥) _ new P c.new-found.ensures.items c.in_ok-push_methods.ensures) in
    initializers_are h places c.method_places.ensures p of c.args.root.0 new (c.requires.2 ∙ one_count h c.requires.0 p c.requires.1 of) (ordered_members ClassRises P new g)

pub returns-clause-order : goal.returns-clause-order
returns-clause-order c =
    let P = FromNumbers c.args.h.now c.method_places.result.now c.args.root.0 in
    let new = c.push_methods.new.found.items in
    let g : IsOrderedListOf ClassRises new P = chosen_all ClassRises new P (from_nothing ClassRises (λ e. ⊥) _ new P c.new-found.ensures.items c.in_ok-push_methods.ensures) in
    g.order
