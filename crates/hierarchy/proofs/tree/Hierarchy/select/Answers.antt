use Rattle.std.proofs.Common.{subst, ap, length, arith}
use Rattle.std.proofs.lemmas.Bool.{iff_false}
use Rattle.std.proofs.lemmas.Option.{slice_get_within}
use Rattle.hierarchy.specs.Selections.{IsSelection}
use Rattle.hierarchy.specs.declared.tree.Select.TheVariants.{Folder, Abstract, Outside}
use Rattle.hierarchy.proofs.Answering.{selects_outside, selects_abstract, selects_folder}
use Rattle.hierarchy.proofs.tree.Hierarchy.select.Goals as goal

pub selected-requires-clause-class : goal.selected-requires-clause-class
selected-requires-clause-class c = omega (arith, ap length c.self.view_is, c.requires)

pub is_abstract-requires-clause-number : goal.is_abstract-requires-clause-number
is_abstract-requires-clause-number c = slice_get_within c.self.inside.tree.methods.places.items c.in-Some.number c.in-Some.ensures.0 c.in-Some.ensures.1

pub returns-in_default : goal.returns-in_default
returns-in_default c =
    subst (λ classes. IsSelection classes c.args.class.0 c.args.name.now c.args.descriptor.now Outside) c.self.view_is
    (selects_outside c.self.inside.tree c.self.invariant c.args.name.now c.args.descriptor.now c.args.class.0 (omega (arith, ap length c.self.view_is, c.requires)) c.in_default.ensures)

pub returns-then-is_abstract : goal.returns-then-is_abstract
returns-then-is_abstract c =
    subst (λ classes. IsSelection classes c.args.class.0 c.args.name.now c.args.descriptor.now Abstract) c.self.view_is
    (selects_abstract c.self.inside.tree c.self.invariant c.args.name.now c.args.descriptor.now c.args.class.0 c.in-Some.number (omega (arith, ap length c.self.view_is, c.requires)) c.in-Some.ensures
    (c.is_abstract.ensures.0 c.if-is_abstract.true))

pub returns-else-is_abstract : goal.returns-else-is_abstract
returns-else-is_abstract c =
    subst (λ classes. IsSelection classes c.args.class.0 c.args.name.now c.args.descriptor.now (Folder (record { 0 = c.in-Some.number }))) c.self.view_is
    (selects_folder c.self.inside.tree c.self.invariant c.args.name.now c.args.descriptor.now c.args.class.0 c.in-Some.number (omega (arith, ap length c.self.view_is, c.requires)) c.in-Some.ensures
    (iff_false c.is_abstract.ensures c.if-is_abstract.false))
