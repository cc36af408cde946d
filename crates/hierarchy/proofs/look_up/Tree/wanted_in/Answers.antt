use Rattle.std.proofs.lemmas.Bool.{iff_false}
use Rattle.hierarchy.proofs.Resolving.{fits_declares, number_within, is_fitting, fits_none}
use Rattle.hierarchy.proofs.look_up.Tree.wanted_in.Goals as goal

pub returns-in_default : goal.returns-in_default
returns-in_default c = λ d e f. c.in_default.ensures d e (fits_declares c.args.wanted c.args.self.now.classes.items c.args.name.now c.args.descriptor.now d f)

pub is_wanted-requires-clause-number : goal.is_wanted-requires-clause-number
is_wanted-requires-clause-number c =
    number_within c.args.self.now.classes.items c.args.self.now.methods.places.items c.args.name.now c.args.descriptor.now c.args.class c.in-Some.number c.in-Some.ensures

pub returns-then-is_wanted : goal.returns-then-is_wanted
returns-then-is_wanted c =
    is_fitting c.args.wanted c.args.self.now.classes.items c.args.self.now.methods.places.items c.args.name.now c.args.descriptor.now c.args.class c.in-Some.number c.in-Some.ensures
    (c.is_wanted.ensures.0 c.if-is_wanted.true)

pub returns-else-is_wanted : goal.returns-else-is_wanted
returns-else-is_wanted c =
    fits_none c.args.wanted c.args.self.now.classes.items c.requires.tree.ordered.named c.args.self.now.methods.places.items c.args.name.now c.args.descriptor.now c.args.class c.in-Some.number c.in-Some.ensures
    (iff_false c.is_wanted.ensures c.if-is_wanted.false)
