use Rattle.std.proofs.Common.{Some, None, subst, ◌∙◌, ap, length, arith}
use Rattle.std.proofs.lemmas.Option.{slice_get_within}
use Rattle.class_form.specs.Classes.{IsNamed, IsOutside}
use Rattle.hierarchy.specs.Selections.{member_key, IsFoundMethod}
use Rattle.hierarchy.proofs.Answering.{outside_method, method_found}
use Rattle.hierarchy.proofs.tree.Hierarchy.find_method.Goals as goal

pub returns-in_default : goal.returns-in_default
returns-in_default c =
    let same = c.as_slice.ensures.value ∙ c.self.view_is in
    outside_method c.args.self.now c.args.class.now c.args.name.now c.args.descriptor.now (subst (λ classes. IsOutside classes c.args.class.now) same c.in_default.ensures)

pub method_from-requires-clause-class : goal.method_from-requires-clause-class
method_from-requires-clause-class c =
    let named = subst (λ classes. IsNamed classes c.args.class.now c.in-Some.from) c.as_slice.ensures.value c.in-Some.ensures in
    slice_get_within c.self.inside.tree.classes.items c.in-Some.from named.0 named.1

pub returns-in-Some-method_from : goal.returns-in-Some-method_from
returns-in-Some-method_from c =
    let named = subst (λ classes. IsNamed classes c.args.class.now c.in-Some.from) c.as_slice.ensures.value c.in-Some.ensures in
    subst (λ classes. IsFoundMethod classes (member_key c.args.class.now c.args.name.now c.args.descriptor.now) (Some (record { 0 = c.in-Some-method_from.number }))) c.self.view_is
    (method_found c.self.inside.tree c.self.invariant c.args.name.now c.args.descriptor.now c.args.class.now c.in-Some.from c.in-Some-method_from.number named c.in-Some-method_from.ensures)

pub returns-in-None : goal.returns-in-None
returns-in-None c =
    let named = subst (λ classes. IsNamed classes c.args.class.now c.in-Some.from) c.as_slice.ensures.value c.in-Some.ensures in
    subst (λ classes. IsFoundMethod classes (member_key c.args.class.now c.args.name.now c.args.descriptor.now) None) c.self.view_is (c.in-None.ensures c.args.class.now named)
