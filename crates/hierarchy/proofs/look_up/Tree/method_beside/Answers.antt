use Rattle.std.proofs.Common.{ℕ, ◌↔◌, subst}
use Rattle.hierarchy.specs.declared.members.Kind.TheVariants.{Method}
use Rattle.hierarchy.specs.Numbered.{DeclaresSome}
use Rattle.hierarchy.specs.Visits.{IsOneOf}
use Rattle.hierarchy.proofs.Resolving.{beside_none, beside_number}
use Rattle.hierarchy.proofs.look_up.Tree.method_beside.Goals as goal

pub returns-in_default : goal.returns-in_default
returns-in_default c =
    let places = c.named-places.result.now in
    let exact = subst (λ classes. (b : ℕ) → IsOneOf places b ↔ DeclaresSome Method classes c.args.name.now c.args.descriptor.now b) c.as_slice-classes.ensures.value c.named-places.ensures.exact in
    beside_none c.args.self.now c.requires.tree places c.args.name.now c.args.descriptor.now exact c.args.class c.in_default.ensures

pub returns : goal.returns
returns c =
    let places = c.named-places.result.now in
    let exact = subst (λ classes. (b : ℕ) → IsOneOf places b ↔ DeclaresSome Method classes c.args.name.now c.args.descriptor.now b) c.as_slice-classes.ensures.value c.named-places.ensures.exact in
    beside_number c.args.self.now c.requires.tree places c.args.name.now c.args.descriptor.now exact c.args.class c.in-Some.found c.declared.result c.requires.class c.in-Some.ensures c.declared.ensures
