use Rattle.std.proofs.Common.{ℕ, ◌↔◌, subst}
use Rattle.std.specs.Prelude.{MatchOption}
use Rattle.hierarchy.specs.declared.members.Kind.TheVariants.{Field}
use Rattle.hierarchy.specs.Numbered.{DeclaresNone, DeclaresSome, IsNumber}
use Rattle.hierarchy.specs.Visits.{IsOneOf}
use Rattle.hierarchy.proofs.Resolving.{field_nowhere, field_number}
use Rattle.hierarchy.proofs.look_up.Tree.field_from.Goals as goal

pub returns-in_default : goal.returns-in_default
returns-in_default c =
    let places = c.named-places.result.now in
    let exact = subst (λ classes. (b : ℕ) → IsOneOf places b ↔ DeclaresSome Field classes c.args.name.now c.args.descriptor.now b) c.as_slice-classes.ensures.value c.named-places.ensures.exact in
    field_nowhere c.args.self.now c.requires.tree c.args.name.now c.args.descriptor.now c.args.class places exact c.in_default.ensures

pub returns : goal.returns
returns c =
    let places = c.named-places.result.now in
    let exact = subst (λ classes. (b : ℕ) → IsOneOf places b ↔ DeclaresSome Field classes c.args.name.now c.args.descriptor.now b) c.as_slice-classes.ensures.value c.named-places.ensures.exact in
    let number = subst (λ classes. MatchOption c.number.result (DeclaresNone Field classes c.args.name.now c.args.descriptor.now c.in-Some.found)
    (IsNumber Field classes c.args.self.now.fields.places.items c.args.name.now c.args.descriptor.now c.in-Some.found)) c.as_slice-classes.ensures.value c.number.ensures in
    field_number c.args.self.now c.requires.tree c.args.name.now c.args.descriptor.now c.args.class places c.in-Some.found c.number.result exact c.in-Some.ensures number
