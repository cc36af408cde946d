use Rattle.std.proofs.Common.{subst}
use Rattle.std.specs.Prelude.{MatchOption}
use Rattle.hierarchy.specs.declared.members.Kind.TheVariants.{Method}
use Rattle.hierarchy.specs.Numbered.{DeclaresNone, IsNumber}
use Rattle.hierarchy.proofs.look_up.Tree.declared.Goals as goal

pub returns : goal.returns
returns c =
    subst (λ classes. MatchOption c.number.result (DeclaresNone Method classes c.args.name.now c.args.descriptor.now c.args.class)
    (IsNumber Method classes c.args.self.now.methods.places.items c.args.name.now c.args.descriptor.now c.args.class)) c.as_slice.ensures.value c.number.ensures
