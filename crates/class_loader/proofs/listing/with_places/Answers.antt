use Rattle.std.proofs.Common.{ℕ, map, sym, subst}
use Rattle.std.proofs.lemmas.List.{length-map}
use Rattle.hierarchy.specs.Places.{declared_at}
use Rattle.class_loader.specs.Below.{AreBodiesBelow}
use Rattle.class_loader.proofs.Numbered.{program_is}
use Rattle.class_loader.proofs.listing.with_places.Goals as goal

pub returns : goal.returns
returns c =
    let methods = map declared_at c.args.places.now in
    program_is c.args.classes.now methods c.in_ok-all.all.items c.requires.ordered c.requires.methods
    (subst (λ (n : ℕ). AreBodiesBelow c.args.classes.now methods c.in_ok-all.all.items n) (sym (length-map c.args.places.now declared_at)) c.in_ok-all.ensures)
