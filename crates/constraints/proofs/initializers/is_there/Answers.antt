use Rattle.std.proofs.Common.{◌≡◌, List, Some, None, subst}
use Rattle.std.specs.Prelude.{slice_get}
use Rattle.class_form.specs.declared.class_file.ClassFile.{ClassFile}
use Rattle.constraints.specs.Initializers.{IsInitializerAt}
use Rattle.constraints.proofs.OfInitializers.{decided_item, decided_missing}
use Rattle.constraints.proofs.initializers.is_there.Goals as goal

pub returns-in-Some : goal.returns-in-Some
returns-in-Some c =
    decided_item (λ (k : ClassFile). IsInitializerAt k c.args.place.1) (slice_get c.args.h.now c.args.place.0.0) c.in-Some.file.now c.is_initializer.result
    (subst (λ (ks : List ClassFile). slice_get ks c.args.place.0.0 ≡ Some c.in-Some.file.now) c.classes.ensures.classes c.in-Some.ensures.found) c.is_initializer.ensures

pub returns-in-None : goal.returns-in-None
returns-in-None c =
    decided_missing (λ (k : ClassFile). IsInitializerAt k c.args.place.1) (slice_get c.args.h.now c.args.place.0.0)
    (subst (λ (ks : List ClassFile). slice_get ks c.args.place.0.0 ≡ None) c.classes.ensures.classes c.in-None.ensures.missed)
