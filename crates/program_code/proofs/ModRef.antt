-- What methods define and use in a program, and in a system of it.
use Rattle.std.proofs.Common.{List, [], ◌∷◌, sym, subst}
use Rattle.slicer_ids.specs.Walks.{IsWalk, LeadsBy}
use Rattle.slicer_ids.specs.declared.ids.MethodId.{MethodId}
use Rattle.dep_form.specs.declared.system.System.{System}
use Rattle.dep_form.specs.declared.effects.Location.{Location as SystemLocation}
use Rattle.dep_form.specs.Effects as system
use Rattle.program_form.specs.Programs.{Program}
use Rattle.program_form.specs.Effects.{Location, IsTraced, MayCall, Mod, Ref}
use Rattle.program_form.specs.Systems.{IsSystemOf}
use Rattle.program_code.specs.Codes.{IsProgramOfCode}
use Rattle.program_code.specs.Locations.{LocationNumber}
use Rattle.program_code.proofs.Outside.{calls_there, calls_back}
use Rattle.program_code.proofs.Touching.{defines_there, uses_there, defined_back, used_back}

-- a walk of the one relation is one of the other
walk_as : {A : Type 0} (R S : A → A → Type 0) → ((x y : A) → R x y → S x y) → (a b : A) (xs : List A) → IsWalk R a xs b → IsWalk S a xs b
walk_as R S each a b [] w = w
walk_as R S each a b (x ∷ xs) w = (each a x w.0, walk_as R S each x b xs w.1)

leads_as : {A : Type 0} (R S : A → A → Type 0) → ((x y : A) → R x y → S x y) → (a b : A) → LeadsBy R a b → LeadsBy S a b
leads_as R S each a b w = (w.0, walk_as R S each a b w.0 w.1)

module _ (p : Program) (s : System) (coded : IsProgramOfCode p) (tie : IsSystemOf p s) where
  may_call_there : (m n : MethodId) → MayCall p m n → system.MayCall s m n
  may_call_there m n (t, e, h) = let c = calls_there p s coded tie t n h in (c.0, c.1.0, t, c.1.1, c.1.2, e, c.2)

  may_call_back : (m n : MethodId) → system.MayCall s m n → MayCall p m n
  may_call_back m n (c, k, t, is, place, e, h) = (t, e, calls_back p s coded tie t c n (k, is, place) h)

  module _ (l : Location) (x : SystemLocation) (number : LocationNumber p s l x) where
    traced_there : IsTraced p l → system.IsTraced s x
    traced_there ((t, d), (u, e)) = ((t.method, defines_there p s coded tie t l x number d), (u.method, uses_there p s coded tie u l x number e))

    traced_back : system.IsTraced s x → IsTraced p l
    traced_back ((m, d), (n, e)) = let t = defined_back p s coded tie m l x number d in let u = used_back p s coded tie n l x number e in ((t.0, t.2), (u.0, u.2))

    pub mod_there : (m : MethodId) → Mod p m l → system.Mod s m x
    mod_there m (traced, t, leads, d) = (traced_there traced, t.method, leads_as (MayCall p) (system.MayCall s) may_call_there m t.method leads, defines_there p s coded tie t l x number d)

    pub mod_back : (m : MethodId) → system.Mod s m x → Mod p m l
    mod_back m (traced, n, leads, d) =
        let t = defined_back p s coded tie n l x number d in
        (traced_back traced, t.0, subst (λ z. LeadsBy (MayCall p) m z) (sym t.1) (leads_as (system.MayCall s) (MayCall p) may_call_back m n leads), t.2)

    pub ref_there : (m : MethodId) → Ref p m l → system.Ref s m x
    ref_there m (traced, t, leads, d) = (traced_there traced, t.method, leads_as (MayCall p) (system.MayCall s) may_call_there m t.method leads, uses_there p s coded tie t l x number d)

    pub ref_back : (m : MethodId) → system.Ref s m x → Ref p m l
    ref_back m (traced, n, leads, d) =
        let t = used_back p s coded tie n l x number d in
        (traced_back traced, t.0, subst (λ z. LeadsBy (MayCall p) m z) (sym t.1) (leads_as (system.MayCall s) (MayCall p) may_call_back m n leads), t.2)
