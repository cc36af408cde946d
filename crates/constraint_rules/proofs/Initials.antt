-- Initializers that are reached.
use Rattle.std.proofs.Common.{◌≡◌, ◌⊎◌, ℕ, List, Contains, Option, Some, None, inl, inr, refl, sym, ap, subst, ◌∙◌}
use Rattle.std.specs.Prelude.{◌↔◌}
use Rattle.slicer_ids.specs.declared.ids.ClassId.{ClassId}
use Rattle.slicer_ids.specs.declared.ids.MethodId.{MethodId}
use Rattle.slicer_ids.specs.declared.ids.Statement.{Statement}
use Rattle.worklists.specs.Growth.{Grows, FromOne}
use Rattle.worklists.proofs.Growing.{Grows-same}
use Rattle.class_form.specs.Classes.{IsSuperOrSelf}
use Rattle.dep_form.specs.declared.rules.Rule.{Rule}
use Rattle.dep_form.specs.declared.system.System.{System}
use Rattle.program_form.specs.Programs.{Program, Initializes}
use Rattle.program_form.specs.Facts.{NeedsClass}
use Rattle.constraint_form.specs.Variables.{Meaning}
use Rattle.constraint_rules.specs.One.{IsOne}
use Rattle.constraint_rules.specs.Forms.{EnterOf}
use Rattle.constraint_rules.specs.Needs.{IsListedOf}
use Rattle.constraint_rules.specs.Supers.{IsFromFirst}
use Rattle.constraint_rules.specs.Settings.{AreInitializers}
use Rattle.constraint_rules.proofs.FormParts.{enters_grown}

same_class : (a b : ClassId) → a.0 ≡ b.0 → a ≡ b
same_class a b e = ap (λ k. record { 0 = k }) e

-- each of a list is entered
pub each_entered : (xs : List (ClassId × MethodId)) (old new : List Rule) → Grows old new (FromOne (λ (x : ClassId × MethodId). EnterOf (λ m. m ≡ x.1)) xs)
    → Grows old new (EnterOf (λ m. (x : ClassId × MethodId) × Contains xs x × (m ≡ x.1)))
each_entered xs old new g = Grows-same old new (FromOne (λ (x : ClassId × MethodId). EnterOf (λ m. m ≡ x.1)) xs) (EnterOf (λ m. (x : ClassId × MethodId) × Contains xs x × (m ≡ x.1)))
    (λ r (x, among, (m, same, e)). (m, (x, among, same), e)) (λ r (m, (x, among, same), e). (x, among, (m, same, e))) g

-- the part that is of one class
pub class_entered : (xs part : List (ClassId × MethodId)) (c : ClassId) (old new : List Rule) → ((x : ClassId × MethodId) → Contains part x ↔ (Contains xs x × (x.0.0 ≡ c.0)))
    → Grows old new (EnterOf (λ m. (x : ClassId × MethodId) × Contains part x × (m ≡ x.1))) → Grows old new (EnterOf (IsListedOf xs c))
class_entered xs part c old new members g =
    enters_grown (λ m. (x : ClassId × MethodId) × Contains part x × (m ≡ x.1)) (IsListedOf xs c) old new (λ m. (to m, λ h. ((c, m), (members (c, m)).1 (h, refl), refl))) g
  where
    to : (m : MethodId) → (x : ClassId × MethodId) × Contains part x × (m ≡ x.1) → IsListedOf xs c m
    to m (x, among, same) =
        let h = (members x).0 among in
        let e : x.0 ≡ c = same_class x.0 c h.1 in
        subst (λ z. Contains xs (z, m)) e (subst (λ z. Contains xs (x.0, z)) (sym same) h.0)

-- of each of some classes
pub classes_entered : (xs : List (ClassId × MethodId)) (classes : List ClassId) (old new : List Rule) → Grows old new (FromOne (λ (c : ClassId). EnterOf (IsListedOf xs c)) classes)
    → Grows old new (EnterOf (λ m. (c : ClassId) × Contains classes c × IsListedOf xs c m))
classes_entered xs classes old new g = Grows-same old new (FromOne (λ (c : ClassId). EnterOf (IsListedOf xs c)) classes) (EnterOf (λ m. (c : ClassId) × Contains classes c × IsListedOf xs c m))
    (λ r (c, among, (m, has, e)). (m, (c, among, has), e)) (λ r (m, (c, among, has), e). (c, among, (m, has, e))) g

-- of a class and its superclasses
module _ (p : Program) (xs : List (ClassId × MethodId)) (are : AreInitializers p xs) where
  pub supers_entered : (first : Option ClassId) (classes : List ClassId) (old new : List Rule) → ((c : ClassId) → Contains classes c ↔ IsFromFirst p.classes first c)
      → Grows old new (EnterOf (λ m. (c : ClassId) × Contains classes c × IsListedOf xs c m)) → Grows old new (EnterOf (λ m. (c : ClassId) × (first ≡ Some c) × Initializes p c.0 m))
  supers_entered first classes old new upwards g =
      enters_grown (λ m. (c : ClassId) × Contains classes c × IsListedOf xs c m) (λ m. (c : ClassId) × (first ≡ Some c) × Initializes p c.0 m) old new (λ m. (to m, from m)) g
    where
      above : (f : Option ClassId) (c : ClassId) → IsFromFirst p.classes f c → (a : ClassId) × (f ≡ Some a) × IsSuperOrSelf p.classes a.0 c.0
      above None c h = elim h [ ]
      above (Some a) c h = (a, refl, h)

      to : (m : MethodId) → (c : ClassId) × Contains classes c × IsListedOf xs c m → (c : ClassId) × (first ≡ Some c) × Initializes p c.0 m
      to m (c, among, has) =
          let (a, e, up) = above first c ((upwards c).0 among) in
          let (d, x, name, bytes, method, is, same) = (are c m).0 has in
          (a, e, (d, x, name, bytes, method, is, subst (λ n. IsSuperOrSelf p.classes a.0 n) (sym same) up))

      from : (m : MethodId) → (c : ClassId) × (first ≡ Some c) × Initializes p c.0 m → (c : ClassId) × Contains classes c × IsListedOf xs c m
      from m (a, e, (d, x, name, bytes, method, is, up)) =
          let c : ClassId = record { 0 = d.class } in
          (c, (upwards c).1 (subst (λ f. IsFromFirst p.classes f c) (sym e) up), (are c m).1 (d, x, name, bytes, method, is, refl))

-- of the class that a statement needs
pub need_entered : (p : Program) (t : Statement) (o : Option ClassId) (old new : List Rule) → IsOne (λ (c : ClassId). NeedsClass p t c.0) o
    → Grows old new (EnterOf (λ m. (c : ClassId) × (o ≡ Some c) × Initializes p c.0 m)) → Grows old new (EnterOf (λ m. (c : ℕ) × NeedsClass p t c × Initializes p c m))
need_entered p t o old new one g =
    enters_grown (λ m. (c : ClassId) × (o ≡ Some c) × Initializes p c.0 m) (λ m. (c : ℕ) × NeedsClass p t c × Initializes p c m) old new
    (λ m. (λ (c, e, init). (c.0, (one c).1 e, init), λ (c, needs, init). let k : ClassId = record { 0 = c } in (k, (one k).0 needs, init))) g
