-- The methods that static and special calls go to.
use Rattle.std.proofs.Common.{◌≡◌, ℕ, Bool, List, Option, Some, None, inl, inr, sym, ap, subst, ◌∙◌, arith}
use Rattle.std.specs.Prelude.{◌↔◌, IsTrue, slice_get}
use Rattle.std.proofs.lemmas.Option.{same_Some}
use Rattle.slicer_ids.specs.declared.ids.ClassId.{ClassId}
use Rattle.slicer_ids.specs.declared.ids.MethodId.{MethodId}
use Rattle.class_form.specs.Pools.{MemberKey, member_at}
use Rattle.class_form.specs.Opcodes.{IsStaticCall, IsSpecialCall}
use Rattle.class_form.specs.Classes.{Declared, IsClass}
use Rattle.class_form.specs.Resolution.{IsAbstractMethod, FindsMethod, SpecialCalls}
use Rattle.class_form.specs.declared.class_file.ClassFile.{ClassFile}
use Rattle.dep_form.specs.declared.system.System.{System}
use Rattle.program_form.specs.Programs.{Program, ClassOf}
use Rattle.program_form.specs.Statements.{NamesMember}
use Rattle.program_form.specs.Facts.{GoesTo, IsNotFound}
use Rattle.constraint_form.specs.Variables.{Meaning}
use Rattle.constraint_form.proofs.Instructions.{one_class_file, one_member}
use Rattle.constraint_rules.specs.One.{IsOne}
use Rattle.constraint_rules.specs.Calls.{IsConcreteNumber, IsNumberOf, IsMethodFound, IsCalledBy}
use Rattle.constraint_rules.specs.Settings.{IsSetting, IsPlaced, place_of}
use Rattle.constraint_rules.specs.declared.tables.Tables.{Tables}
use Rattle.constraint_rules.specs.declared.tables.Reachable.{Reachable}
use Rattle.constraint_rules.proofs.Ones.{none_of, one_same}
use Rattle.constraint_rules.proofs.OfKind.{kind_at, kind_here}
use Rattle.constraint_rules.proofs.OfNames.{named_here, key_here}

module _ (t : Tables) (x : Reachable) (p : Program) (s : System) (names : List Meaning) (set : IsSetting t p s names) (placed : IsPlaced p x) where
  -- what a static call finds
  pub called_static : (key : MemberKey) (o : Option MethodId) → NamesMember p (place_of x) key → IsStaticCall x.instr.now.op → IsOne (IsNumberOf p (IsMethodFound p key)) o
      → IsOne (IsNumberOf p (IsCalledBy p (place_of x))) o
  called_static key o named is one = one_same (IsNumberOf p (IsMethodFound p key)) (IsNumberOf p (IsCalledBy p (place_of x))) o
      (λ m (d, finds, at). (d, (key, named, inl (kind_here t x p s names set placed IsStaticCall is, finds)), at)) (λ m (d, called, at). (d, from d called, at)) one
    where
      from : (d : Declared) → IsCalledBy p (place_of x) d → IsMethodFound p key d
      from d (other, m, inl (kind, finds)) = subst (λ z. IsMethodFound p z d) (one_member p set.of.read (place_of x) other key m named) finds
      from d (other, m, inr (kind, c, k, of, rest)) =
          let static : x.instr.now.op ≡ 184 = is in
          let special : x.instr.now.op ≡ 183 = kind_at t x p s names set placed IsSpecialCall kind in
          absurd (omega (arith, static, special))

  -- what a special call of the method's class calls
  abbrev IsSpecialBy : MemberKey → Declared → Type 0
  IsSpecialBy key d = (c : ℕ) × (k : ClassFile) × ClassOf p x.body.now.method c k × SpecialCalls p.classes c key d

  pub special_placed : (key : MemberKey) (a : ClassId) (o : Option MethodId) → ((d : Declared) × (slice_get p.methods x.body.now.method.0 ≡ Some d) × (d.class ≡ a.0))
      → (IsClass p.classes a.0 x.file.now → IsOne (IsNumberOf p (SpecialCalls p.classes a.0 key)) o)
      → IsOne (IsNumberOf p (λ d. (c : ℕ) × (k : ClassFile) × ClassOf p x.body.now.method c k × SpecialCalls p.classes c key d)) o
  special_placed key a o (d, at, e) told =
      let (c, of) = placed.file in
      let same : c ≡ a.0 = of.2 ∙ ap (λ (z : Declared). z.class) (same_Some of.0 d (sym of.1 ∙ at)) ∙ e in
      let current : ClassOf p x.body.now.method a.0 x.file.now = subst (λ n. ClassOf p x.body.now.method n x.file.now) same of in
      one_same (IsNumberOf p (SpecialCalls p.classes a.0 key)) (IsNumberOf p (IsSpecialBy key)) o
      (λ m (f, special, there). (f, (a.0, x.file.now, current, special), there))
      (λ m (f, (b, k, other, special), there). (f, subst (λ n. SpecialCalls p.classes n key f) (one_class_file p set.of.read x.body.now.method b a.0 k x.file.now other current).0 special, there))
      (told current.3)

  pub class_there : IsOne (λ (c : ClassId). (d : Declared) × (slice_get p.methods x.body.now.method.0 ≡ Some d) × (d.class ≡ c.0)) None → ⊥
  class_there none =
      let (c, (d, at, same, is)) = placed.file in
      let a : ClassId = record { 0 = c } in
      let e : None ≡ Some a = (none a).0 (d, at, sym same) in cc e

  pub called_special : (key : MemberKey) (o : Option MethodId) → NamesMember p (place_of x) key → IsSpecialCall x.instr.now.op
      → IsOne (IsNumberOf p (λ d. (c : ℕ) × (k : ClassFile) × ClassOf p x.body.now.method c k × SpecialCalls p.classes c key d)) o → IsOne (IsNumberOf p (IsCalledBy p (place_of x))) o
  called_special key o named is one = one_same (IsNumberOf p (IsSpecialBy key)) (IsNumberOf p (IsCalledBy p (place_of x))) o
      (λ m (d, (c, k, of, special), at). (d, (key, named, inr (kind_here t x p s names set placed IsSpecialCall is, c, k, of, special)), at)) (λ m (d, called, at). (d, from d called, at)) one
    where
      from : (d : Declared) → IsCalledBy p (place_of x) d → IsSpecialBy key d
      from d (other, m, inr (kind, c, k, of, special)) = subst (λ z. IsSpecialBy z d) (one_member p set.of.read (place_of x) other key m named) (c, k, of, special)
      from d (other, m, inl (kind, rest)) =
          let special : x.instr.now.op ≡ 183 = is in
          let static : x.instr.now.op ≡ 184 = kind_at t x p s names set placed IsStaticCall kind in
          absurd (omega (arith, static, special))

  -- an instruction of another kind calls none so
  pub called_other : (IsStaticCall x.instr.now.op → ⊥) → (IsSpecialCall x.instr.now.op → ⊥) → IsOne (IsNumberOf p (IsCalledBy p (place_of x))) None
  called_other static special = none_of (IsNumberOf p (IsCalledBy p (place_of x))) (λ m (d, called, at). never d called)
    where
      never : (d : Declared) → IsCalledBy p (place_of x) d → ⊥
      never d (key, named, inl (kind, rest)) = static (kind_at t x p s names set placed IsStaticCall kind)
      never d (key, named, inr (kind, c, k, of, rest)) = special (kind_at t x p s names set placed IsSpecialCall kind)

  pub called_unnamed : member_at x.file.now.pool x.instr.now.index ≡ None → IsOne (IsNumberOf p (IsCalledBy p (place_of x))) None
  called_unnamed none = none_of (IsNumberOf p (IsCalledBy p (place_of x))) (λ m (d, (key, named, how), at). let e : None ≡ Some key = sym none ∙ key_here t x p s names set placed key named in cc e)

  -- a call goes to the method that it calls, where that isn't abstract
  pub goes_one : (found o : Option MethodId) → IsOne (IsNumberOf p (IsCalledBy p (place_of x))) found
      → ((m : MethodId) → (o ≡ Some m) ↔ ((found ≡ Some m) × IsConcreteNumber p m)) → IsOne (GoesTo p (place_of x)) o
  goes_one found o one concrete = λ m. (to m, from m)
    where
      to : (m : MethodId) → GoesTo p (place_of x) m → o ≡ Some m
      to m (key, d, named, (at, never), how) =
          (concrete m).1 ((one m).0 (d, (key, named, how), at), λ e there abs. never (subst (λ (z : Declared). IsAbstractMethod p.classes z) (same_Some e d (sym there ∙ at)) abs))

      from : (m : MethodId) → o ≡ Some m → GoesTo p (place_of x) m
      from m e =
          let (is, never) = (concrete m).0 e in
          let (d, (key, named, how), at) = (one m).1 is in
          (key, d, named, (at, never d at), how)

  -- the method that the instruction names isn't found
  pub not_found_named : (key : MemberKey) (r : Bool) → member_at x.file.now.pool x.instr.now.index ≡ Some key → IsTrue r ↔ FindsMethod p.classes key None → IsTrue r ↔ IsNotFound p (place_of x)
  not_found_named key r e h =
      let named = named_here t x p s names set placed key e in
      (λ yes. (key, named, h.0 yes), λ (other, m, finds). h.1 (subst (λ z. FindsMethod p.classes z None) (one_member p set.of.read (place_of x) other key m named) finds))

  pub not_found_unnamed : member_at x.file.now.pool x.instr.now.index ≡ None → IsNotFound p (place_of x) → ⊥
  not_found_unnamed none (key, named, finds) = let e : None ≡ Some key = sym none ∙ key_here t x p s names set placed key named in cc e
