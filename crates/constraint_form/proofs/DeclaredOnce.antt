-- A class that is named as it should be declares each field and method once.
use Rattle.std.proofs.Common.{◌≡◌, ℕ, List, Some, All, sym, subst, ap, ◌∙◌}
use Rattle.std.specs.Prelude.{slice_get}
use Rattle.std.proofs.lemmas.Option.{same_Some}
use Rattle.std.proofs.lemmas.List.Elements.{All-contains}
use Rattle.class_form.specs.Pools.{MemberKey, utf_at}
use Rattle.class_form.specs.Classes.{Declared, IsDeclared}
use Rattle.class_form.specs.Numbers.{AreApart, IsNamedClass}
use Rattle.class_form.specs.Resolution.{DeclaresField, DeclaresMethod, DeclaresInstance}
use Rattle.class_form.specs.declared.class_file.ClassFile.{ClassFile}
use Rattle.class_form.specs.declared.class_file.Member.{Member}
use Rattle.class_form.proofs.Indices.{there_at}
use Rattle.program_form.specs.Programs.{DeclaresOnce}
use Rattle.constraint_form.proofs.OnePlace.{same_or_before}

same_place : (d e : Declared) → d.class ≡ e.class → d.index ≡ e.index → d ≡ e
same_place d e p q = ap (λ n. record { class = n; index = d.index }) p ∙ ap (λ n. record { class = e.class; index = n }) q

-- members that are apart stand at one place where they have one name and descriptor
one_index : (k : ClassFile) (ms : List Member) (key : MemberKey) (i j : ℕ) (x y : Member) → AreApart k.pool ms → IsDeclared k ms key.name key.descriptor i x → IsDeclared k ms key.name key.descriptor j y → i ≡ j
one_index k ms key i j x y apart (at, named, described) (there, named_too, described_too) =
    same_or_before (λ (a b : Member). (utf_at k.pool a.name ≡ utf_at k.pool b.name) × (utf_at k.pool a.descriptor ≡ utf_at k.pool b.descriptor) → ⊥) ms apart i j x y at there
    (λ never. never (named ∙ sym named_too, described ∙ sym described_too)) (λ never. never (named_too ∙ sym named, described_too ∙ sym described))

module _ (classes : List ClassFile) (named : All IsNamedClass classes) (key : MemberKey) where
  class_named : (c : ℕ) (k : ClassFile) → slice_get classes c ≡ Some k → IsNamedClass k
  class_named c k at = All-contains IsNamedClass classes k named (there_at classes c k at)

  pub field_once : DeclaresOnce (DeclaresField classes key)
  field_once d e (k, x, is, at) (j, y, has, there) same =
      let file : j ≡ k = same_Some j k (sym has ∙ subst (λ n. slice_get classes n ≡ Some k) same is) in
      same_place d e same (one_index k k.fields key d.index e.index x y (class_named d.class k is).apart_fields at (subst (λ (z : ClassFile). IsDeclared z z.fields key.name key.descriptor e.index y) file there))

  pub method_once : DeclaresOnce (DeclaresMethod classes key)
  method_once d e (k, x, is, at) (j, y, has, there) same =
      let file : j ≡ k = same_Some j k (sym has ∙ subst (λ n. slice_get classes n ≡ Some k) same is) in
      same_place d e same (one_index k k.methods key d.index e.index x y (class_named d.class k is).apart_methods at (subst (λ (z : ClassFile). IsDeclared z z.methods key.name key.descriptor e.index y) file there))

  pub instance_once : DeclaresOnce (DeclaresInstance classes key)
  instance_once d e (k, x, is, at, not_private, not_static) (j, y, has, there, neither, nor) same = method_once d e (k, x, is, at) (j, y, has, there) same
