-- The class initializers, by the numbers of methods.
use Rattle.std.proofs.Common.{◌≡◌, ◌<◌, ℕ, Bool, false, List, length, map, get_or, Option, Some, None, Contains, inl, inr, sym, ap, subst, ◌∙◌, arith}
use Rattle.std.specs.Prelude.{◌↔◌, IsTrue, slice_get}
use Rattle.std.proofs.lemmas.Bool.{false≢true}
use Rattle.std.proofs.lemmas.Option.{same_Some, slice_get_within, get_or_from_slice_get}
use Rattle.std.proofs.lemmas.List.Elements.{All-contains}
use Rattle.slicer_ids.specs.declared.ids.ClassId.{ClassId}
use Rattle.slicer_ids.specs.declared.ids.MethodId.{MethodId}
use Rattle.class_form.specs.Pools.{utf_at}
use Rattle.class_form.specs.Resolution.{clinit_name}
use Rattle.class_form.specs.Classes.{Declared, IsMethod}
use Rattle.class_form.specs.Numbers.{AreMethods, MemberBefore, IsThere}
use Rattle.class_form.specs.declared.class_file.ClassFile.{ClassFile}
use Rattle.class_form.specs.declared.class_file.Member.{Member}
use Rattle.class_form.proofs.Indices.{there_at}
use Rattle.hierarchy.specs.Places.{declared_at}
use Rattle.program_form.specs.Programs.{Program}
use Rattle.signature_tables.specs.Programs.{IsOfClasses}
use Rattle.variable_tables.proofs.Listing.{map_at, mapped}
use Rattle.variable_tables.proofs.OneMembers.{one_methods}
use Rattle.constraint_rules.specs.Settings.{IsInitializerOf, AreInitializers}
use Rattle.constraints.specs.Initializers.{IsNumbered, FromNumbers, ClassRises}

-- ---- tests of what was found

pub decided_some : {A : Type 0} (o : Option A) (a b : A) (r : Bool) → Some a ≡ o → IsTrue r ↔ (a ≡ b) → IsTrue r ↔ (o ≡ Some b)
decided_some o a b r e is = (λ t. sym e ∙ ap (λ z. Some z) (is.0 t), λ h. is.1 (same_Some a b (e ∙ h)))

pub decided_none : {A : Type 0} (o : Option A) (b : A) → None ≡ o → IsTrue false ↔ (o ≡ Some b)
decided_none o b e = (λ t. absurd (false≢true t), λ h. absurd (let g : None ≡ Some b = e ∙ h in cc g))

pub decided_item : {A : Type 0} (Q : A → Type 0) (o : Option A) (a : A) (r : Bool) → o ≡ Some a → IsTrue r ↔ Q a → IsTrue r ↔ ((x : A) × (o ≡ Some x) × Q x)
decided_item Q o a r e is = (λ t. (a, e, is.0 t), λ h. is.1 (subst Q (same_Some h.0 a (sym h.1 ∙ e)) h.2))

pub decided_missing : {A : Type 0} (Q : A → Type 0) (o : Option A) → o ≡ None → IsTrue false ↔ ((x : A) × (o ≡ Some x) × Q x)
decided_missing Q o e = (λ t. absurd (false≢true t), λ h. absurd (let g : None ≡ Some h.0 = sym e ∙ h.1 in cc g))

-- ---- the places of methods

-- programs of the same classes have as many methods
pub one_count : (classes : List ClassFile) (p q : Program) → IsOfClasses classes p → IsOfClasses classes q → length p.methods ≡ length q.methods
one_count classes p q of has = ap (λ (ds : List Declared). length ds) (one_methods classes p.methods q.methods of.methods_are has.methods_are)

module _ (classes : List ClassFile) (places : List (ClassId × ℕ)) (are : AreMethods classes (map declared_at places)) where
  -- are in order of their classes
  pub numbers_rise : (i j : ℕ) (a b : ClassId × MethodId) → i < j → IsNumbered classes places i a → IsNumbered classes places j b → ClassRises a b
  numbers_rise i j a b lt (q, at, (ia, e)) (r, there, (ib, f)) =
      let ds = map declared_at places in
      let first : slice_get ds i ≡ Some (declared_at q) = mapped declared_at places i q at in
      let second : slice_get ds j ≡ Some (declared_at r) = mapped declared_at places j r there in
      let d = declared_at q in
      let before = are.order i j d lt (slice_get_within ds j (declared_at r) second) in
      let here : MemberBefore (IsMethod classes) (declared_at q) (declared_at r) =
      subst (λ z. MemberBefore (IsMethod classes) z (declared_at r)) (get_or_from_slice_get ds i (declared_at q) d first)
      (subst (λ z. MemberBefore (IsMethod classes) (get_or ds i d) z) (get_or_from_slice_get ds j (declared_at r) d second) before) in
      rises here
    where
      rises : MemberBefore (IsMethod classes) (declared_at q) (declared_at r) → ClassRises a b
      rises (x, n, t, y, o, u, is, has, inl less) = omega (arith, less, ap (λ (z : ClassId × MethodId). z.0.0) e, ap (λ (z : ClassId × MethodId). z.0.0) f)
      rises (x, n, t, y, o, u, is, has, inr (same, rest)) = omega (arith, same, ap (λ (z : ClassId × MethodId). z.0.0) e, ap (λ (z : ClassId × MethodId). z.0.0) f)

  module _ (p : Program) (of : IsOfClasses classes p) where
    methods_are : p.methods ≡ map declared_at places
    methods_are = one_methods classes p.methods (map declared_at places) of.methods_are are

    is_initializer : (count : ℕ) (c : ClassId) (m : MethodId) → FromNumbers classes places count (c, m) → IsInitializerOf p c m
    is_initializer count c m (n, lt, (place, at, ((k, is, (x, member, named)), e))) =
        let ds = map declared_at places in
        let there : slice_get ds n ≡ Some (declared_at place) = mapped declared_at places n place at in
        let found = All-contains (IsThere (IsMethod classes)) ds (declared_at place) are.each (there_at ds n (declared_at place) there) in
        by place.0 n (ap (λ (z : ClassId × MethodId). z.0) e) (ap (λ (z : ClassId × MethodId). z.1) e) (subst (λ (zs : List Declared). slice_get zs n ≡ Some (declared_at place)) (sym methods_are) there) k is x member named found
      where
        by : (d : ClassId) (j : ℕ) → c ≡ d → m ≡ record { 0 = j } → slice_get p.methods j ≡ Some (record { class = d.0; index = place.1 })
            → (k : ClassFile) → slice_get classes d.0 ≡ Some k → (x : Member) → slice_get k.methods place.1 ≡ Some x → utf_at k.pool x.name ≡ Some clinit_name
            → IsThere (IsMethod classes) (record { class = d.0; index = place.1 }) → IsInitializerOf p c m
        by d j same number there k is x member named (y, name, bytes, (l, has, (at_index, told, described))) =
            let file : l ≡ k = same_Some l k (sym has ∙ is) in
            let one : y ≡ x = same_Some y x (sym (subst (λ (z : ClassFile). slice_get z.methods place.1 ≡ Some y) file at_index) ∙ member) in
            let name_is : name ≡ clinit_name = same_Some name clinit_name (sym (subst (λ (z : Member). utf_at k.pool z.name ≡ Some name) one (subst (λ (z : ClassFile). utf_at z.pool y.name ≡ Some name) file told)) ∙ named) in (
              record { class = d.0; index = place.1 },
              y,
              name,
              bytes,
              (
                subst (λ (z : MethodId). slice_get p.methods z.0 ≡ Some (record { class = d.0; index = place.1 })) (sym number) there,
                subst (λ (ks : List ClassFile). IsMethod ks (record { class = d.0; index = place.1 }) y name bytes) (sym of.classes_are) (l, has, (at_index, told, described)),
              ),
              name_is,
              ap (λ (z : ClassId). z.0) (sym same),
            )

    has_number : (count : ℕ) → count ≡ length p.methods → (c : ClassId) (m : MethodId) → IsInitializerOf p c m → FromNumbers classes places count (c, m)
    has_number count size c m (d, x, name, bytes, (at, method), is, class) =
        let there : slice_get (map declared_at places) m.0 ≡ Some d = subst (λ (zs : List Declared). slice_get zs m.0 ≡ Some d) methods_are at in
        let (place, at_place, same) = map_at declared_at places m.0 d there in
        let (k, has, (member, told, described)) = subst (λ (ks : List ClassFile). IsMethod ks d x name bytes) of.classes_are method in
        let number : place.0.0 ≡ d.class = ap (λ (z : Declared). z.class) same in
        let index : place.1 ≡ d.index = ap (λ (z : Declared). z.index) same in
        let of_class : c ≡ place.0 = ap (λ n. record { 0 = n }) (sym class ∙ sym number) in (
          m.0,
          omega (arith, slice_get_within p.methods m.0 d at, size),
          (
            place,
            at_place,
            (
              (
                k,
                subst (λ n. slice_get classes n ≡ Some k) (sym number) has,
                (x, subst (λ n. slice_get k.methods n ≡ Some x) (sym index) member, subst (λ n. utf_at k.pool x.name ≡ Some n) is told),
              ),
              ap (λ (z : ClassId). (let y : ClassId × MethodId = (z, m) in y)) of_class,
            ),
          ),
        )

    pub initializers_are : (count : ℕ) (xs : List (ClassId × MethodId)) → count ≡ length p.methods → ((e : ClassId × MethodId) → Contains xs e ↔ FromNumbers classes places count e) → AreInitializers p xs
    initializers_are count xs size exact = λ c m. (λ has. is_initializer count c m ((exact (c, m)).0 has), λ is. (exact (c, m)).1 (has_number count size c m is))
