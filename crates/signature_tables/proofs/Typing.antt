-- The tables of classes are those of a program.
use Rattle.std.proofs.Common.{◌≡◌, ◌<◌, ℕ, List, length, Option, Some, None, Contains, refl, sym, ap, subst, inl, inr}
use Rattle.std.specs.Prelude.{slice_get}
use Rattle.std.proofs.lemmas.Option.{same_Some, slice_get_within}
use Rattle.std.proofs.lemmas.List.Elements.{All-contains}
use Rattle.slicer_ids.specs.Sets.{IsOrderedListOf}
use Rattle.slicer_ids.specs.declared.ids.ClassId.{ClassId}
use Rattle.slicer_ids.specs.declared.ids.MethodId.{MethodId}
use Rattle.slicer_ids.proofs.Ordered.{one_ordered}
use Rattle.class_form.specs.Pools.{MemberKey}
use Rattle.class_form.specs.Classes.{Declared, IsNamed}
use Rattle.class_form.specs.Numbers.{AreMethods}
use Rattle.class_form.specs.Resolution.{Selects, FirstIn, DeclaresInstance}
use Rattle.class_form.proofs.Indices.{index_in}
use Rattle.hierarchy.specs.Selections.{member_key, IsMethodNumber}
use Rattle.program_form.specs.Programs.{Program}
use Rattle.program_form.specs.Systems.{ForeignBefore}
use Rattle.program_form.proofs.Visits.{one_chain, one_first}
use Rattle.constraint_form.specs.Asked.{IsReadProgram}
use Rattle.constraint_form.specs.Signatures.{IsSignature, SignatureNumber, IsChoice, IsSelection}
use Rattle.constraint_form.specs.ConstraintSystems.{AreTypes}
use Rattle.constraint_form.proofs.SiteNumbers.{one_signature, foreign_asym}
use Rattle.constraint_form.proofs.SitePassing.{one_name, same_selection}
use Rattle.signature_tables.specs.Pairs.{ClassesBefore, IsSubPair}
use Rattle.signature_tables.specs.Selections.{Choice, IsChosen, IsChoiceOf, AreChoices}
use Rattle.signature_tables.proofs.OneMethod.{one_methods, one_method_number}

module _ (p : Program) (asked : IsReadProgram p) (methods : AreMethods p.classes p.methods) (gs : List (List ℕ × List ℕ)) (ordered : IsOrderedListOf ForeignBefore gs (IsSignature p)) where
  -- a class selects one method for a name and descriptor
  one_selected : (name : List ℕ) (key : MemberKey) (a b : Option Declared) → Selects p.classes name key a → Selects p.classes name key b → a ≡ b
  one_selected name key a b x y =
      let F = DeclaresInstance p.classes key in
      let chain = one_chain p.classes asked.classes (Some name) y.1 x.1 in
      one_first F (asked.once key) x.0 x.2 (subst (λ cs. FirstIn F cs b) chain y.2)

  -- .. said of the class by another name of it, and of a key of the same texts
  moved : (name other : List ℕ) (c : ℕ) (nd : List ℕ × List ℕ) (key : MemberKey) (found : Option Declared) → IsNamed p.classes name c → IsNamed p.classes other c → (key.name, key.descriptor) ≡ nd →
      Selects p.classes other (member_key other nd.0 nd.1) found → Selects p.classes name key found
  moved name other c nd key found named too e sel =
      let here = subst (λ z. Selects p.classes z (member_key other nd.0 nd.1) found) (one_name p.classes other name c too named) sel in
      same_selection p.classes name (member_key other nd.0 nd.1) key found (sym (ap (λ (z : List ℕ × List ℕ). z.0) e)) (sym (ap (λ (z : List ℕ × List ℕ). z.1) e)) here

  number_at : (m : ℕ) (d : Declared) → IsMethodNumber p.classes m d → slice_get p.methods m ≡ Some d
  number_at m d (ms, are, at) = subst (λ zs. slice_get zs m ≡ Some d) (one_methods p.classes ms p.methods are methods) at

  chosen : (g : ℕ) (c : ClassId) (o : Option MethodId) (nd : List ℕ × List ℕ) → slice_get gs g ≡ Some nd → IsChosen p.classes nd c.0 o → IsSelection p g c o
  chosen g c None nd at (class, d, named, sel, abstract) = (member_key class nd.0 nd.1, class, d, (gs, ordered, at), named, sel, abstract)
  chosen g c (Some m) nd at (class, d, named, sel, concrete, number) =
      (member_key class nd.0 nd.1, class, d, (gs, ordered, at), named, sel, (number_at m.0 d number, concrete))

  signature_at : (key : MemberKey) (g : ℕ) → SignatureNumber p key g → slice_get gs g ≡ Some (key.name, key.descriptor)
  signature_at key g (hs, is, at) = subst (λ zs. slice_get zs g ≡ Some (key.name, key.descriptor)) (one_ordered ForeignBefore (IsSignature p) hs gs (λ x y u v. foreign_asym x y) is ordered) at

  below : (name : List ℕ) (c : ℕ) → IsNamed p.classes name c → c < length p.classes
  below name c (k, at, e) = slice_get_within p.classes c k at

  module _ (xs : List Choice) (choices : AreChoices p.classes gs xs) where
    listed : (g : ℕ) (c : ClassId) (o : Option MethodId) → Contains xs (g, c, o) → IsSelection p g c o
    listed g c o has =
        let (nd, at, lt, is) = All-contains (IsChoiceOf p.classes gs) xs (g, c, o) choices.each has in
        chosen g c o nd at is

    -- what a class selects is what was found
    one_choice : (g : ℕ) (c : ClassId) (key : MemberKey) (name : List ℕ) (d : Declared) (a b : Option MethodId) → SignatureNumber p key g → IsNamed p.classes name c.0 → Selects p.classes name key (Some d) →
        IsChoice p d a → IsSelection p g c b → a ≡ b
    one_choice g c key name d a b sig named sel is (other, other_name, e, other_sig, other_named, other_sel, has) =
        let same = one_signature p other key g other_sig sig in
        let here = subst (λ z. Selects p.classes z other (Some e)) (one_name p.classes other_name name c.0 other_named named) other_sel in
        let found : Some e ≡ Some d = one_selected name key (Some e) (Some d) (same_selection p.classes name other key (Some e) same.0 same.1 here) sel in
        by_kind a b is (subst (λ z. IsChoice p z b) (same_Some e d found) has)
      where
        by_kind : (a b : Option MethodId) → IsChoice p d a → IsChoice p d b → a ≡ b
        by_kind None None x y = refl
        by_kind None (Some m) x y = absurd (y.1 x)
        by_kind (Some m) None x y = absurd (x.1 y)
        by_kind (Some m) (Some n) x y = ap (λ k. Some (record { 0 = k })) (one_method_number p.classes p.methods d m.0 n.0 methods x.0 y.0)

    selected : (g : ℕ) (c : ClassId) (o : Option MethodId) → IsSelection p g c o → Contains xs (g, c, o)
    selected g c o (key, name, d, sig, named, sel, is) =
        let at = signature_at key g sig in
        elim (choices.asked (key.name, key.descriptor) g c at (below name c.0 named)) [
          | inl (b, has) ↦ subst (λ z. Contains xs (g, c, z)) (sym (one_choice g c key name d o b sig named sel is (listed g c b has))) has
          | inr (none, (class, too, out)) ↦
              let nothing = moved name class c.0 (key.name, key.descriptor) key None named too refl out in
              let e : Some d ≡ None = one_selected name key (Some d) None sel nothing in
              absurd (cc e)
        ]

    unlisted : (g : ℕ) (c : ClassId) (key : MemberKey) (name : List ℕ) → SignatureNumber p key g → IsNamed p.classes name c.0 → ((o : Option MethodId) → Contains xs (g, c, o) → ⊥) →
        Selects p.classes name key None
    unlisted g c key name sig named never = elim (choices.asked (key.name, key.descriptor) g c (signature_at key g sig) (below name c.0 named)) [
      | inl (b, has) ↦ absurd (never b has)
      | inr (none, (class, too, out)) ↦ moved name class c.0 (key.name, key.descriptor) key None named too refl out
    ]

    pub types_are : (subs : List (ClassId × ClassId)) → IsOrderedListOf ClassesBefore subs (IsSubPair p.classes) → AreTypes p subs xs
    types_are subs pairs = record {
      subs = λ c d. (λ has. All-contains (IsSubPair p.classes) subs (c, d) pairs.each has, λ is. pairs.whole (c, d) is);
      signatures = λ key is. let at = index_in gs (key.name, key.descriptor) (ordered.whole (key.name, key.descriptor) is) in (at.0, (gs, ordered, at.1));
      selected = λ g c o. (listed g c o, selected g c o);
      others = unlisted;
    }
