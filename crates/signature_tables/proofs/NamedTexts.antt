-- The texts that a statement names.
use Rattle.std.proofs.Common.{◌≡◌, ◌⊎◌, ℕ, List, Option, Some, None, refl, sym, ap, subst, ◌∙◌}
use Rattle.std.proofs.lemmas.Option.{same_Some}
use Rattle.slicer_ids.specs.declared.ids.Statement.{Statement}
use Rattle.class_form.specs.Pools.{MemberKey, member_at}
use Rattle.class_form.specs.Opcodes.{IsVirtualCall, IsGetStatic, IsPutStatic}
use Rattle.class_form.specs.Classes.{Declared, AreInOrder}
use Rattle.class_form.specs.Resolution.{FindsField, FirstIn, DeclaresField}
use Rattle.class_form.specs.declared.class_file.ClassFile.{ClassFile}
use Rattle.class_form.specs.declared.body.Body.{Body}
use Rattle.class_form.specs.declared.body.Instr.{Instr}
use Rattle.program_form.specs.Programs.{Program, ClassOf}
use Rattle.program_form.specs.Statements.{IsAt, HasOpcode, NamesMember}
use Rattle.program_form.proofs.Visits.{one_field, one_first}
use Rattle.constraint_form.proofs.Instructions.{one_at, one_member, one_class_file}
use Rattle.signature_tables.specs.declared.wanted.Wanted.{Wanted}
use Rattle.signature_tables.specs.declared.wanted.Wanted.TheVariants.{Signatures, ForeignStatics}
use Rattle.signature_tables.specs.Programs.{IsOfClasses}
use Rattle.signature_tables.specs.Statements.{NamesTexts}
use Rattle.signature_tables.specs.Naming.{IsNamedBy, AreTextsOf}

-- a field is found or not
pub one_field_found : (classes : List ClassFile) (p : Program) → IsOfClasses classes p → (key : MemberKey) (a b : Option Declared) → FindsField classes key a → FindsField classes key b → a ≡ b
one_field_found classes p of key a b x y =
    let order = subst (λ ks. AreInOrder ks) of.classes_are of.read.classes in
    let F = DeclaresField classes key in
    let same = one_field classes order (Some key.class) y.1 x.1 in
    one_first F (of.fields_once key) x.0 x.2 (subst (λ cs. FirstIn F cs b) same y.2)

same_texts : (m : MemberKey) (nd : List ℕ × List ℕ) → m.name ≡ nd.0 → m.descriptor ≡ nd.1 → (m.name, m.descriptor) ≡ nd
same_texts m nd e f = ap (λ n. (n, m.descriptor)) e ∙ ap (λ d. (nd.0, d)) f

module _ (classes : List ClassFile) (p : Program) (of : IsOfClasses classes p) (t : Statement) (b : Body) (i : Instr) (c : ℕ) (k : ClassFile) (at : IsAt p t b i) (file : ClassOf p t.method c k) where
  kind_at : (K : ℕ → Type 0) → HasOpcode p t K → K i.op
  kind_at K (a, j, there, is) = let same = one_at p of.read t a b j i there at in subst (λ (x : Instr). K x.op) same.1 is

  names_here : (key : MemberKey) → member_at k.pool i.index ≡ Some key → NamesMember p t key
  names_here key e = (b, i, c, k, at, file, e)

  -- the instruction names the member of a key, which is looked for
  named_to : (wanted : Wanted) (m : MemberKey) → member_at k.pool i.index ≡ Some m → IsNamedBy wanted classes i.op m → NamesTexts wanted p t (m.name, m.descriptor)
  named_to Signatures m e is = (m, (b, i, at, is), names_here m e, refl, refl)
  named_to ForeignStatics m e (op, none) =
      (m, (b, i, at, op), (m, names_here m e, subst (λ ks. FindsField ks m None) (sym of.classes_are) none), names_here m e, refl, refl)

  named_from : (wanted : Wanted) (m : MemberKey) (nd : List ℕ × List ℕ) → member_at k.pool i.index ≡ Some m → NamesTexts wanted p t nd →
      IsNamedBy wanted classes i.op m × ((m.name, m.descriptor) ≡ nd)
  named_from Signatures m nd e (key, op, names, name, descriptor) =
      let same = one_member p of.read t m key (names_here m e) names in
      (kind_at IsVirtualCall op, texts same name descriptor)
    where
      texts : {key : MemberKey} → m ≡ key → key.name ≡ nd.0 → key.descriptor ≡ nd.1 → (m.name, m.descriptor) ≡ nd
      texts e f g = same_texts m nd (ap (λ (z : MemberKey). z.name) e ∙ f) (ap (λ (z : MemberKey). z.descriptor) e ∙ g)
  named_from ForeignStatics m nd e (key, op, (other, names_other, none), names, name, descriptor) =
      let same = one_member p of.read t m key (names_here m e) names in
      let again = one_member p of.read t other m names_other (names_here m e) in
      ((kind_at (λ op. IsGetStatic op ⊎ IsPutStatic op) op, subst (λ ks. FindsField ks m None) of.classes_are (subst (λ z. FindsField p.classes z None) again none)), texts same name descriptor)
    where
      texts : {key : MemberKey} → m ≡ key → key.name ≡ nd.0 → key.descriptor ≡ nd.1 → (m.name, m.descriptor) ≡ nd
      texts e f g = same_texts m nd (ap (λ (z : MemberKey). z.name) e ∙ f) (ap (λ (z : MemberKey). z.descriptor) e ∙ g)

  pub texts_named : (wanted : Wanted) (m : MemberKey) → member_at k.pool i.index ≡ Some m → IsNamedBy wanted classes i.op m → AreTextsOf wanted p t (Some (m.name, m.descriptor))
  texts_named wanted m e is = λ nd. (
    λ names. ap (λ z. Some z) (named_from wanted m nd e names).1,
    λ same. subst (λ z. NamesTexts wanted p t z) (same_Some _ _ same) (named_to wanted m e is),
  )

  pub not_named : (wanted : Wanted) (m : MemberKey) → member_at k.pool i.index ≡ Some m → (IsNamedBy wanted classes i.op m → ⊥) → AreTextsOf wanted p t None
  not_named wanted m e never = λ nd. (λ names. absurd (never (named_from wanted m nd e names).0), λ same. absurd (cc same))

  member_of_texts : (wanted : Wanted) (nd : List ℕ × List ℕ) → NamesTexts wanted p t nd → (key : MemberKey) × NamesMember p t key
  member_of_texts Signatures nd (key, op, names, name, descriptor) = (key, names)
  member_of_texts ForeignStatics nd (key, op, none, names, name, descriptor) = (key, names)

  pub no_member : (wanted : Wanted) → member_at k.pool i.index ≡ None → AreTextsOf wanted p t None
  no_member wanted e = λ nd. (
    λ names.
        let (key, (a, j, d, g, there, from, has)) = member_of_texts wanted nd names in
        let same = one_at p of.read t a b j i there at in
        let files = one_class_file p of.read t.method d c g k from file in
        let here : member_at k.pool i.index ≡ Some key = subst (λ (x : Instr). member_at k.pool x.index ≡ Some key) same.1 (subst (λ (x : ClassFile). member_at x.pool j.index ≡ Some key) files.1 has) in
        absurd (let f : None ≡ Some key = sym e ∙ here in cc f),
    λ same. absurd (cc same),
  )
