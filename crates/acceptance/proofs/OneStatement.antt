-- A statement of a program has one text.
use Rattle.std.proofs.Common.{◌≡◌, ◌≤◌, ◌<◌, ◌⊎◌, ℕ, suc, List, [], ◌∷◌, ◌++◌, Option, Some, None, Contains, refl, sym, ap, subst, ◌∙◌, inl, inr, arith}
use Rattle.std.specs.Prelude.{All, slice_get}
use Rattle.std.proofs.lemmas.Option.{same_Some}
use Rattle.std.proofs.lemmas.List.Elements.{All-contains}
use Rattle.slicer_ids.specs.declared.ids.MethodId.{MethodId}
use Rattle.slicer_ids.specs.declared.ids.Statement.{Statement}
use Rattle.class_form.specs.Pools.{utf_at}
use Rattle.class_form.specs.Classes.{Declared, IsMethod, IsNamed, class_name, HasCode}
use Rattle.class_form.specs.ClassRules.{IsClassFile, IsMethodMember}
use Rattle.class_form.specs.declared.class_file.ClassFile.{ClassFile}
use Rattle.class_form.specs.declared.class_file.CodeBody.{CodeBody}
use Rattle.class_form.specs.declared.class_file.Member.{Member}
use Rattle.class_form.proofs.Indices.{there_at}
use Rattle.program_form.specs.Programs.{Program, MethodOf, CodeOf}
use Rattle.program_form.specs.Lines.{IsLine, IsLineOf, line_pairs}
use Rattle.program_code.proofs.OneProgram.{one_code}
use Rattle.acceptance.specs.Statements.{IsStatementText, statement_text}

-- LINES

among : {A : Type 0} (before behind : List A) (x : A) → Contains (before ++ x ∷ behind) x
among [] behind x = (0, omega arith, refl)
among (y ∷ before) behind x = let c = among before behind x in (suc c.0, omega (arith, c.1), c.2)

-- where one list is taken apart twice, the parting items are one, or one of them stands before or behind the other
parted : {A : Type 0} (a b : List A) (x y : A) (c d : List A) → a ++ x ∷ c ≡ b ++ y ∷ d → (x ≡ y) ⊎ (Contains c y × Contains b x) ⊎ (Contains d x × Contains a y)
parted [] [] x y c d e = inl (cc e)
parted [] (z ∷ b) x y c d e =
    let head : z ≡ x = cc e in
    let rest : c ≡ b ++ y ∷ d = cc e in
    inr (inl (subst (λ l. Contains l y) (sym rest) (among b d y), subst (λ w. Contains (w ∷ b) x) (sym head) (0, omega arith, refl)))
parted (z ∷ a) [] x y c d e =
    let head : z ≡ y = cc e in
    let rest : d ≡ a ++ x ∷ c = cc e in
    inr (inr (subst (λ l. Contains l x) (sym rest) (among a c x), subst (λ w. Contains (w ∷ a) y) (sym head) (0, omega arith, refl)))
parted (z ∷ a) (w ∷ b) x y c d e = elim (parted a b x y c d (cc e)) [
  | inl same ↦ inl same
  | inr (inl (p, q)) ↦ inr (inl (p, (suc q.0, omega (arith, q.1), q.2)))
  | inr (inr (p, q)) ↦ inr (inr (p, (suc q.0, omega (arith, q.1), q.2)))
]

second_is : (a b c d : ℕ) → ◌≡◌ {A = ℕ × ℕ} (a, b) (c, d) → b ≡ d
second_is a b c d e = ap (λ (z : ℕ × ℕ). z.1) e

one_line : (pairs : List (ℕ × ℕ)) (pc : ℕ) (a b : Option ℕ) → IsLine pairs pc a → IsLine pairs pc b → a ≡ b
one_line pairs pc None None h g = refl
one_line pairs pc None (Some l) h (before, start, behind, is, at, earlier, later) =
    absurd (omega (arith, at, h (start, l) (subst (λ ps. Contains ps (start, l)) (sym is) (among before behind (start, l)))))
one_line pairs pc (Some l) None (before, start, behind, is, at, earlier, later) g =
    absurd (omega (arith, at, g (start, l) (subst (λ ps. Contains ps (start, l)) (sym is) (among before behind (start, l)))))
one_line pairs pc (Some l) (Some k) (before, start, behind, is, at, earlier, later) (past, first, rest, as', by, sooner, after) =
    elim (parted before past (start, l) (first, k) behind rest (sym is ∙ as')) [
      | inl same ↦ ap Some (second_is start l first k same)
      | inr (inl (p, q)) ↦ absurd (omega (arith, later (first, k) p by, sooner (start, l) q at))
      | inr (inr (p, q)) ↦ absurd (omega (arith, after (start, l) p at, earlier (first, k) q by))
    ]

-- TEXTS

module _ (p : Program) (sound : All IsClassFile p.classes) where
  member_sound : (c k : ℕ) (x : Member) (f : ClassFile) → slice_get p.classes c ≡ Some f → slice_get f.methods k ≡ Some x → IsMethodMember f.pool f.flags x
  member_sound c k x f class member =
      let file = All-contains IsClassFile p.classes f sound (there_at p.classes c f class) in
      All-contains (IsMethodMember f.pool f.flags) f.methods x file.methods (there_at f.methods k x member)

  one_code_of : (m : MethodId) (c d : CodeBody) → CodeOf p m c → CodeOf p m d → c ≡ d
  one_code_of m c d (g, x, n, t, (number, (f, class, (member, named, typed))), has) (h, y, o, u, (also, (j, there, (there_too, called, spelled))), too) =
      let place : g ≡ h = same_Some g h (sym number ∙ also) in
      let file : f ≡ j = same_Some f j (sym class ∙ ap (λ (z : Declared). slice_get p.classes z.class) place ∙ there) in
      let member_is : x ≡ y = same_Some x y (sym member ∙ ap (λ (z : Declared). slice_get f.methods z.index) place ∙ ap (λ (z : ClassFile). slice_get z.methods h.index) file ∙ there_too) in
      one_code x c d (member_sound g.class g.index x f class member).one_code has (subst (λ (z : Member). HasCode z d) (sym member_is) too)

  one_line_of : (s : Statement) (a b : Option ℕ) → IsLineOf p s a → IsLineOf p s b → a ≡ b
  one_line_of s a b (c, of, is) (d, by, as') =
      one_line (line_pairs c.attributes) s.pc a b is (subst (λ (z : CodeBody). IsLine (line_pairs z.attributes) s.pc b) (sym (one_code_of s.method c d of by)) as')

  pub one_text : (s : Statement) (a b : List ℕ) → IsStatementText p s a → IsStatementText p s b → a ≡ b
  one_text s a b (d, x, class, name, descriptor, line, (number, (k, at, (member, named, typed))), (j, there, called), of, e)
      (d', x', class', name', descriptor', line', (number', (k', at', (member', named', typed'))), (j', there', called'), of', e') =
      let place : d ≡ d' = same_Some d d' (sym number ∙ number') in
      let class_at : k ≡ k' = same_Some k k' (sym at ∙ ap (λ (z : Declared). slice_get p.classes z.class) place ∙ at') in
      let file : j ≡ j' = same_Some j j' (sym there ∙ ap (λ (z : Declared). slice_get p.classes z.class) place ∙ there') in
      let member_is : x ≡ x' = same_Some x x' (sym member ∙ ap (λ (z : Declared). slice_get k.methods z.index) place ∙ ap (λ (z : ClassFile). slice_get z.methods d'.index) class_at ∙ member') in
      let class_is : class ≡ class' = same_Some class class' (sym called ∙ ap class_name file ∙ called') in
      let name_is : name ≡ name' = same_Some name name' (sym named ∙ ap (λ (z : ClassFile). utf_at z.pool x.name) class_at ∙ ap (λ (z : Member). utf_at k'.pool z.name) member_is ∙ named') in
      let type_is : descriptor ≡ descriptor' = same_Some descriptor descriptor' (sym typed ∙ ap (λ (z : ClassFile). utf_at z.pool x.descriptor) class_at ∙ ap (λ (z : Member). utf_at k'.pool z.descriptor) member_is ∙ typed') in
      let line_is : line ≡ line' = one_line_of s line line' of of' in
      e ∙ ap (λ z. statement_text z name descriptor s.pc line) class_is ∙ ap (λ z. statement_text class' z descriptor s.pc line) name_is
      ∙ ap (λ z. statement_text class' name' z s.pc line) type_is ∙ ap (λ z. statement_text class' name' descriptor' s.pc z) line_is ∙ sym e'
