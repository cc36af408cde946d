-- Each place names a statement or has an error, and so an access; each class and line has statements or an error.
use Rattle.std.proofs.Common.{◌≡◌, ◌≢◌, ◌⊎◌, ℕ, zero, suc, List, [], ◌∷◌, Some, refl, sym, ap, subst, ◌∙◌, inl, inr}
use Rattle.std.specs.Prelude.{slice_get}
use Rattle.std.specs.FinMap as keys
use Rattle.std.specs.declared.cmp.Ordering.{Ordering}
use Rattle.std.specs.declared.cmp.Ordering.TheVariants.{Less, Equal, Greater}
use Rattle.std.specs.Ordering.{nat_cmp}
use Rattle.std.specs.Cmp.Lexicographic.{slice_cmp}
use Rattle.std.proofs.lemmas.Bool.{cases_eq}
use Rattle.std.proofs.lemmas.Option.{same_Some}
use Rattle.std.proofs.lemmas.Cmp.{nat_list_cmp_total, tied_itself}
use Rattle.slicer_ids.specs.declared.ids.ClassId.{ClassId}
use Rattle.slicer_ids.specs.declared.ids.MethodId.{MethodId}
use Rattle.slicer_ids.specs.declared.ids.Statement.{Statement}
use Rattle.dep_form.specs.declared.access.Access.{Access}
use Rattle.dep_form.specs.declared.facts.Facts.{Facts}
use Rattle.dep_form.specs.declared.texts.MethodText.{MethodText}
use Rattle.dep_form.specs.LookUps.{IsClassNamed, IsMethodNamed, IsStatement, IsAccessAt, AreAtLine}
use Rattle.script.specs.declared.command.Place.{Place}
use Rattle.report.specs.declared.reply.CommandError.{CommandError}
use Rattle.report.specs.declared.reply.CommandError.TheVariants.{NoClass, NoMethod, NoStatement, NoLine, NoAccess}
use Rattle.session_form.specs.Places.{HasNoClass, NamesMethod, NamesStatement, NamesNone, no_class, no_method, no_statement, IsAccess, NamesAccess, NamesNoAccess, no_place, no_access, NamesNoLine, no_such_class, no_such_line}
use Rattle.slicer_ids.proofs.Ordering.{Decided}

-- ---- whether two of a kind are equal
pub same_bytes : (a b : List ℕ) → Decided (a ≡ b)
same_bytes a b = by_result (slice_cmp nat_cmp a b) refl
  where
    by_result : (r : Ordering) → slice_cmp nat_cmp a b ≡ r → Decided (a ≡ b)
    by_result Less e = inr (λ same. absurd (cc (sym e ∙ ap (λ x. slice_cmp nat_cmp x b) same ∙ tied_itself nat_list_cmp_total b)))
    by_result Equal e = inl (keys.slice_cmp-IsAntisymmetric keys.nat_cmp-IsAntisymmetric a b e)
    by_result Greater e = inr (λ same. absurd (cc (sym e ∙ ap (λ x. slice_cmp nat_cmp x b) same ∙ tied_itself nat_list_cmp_total b)))

same_class : (a b : ClassId) → Decided (a ≡ b)
same_class a b = elim (cases_eq a.0 b.0) [ inl e ↦ inl (ap (λ n. record { 0 = n }) e) | inr other ↦ inr (λ e. other (ap (λ (x : ClassId). x.0) e)) ]

same_method : (a b : MethodId) → Decided (a ≡ b)
same_method a b = elim (cases_eq a.0 b.0) [ inl e ↦ inl (ap (λ n. record { 0 = n }) e) | inr other ↦ inr (λ e. other (ap (λ (x : MethodId). x.0) e)) ]

pub is_statement : (a b : Statement) → a.method ≡ b.method → a.pc ≡ b.pc → a ≡ b
is_statement a b m pc = ap (λ (x : MethodId). record { method = x; pc = a.pc }) m ∙ ap (λ (k : ℕ). record { method = b.method; pc = k }) pc

pub same_statement : (a b : Statement) → Decided (a ≡ b)
same_statement a b = elim (same_method a.method b.method) [
  | inl m ↦ elim (cases_eq a.pc b.pc) [ inl pc ↦ inl (is_statement a b m pc) | inr other ↦ inr (λ e. other (ap (λ (x : Statement). x.pc) e)) ]
  | inr other ↦ inr (λ e. other (ap (λ (x : Statement). x.method) e))
]

both : (P Q : Type 0) → Decided P → Decided Q → Decided (P × Q)
both P Q (inl p) (inl q) = inl (p, q)
both P Q (inl p) (inr never) = inr (λ h. never h.1)
both P Q (inr never) d = inr (λ h. never h.0)

-- ---- the first item of a list for which P holds, or none
module _ {A : Type 0} (P : A → Type 0) (decide : (x : A) → Decided (P x)) where
  abbrev Found : List A → Type 0
  Found xs = (k : ℕ) × (x : A) × (slice_get xs k ≡ Some x) × P x

  abbrev HasNone : List A → Type 0
  HasNone xs = (k : ℕ) (x : A) → slice_get xs k ≡ Some x → P x → ⊥

  not_here : (y : A) (xs : List A) → (P y → ⊥) → HasNone xs → HasNone (y ∷ xs)
  not_here y xs here never zero x e p = here (subst P (sym (same_Some y x e)) p)
  not_here y xs here never (suc k) x e p = never k x e p

  find : (xs : List A) → Found xs ⊎ HasNone xs
  find [] = inr (λ k x e p. absurd (cc e))
  find (y ∷ xs) = elim (decide y) [
    | inl p ↦ inl (0, y, refl, p)
    | inr here ↦ elim (find xs) [ inl h ↦ inl (suc h.0, h.1, h.2, h.3) | inr never ↦ inr (not_here y xs here never) ]
  ]

module _ (f : Facts) where
  -- ---- a class of the name
  class_or_none : (name : List ℕ) → ((c : ClassId) × IsClassNamed f name c) ⊎ HasNoClass f name
  class_or_none name = elim (find (λ n. n ≡ name) (λ n. same_bytes n name) f.classes) [
    | inl h ↦ inl (record { 0 = h.0 }, h.2 ∙ ap (λ n. Some n) h.3)
    | inr never ↦ inr (λ c is. never c.0 name is refl)
  ]

  -- ---- a method of the class
  abbrev Fits : ClassId → Place → MethodText → Type 0
  Fits c p t = (t.class ≡ c) × ((t.name ≡ p.name) × (t.descriptor ≡ p.descriptor))

  fits : (c : ClassId) (p : Place) (t : MethodText) → Decided (Fits c p t)
  fits c p t =
      both (t.class ≡ c) ((t.name ≡ p.name) × (t.descriptor ≡ p.descriptor)) (same_class t.class c)
      (both (t.name ≡ p.name) (t.descriptor ≡ p.descriptor) (same_bytes t.name p.name) (same_bytes t.descriptor p.descriptor))

  method_or_none : (c : ClassId) (p : Place) → ((m : MethodId) × IsMethodNamed f c p.name p.descriptor m) ⊎ ((m : MethodId) → IsMethodNamed f c p.name p.descriptor m → ⊥)
  method_or_none c p = elim (find (Fits c p) (fits c p) f.methods) [
    | inl (k, t, e, fit) ↦ inl (record { 0 = k }, (t, e, fit.0, fit.1.0, fit.1.1))
    | inr never ↦ inr (λ m is. never m.0 is.0 is.1 (is.2, (is.3, is.4)))
  ]

  -- ---- a statement of the method
  statement_or_none : (m : MethodId) (t : MethodText) (pc : ℕ) → slice_get f.methods m.0 ≡ Some t → Decided (IsStatement f (record { method = m; pc = pc }))
  statement_or_none m t pc at = elim (find (λ x. x.0 ≡ pc) (λ x. cases_eq x.0 pc) t.lines) [
    | inl h ↦ inl (t, at, h)
    | inr never ↦ inr (λ (u, there, h). let same : u ≡ t = same_Some u t (sym there ∙ at) in never h.0 h.1 (subst (λ (x : MethodText). slice_get x.lines h.0 ≡ Some h.1) same h.2) h.3)
  ]

  abbrev NamesOne : Place → Type 0
  NamesOne p = ((s : Statement) × NamesStatement f p s) ⊎ ((e : CommandError) × NamesNone f p e)

  pub statement_told : (p : Place) → NamesOne p
  statement_told p = elim (class_or_none p.class) [
    | inr never ↦ inr (NoClass, no_class never)
    | inl c ↦ elim (method_or_none c.0 p) [
      | inr never ↦ inr (NoMethod, no_method c.0 c.1 never)
      | inl m ↦
          let names : NamesMethod f p m.0 = (c.0, c.1, m.1) in
          elim (statement_or_none m.0 m.1.0 p.pc m.1.1) [ inl is ↦ inl (record { method = m.0; pc = p.pc }, (names, refl, is)) | inr never ↦ inr (NoStatement, no_statement m.0 names never) ]
    ]
  ]

  -- ---- an access at the statement
  access_or_none : (s : Statement) → ((a : Access) × IsAccessAt f s a) ⊎ (IsAccess f s → ⊥)
  access_or_none s = elim (find (λ x. x.0 ≡ s) (λ x. same_statement x.0 s) f.accesses) [
    | inl (k, x, e, is) ↦ inl (x.1, (k, e ∙ ap (λ t. Some (t, x.1)) is))
    | inr never ↦ inr (λ (a, (k, e)). never k (s, a) e refl)
  ]

  abbrev NamesOneAccess : Place → Type 0
  NamesOneAccess p = ((s : Statement) × (a : Access) × NamesAccess f p s a) ⊎ ((e : CommandError) × NamesNoAccess f p e)

  pub access_told : (p : Place) → NamesOneAccess p
  access_told p = elim (statement_told p) [
    | inr n ↦ inr (n.0, no_place n.1)
    | inl s ↦ elim (access_or_none s.0) [ inl a ↦ inl (s.0, a.0, (s.1, a.1)) | inr never ↦ inr (NoAccess, no_access s.0 s.1 never) ]
  ]

  -- ---- the statements of a class at a line
  at_line : (c : ClassId) (line : ℕ) → (ss : List Statement) × AreAtLine f c line ss
  at_line c line = elim (find (λ x. (x.0 ≡ c) × (x.1 ≡ line)) (λ x. both (x.0 ≡ c) (x.1 ≡ line) (same_class x.0 c) (cases_eq x.1 line)) f.lines) [
    | inl (k, x, e, is) ↦ (x.2, inl (k, x, e, is.0, is.1, refl))
    | inr never ↦ ([], inr (refl, λ k x e c l. never k x e (c, l)))
  ]

  abbrev HasStatements : List ℕ → ℕ → Type 0
  HasStatements name line =
      ((c : ClassId) × (ss : List Statement) × IsClassNamed f name c × AreAtLine f c line ss × (ss ≢ [])) ⊎ ((e : CommandError) × NamesNoLine f name line e)

  pub line_told : (name : List ℕ) (line : ℕ) → HasStatements name line
  line_told name line = elim (class_or_none name) [
    | inr never ↦ inr (NoClass, no_such_class never)
    | inl c ↦ let ss = at_line c.0 line in by_list c.0 c.1 ss.0 ss.1
  ]
    where
      by_list : (c : ClassId) → IsClassNamed f name c → (ss : List Statement) → AreAtLine f c line ss → HasStatements name line
      by_list c is [] at = inr (NoLine, no_such_line c is at)
      by_list c is (s ∷ ss) at = inl (c, s ∷ ss, is, at, λ e. absurd (cc e))
