-- The texts that statements name, one after another.
use Rattle.std.proofs.Common.{◌≡◌, ℕ, List, [], ◌∷◌, ◌++◌, map, Some, Contains, sym, ap, subst, ◌∙◌, inl, inr}
use Rattle.std.specs.Prelude.{◌↔◌}
use Rattle.std.proofs.lemmas.List.{map-append}
use Rattle.std.proofs.lemmas.Option.{same_Some, slice_get_within}
use Rattle.std.proofs.lemmas.List.Elements.{Contains-push, Contains-push_cases}
use Rattle.slicer_ids.specs.declared.ids.MethodId.{MethodId}
use Rattle.slicer_ids.specs.declared.ids.Statement.{Statement}
use Rattle.worklists.specs.Growth.{Grows, FromOne}
use Rattle.worklists.proofs.Growing.{Grows-none}
use Rattle.class_form.specs.declared.class_file.ClassFile.{ClassFile}
use Rattle.class_form.specs.declared.body.Body.{Body}
use Rattle.class_form.specs.declared.body.Instr.{Instr}
use Rattle.program_form.specs.Programs.{Program}
use Rattle.program_form.specs.Statements.{IsAt}
use Rattle.constraint_form.proofs.Instructions.{one_body}
use Rattle.signature_tables.specs.declared.texts.Texts.{Texts}
use Rattle.signature_tables.specs.declared.wanted.Wanted.{Wanted}
use Rattle.signature_tables.specs.declared.wanted.Wanted.TheVariants.{Signatures, ForeignStatics}
use Rattle.signature_tables.specs.Programs.{IsOfClasses}
use Rattle.signature_tables.specs.Statements.{HasBody, HasMethod, IsInstrPc, NamesTexts, BodyNames, ProgramNames, statement}
use Rattle.signature_tables.specs.TextPairs.{pair_of}

-- one more
pub one_more : (old new : List Texts) (x : Texts) → new ≡ old ++ x ∷ [] → Grows (map pair_of old) (map pair_of new) (λ nd. Some (pair_of x) ≡ Some nd)
one_more old new x e =
    let f : map pair_of new ≡ map pair_of old ++ pair_of x ∷ [] = ap (λ (zs : List Texts). map pair_of zs) e ∙ map-append pair_of old (x ∷ []) in
    record {
      front = (pair_of x ∷ [], f);
      all = λ nd same. subst (Contains (map pair_of new)) (same_Some _ _ same) (subst (λ zs. Contains zs (pair_of x)) (sym f) (Contains-push (map pair_of old) (pair_of x)));
      only = λ nd c. elim (Contains-push_cases (map pair_of old) (pair_of x) nd (subst (λ zs. Contains zs nd) f c)) [ inl before ↦ inl before | inr same ↦ inr (ap (λ z. Some z) same) ];
    }

-- the method of a body has a number
pub body_method : (classes : List ClassFile) (b : Body) → HasBody classes b → HasMethod classes b.method
body_method classes b (p, of, has) =
    let (c, (d, x, n, t, method, code)) = of.read.coded b has in
    (p, of, slice_get_within p.methods b.method.0 d method.0)

-- a statement that names something has an instruction
pub instruction_of : (wanted : Wanted) (p : Program) (t : Statement) (nd : List ℕ × List ℕ) → NamesTexts wanted p t nd → (b : Body) × (i : Instr) × IsAt p t b i
instruction_of Signatures p t nd (key, (b, i, at, is), names, n, d) = (b, i, at)
instruction_of ForeignStatics p t nd (key, (b, i, at, is), none, names, n, d) = (b, i, at)

pub nothing_named : (classes : List ClassFile) (wanted : Wanted) (p : Program) (b : Body) (pc : ℕ) (xs : List (List ℕ × List ℕ)) → IsOfClasses classes p → Contains p.bodies b → (IsInstrPc b.instrs pc → ⊥) →
    Grows xs xs (NamesTexts wanted p (statement b pc))
nothing_named classes wanted p b pc xs of has none = Grows-none xs (NamesTexts wanted p (statement b pc)) (λ nd names.
    let (a, i, at) = instruction_of wanted p (statement b pc) nd names in
    let same = one_body p of.read a b at.0 has at.1 in
    none (i, subst (λ (x : Body). Contains x.instrs i) same at.2, at.3))

-- what some statement names is named by one of a body
pub by_bodies : (wanted : Wanted) (p : Program) (bodies : List Body) (nd : List ℕ × List ℕ) → p.bodies ≡ bodies → FromOne (BodyNames wanted p) bodies nd ↔ ProgramNames wanted p nd
by_bodies wanted p bodies nd e = (
  λ (b, has, (q, in_points, names)). (statement b q.pc, names),
  λ (t, names).
      let (b, i, at) = instruction_of wanted p t nd names in
      let (q, point) = at.4 in
      let place : t ≡ statement b q.pc = ap (λ (m : MethodId). record { method = m; pc = t.pc }) (sym at.1) ∙ ap (λ k. statement b k) (sym point.1) in
      (b, subst (λ bs. Contains bs b) e at.0, (q, point.0, subst (λ z. NamesTexts wanted p z nd) place names)),
)
