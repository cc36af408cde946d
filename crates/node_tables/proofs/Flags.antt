-- Lists of answers, one for each method, or for each call of the root.
use Rattle.std.proofs.Common.{◌≡◌, ◌⊎◌, ◌↔◌, ◌<◌, ◌+◌, ◌++◌, ℕ, Bool, true, List, [], ◌∷◌, length, length-append, Some, inl, inr, refl, sym, ap, subst, ◌∙◌, arith}
use Rattle.std.specs.Prelude.{IsTrue, slice_get}
use Rattle.std.proofs.lemmas.Option.{same_Some, slice_get_within}
use Rattle.slicer_ids.specs.declared.ids.MethodId.{MethodId}
use Rattle.class_form.specs.declared.class_file.ClassFile.{ClassFile}
use Rattle.dep_form.specs.declared.system.System.{System}
use Rattle.program_form.specs.Programs.{Program}
use Rattle.program_code.specs.Codes.{IsProgramOfCode}
use Rattle.constraint_form.specs.Asked.{IsReadProgram}
use Rattle.fact_form.specs.EntryCalls.{IsGiven}
use Rattle.fact_form.specs.NodeNumbers.{IsAnswering}
use Rattle.fact_form.proofs.ItemLists.{joined}
use Rattle.node_tables.specs.Parts.{AreAnswers, AreGiven}

-- the flag at the end
last_flag : (flag b : Bool) (k : ℕ) → slice_get (flag ∷ []) k ≡ Some b → (k ≡ 0) × (flag ≡ b)
last_flag flag b k at =
    let first : k ≡ 0 = omega (arith, slice_get_within (flag ∷ []) k b at) in
    (first, same_Some flag b (subst (λ i. slice_get (flag ∷ []) i ≡ Some b) first at))

pub no_answers : (classes : List ClassFile) (flags : List Bool) → flags ≡ [] → AreAnswers classes flags 0
no_answers classes flags none = record {
  size = ap (λ (bs : List Bool). length bs) none;
  each = λ p same asked coded m b at. absurd (omega (arith, slice_get_within flags m.0 b at, ap (λ (bs : List Bool). length bs) none));
}

pub answers_more : (classes : List ClassFile) (m : ℕ) (old new : List Bool) (flag : Bool) → new ≡ old ++ flag ∷ [] → AreAnswers classes old m
    → ((p : Program) → p.classes ≡ classes → IsReadProgram p → IsProgramOfCode p → IsTrue flag ↔ IsAnswering p (record { 0 = m })) → AreAnswers classes new (m + 1)
answers_more classes m old new flag e are is = subst (λ (bs : List Bool). AreAnswers classes bs (m + 1)) (sym e) (record {
  size = omega (arith, are.size, length-append old (flag ∷ []));
  each = λ p same asked coded k b at. elim (joined old (flag ∷ []) k.0 b at) [
    | inl here ↦ are.each p same asked coded k b here
    | inr there ↦
        let last = last_flag flag b there.0 there.2 in
        let number : m ≡ k.0 = omega (arith, there.1, last.0, are.size) in
        subst (λ (z : Bool). (z ≡ true) ↔ IsAnswering p k) last.1 (subst (λ (z : ℕ). (flag ≡ true) ↔ IsAnswering p (record { 0 = z })) number (is p same asked coded))
  ];
})

pub none_given : (s : System) (entries : List MethodId) (flags : List Bool) → flags ≡ [] → AreGiven s entries flags 0
none_given s entries flags none = record {
  size = ap (λ (bs : List Bool). length bs) none;
  each = λ k t b entry at. absurd (omega (arith, slice_get_within flags k b at, ap (λ (bs : List Bool). length bs) none));
}

pub given_more : (s : System) (entries : List MethodId) (k : ℕ) (t : MethodId) (old new : List Bool) (flag : Bool) → slice_get entries k ≡ Some t → new ≡ old ++ flag ∷ [] → AreGiven s entries old k → IsTrue flag ↔ IsGiven s t
    → AreGiven s entries new (k + 1)
given_more s entries k t old new flag here e are is = subst (λ (bs : List Bool). AreGiven s entries bs (k + 1)) (sym e) (record {
  size = omega (arith, are.size, length-append old (flag ∷ []));
  each = λ j u b entry at. elim (joined old (flag ∷ []) j b at) [
    | inl before ↦ are.each j u b entry before
    | inr there ↦
        let last = last_flag flag b there.0 there.2 in
        let number : k ≡ j = omega (arith, there.1, last.0, are.size) in
        let same : t ≡ u = same_Some t u (sym here ∙ subst (λ i. slice_get entries i ≡ Some u) (sym number) entry) in
        subst (λ (z : MethodId). (b ≡ true) ↔ IsGiven s z) same (subst (λ (z : Bool). (z ≡ true) ↔ IsGiven s t) last.1 is)
  ];
})
