-- Inputs, one after another.
use Rattle.std.proofs.Common.{◌≡◌, ◌+◌, ◌++◌, ◌∷◌, [], ℕ, List, Option, Some, length, length-append, sym, ap, subst, ◌∙◌, inl, inr, arith}
use Rattle.std.specs.Prelude.{slice_get}
use Rattle.std.proofs.lemmas.Option.{slice_get_within}
use Rattle.slicer_ids.specs.declared.ids.MethodId.{MethodId}
use Rattle.dep_form.specs.declared.input.MethodInput.{MethodInput}
use Rattle.dep_form.proofs.Firsts.{pushed}
use Rattle.input_lists.specs.Inputs.{AreInputsBelow, IsOptionOf}
use Rattle.input_lists.specs.declared.scene.Scene.{Scene}

pub no_inputs : (x : Scene) (inputs : List (Option MethodInput)) → inputs ≡ [] → AreInputsBelow x 0 inputs
no_inputs x inputs none = record {
  size = ap (λ (zs : List (Option MethodInput)). length zs) none;
  each = λ m o at. absurd (omega (arith, slice_get_within inputs m.0 o at, ap (λ (zs : List (Option MethodInput)). length zs) none));
}

pub inputs_more : (x : Scene) (m : ℕ) (old new : List (Option MethodInput)) (o : Option MethodInput) → new ≡ old ++ o ∷ [] → AreInputsBelow x m old → IsOptionOf x (record { 0 = m }) o → AreInputsBelow x (m + 1) new
inputs_more x m old new o e are is = subst (λ (zs : List (Option MethodInput)). AreInputsBelow x (m + 1) zs) (sym e) (record {
  size = omega (arith, are.size, length-append old (o ∷ []));
  each = λ k other at. elim (pushed old o other k.0 at) [
    | inl here ↦ are.each k other here
    | inr there ↦
        let same : m ≡ k.0 = omega (arith, there.0, are.size) in
        subst (λ (z : Option MethodInput). IsOptionOf x k z) (sym there.1) (subst (λ (z : ℕ). IsOptionOf x (record { 0 = z }) o) same is)
  ];
})
