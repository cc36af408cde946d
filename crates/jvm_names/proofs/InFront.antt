-- Where names and dimensions end within bytes.
use Rattle.std.proofs.Common.{◌≡◌, ℕ, zero, suc, ◌+◌, ◌<◌, ◌≤◌, false, List, [], ◌∷◌, ◌++◌, length, take, drop, refl, sym, subst, ◌∙◌, ap, arith, length-append, append_assoc}
use Rattle.std.specs.Prelude.{◌==◌, not, replicate}
use Rattle.std.specs.List.{prefix_len, AllByRecursion}
use Rattle.std.proofs.lemmas.List.{length-replicate}
use Rattle.std.proofs.Math.Seq.{take-append_seam, drop-append_seam}
use Rattle.std.proofs.lemmas.Bool.Decides.{nat_tests}
use Rattle.class_form.specs.declared.types.BaseType.{BaseType}
use Rattle.class_form.specs.declared.types.BaseType.TheVariants.{Primitive, Class}
use Rattle.class_form.specs.Names.{IsClassName}
use Rattle.class_form.specs.Types.{IsBase, spell_base}
use Rattle.class_form.proofs.DescriptorsRead.{letter_is, is_letter-Decides}
use Rattle.class_form.proofs.OneType.{IsInside, name_inside}

abbrev pub to_semicolon : List ℕ → ℕ
to_semicolon bytes = prefix_len (λ b. not (b == 59)) bytes

abbrev pub brackets : List ℕ → ℕ
brackets bytes = prefix_len (λ b. b == 91) bytes

inside_len : (name rest : List ℕ) → AllByRecursion IsInside name → to_semicolon (name ++ 59 ∷ rest) ≡ length name
inside_len [] rest h = refl
inside_len (b ∷ name) rest h =
    let e : (b == 59) ≡ false = grind (arith, nat_tests, h.0) in
    rw e (ap (λ n. 1 + n) (inside_len name rest h.1) ∙ omega arith)

-- a name of a class ends at the first `;`
pub record NameEnds (bytes : List ℕ) (name rest : List ℕ) : Type 0 where
  pub within : to_semicolon bytes < length bytes
  pub front : take (to_semicolon bytes) bytes ≡ name
  pub back : drop (to_semicolon bytes) bytes ≡ 59 ∷ rest

pub name_ends : (bytes name rest : List ℕ) → IsClassName name → bytes ≡ name ++ 59 ∷ rest → NameEnds bytes name rest
name_ends bytes name rest h e =
    subst (λ x. NameEnds x name rest) (sym e) (whole (to_semicolon (name ++ 59 ∷ rest)) (inside_len name rest (name_inside name h)))
  where
    whole : (n : ℕ) → n ≡ length name → NameEnds (name ++ 59 ∷ rest) name rest
    whole n k =
        let len = inside_len name rest (name_inside name h) in
        record {
          within = omega (arith, len, length-append name (59 ∷ rest));
          front = ap (λ m. take m (name ++ 59 ∷ rest)) len ∙ take-append_seam name (59 ∷ rest);
          back = ap (λ m. drop m (name ++ 59 ∷ rest)) len ∙ drop-append_seam name (59 ∷ rest);
        }

brackets_len : (n : ℕ) (base : BaseType) (rest : List ℕ) → IsBase base → brackets ((replicate n 91 ++ spell_base base) ++ rest) ≡ n
brackets_len zero (Primitive letter) rest h =
    let l = letter_is letter ((is_letter-Decides letter).1 h) in
    let e : (letter == 91) ≡ false = grind (arith, nat_tests) in
    rw e refl
brackets_len zero (Class name) rest h = refl
brackets_len (suc n) base rest h = ap (λ m. 1 + m) (brackets_len n base rest h) ∙ omega arith

-- the dimensions end at the first byte that isn't `[`
pub record DimensionsEnd (bytes : List ℕ) (n : ℕ) (base : BaseType) (rest : List ℕ) : Type 0 where
  pub count : brackets bytes ≡ n
  pub within : brackets bytes ≤ length bytes
  pub front : take (brackets bytes) bytes ≡ replicate n 91
  pub back : drop (brackets bytes) bytes ≡ spell_base base ++ rest

pub dimensions_end : (bytes : List ℕ) (n : ℕ) (base : BaseType) (rest : List ℕ) → IsBase base → bytes ≡ (replicate n 91 ++ spell_base base) ++ rest → DimensionsEnd bytes n base rest
dimensions_end bytes n base rest h e = subst (λ x. DimensionsEnd x n base rest) (sym (e ∙ append_assoc (replicate n 91) (spell_base base) rest)) whole
  where
    whole : DimensionsEnd (replicate n 91 ++ (spell_base base ++ rest)) n base rest
    whole =
        let len = ap brackets (sym (append_assoc (replicate n 91) (spell_base base) rest)) ∙ brackets_len n base rest h in
        let size : length (replicate n 91) ≡ n = length-replicate n 91 in
        record {
          count = len;
          within = omega (arith, len, size, length-append (replicate n 91) (spell_base base ++ rest));
          front = ap (λ m. take m (replicate n 91 ++ (spell_base base ++ rest))) (len ∙ sym size) ∙ take-append_seam (replicate n 91) (spell_base base ++ rest);
          back = ap (λ m. drop m (replicate n 91 ++ (spell_base base ++ rest))) (len ∙ sym size) ∙ drop-append_seam (replicate n 91) (spell_base base ++ rest);
        }
