-- Whether arguments are references.
use Rattle.std.proofs.Common.{◌≡◌, ◌<◌, ◌≤◌, ◌+◌, ℕ, Bool, true, false, List, [], ◌∷◌, ◌++◌, length, refl, ap, arith}
use Rattle.std.proofs.lemmas.List.{map-append, length-map}
use Rattle.std.proofs.lemmas.List.Sums.{sum_by-cons}
use Rattle.class_form.specs.Types.{is_reference, width, slots}
use Rattle.class_form.specs.declared.types.FieldType.{FieldType}
use Rattle.class_form.specs.declared.types.MethodType.{MethodType}
use Rattle.program_form.specs.Programs.{references_of}
use Rattle.constraints.specs.Calls.{flags_of, AreFlagsOf}

pub flags_push : (receiver : Bool) (xs : List FieldType) (x : FieldType) → flags_of receiver (xs ++ x ∷ []) ≡ flags_of receiver xs ++ is_reference x ∷ []
flags_push true xs x = ap (λ (bs : List Bool). true ∷ bs) (map-append is_reference xs (x ∷ []))
flags_push false xs x = map-append is_reference xs (x ∷ [])

pub flags_are : (receiver : Bool) (m : MethodType) → flags_of receiver m.arguments ≡ references_of receiver m
flags_are true m = refl
flags_are false m = refl

-- each argument takes a slot or two
width_some : (t : FieldType) → 1 ≤ width t
width_some t = grind (arith)

few_types : (ts : List FieldType) → length ts ≤ slots ts
few_types [] = omega arith
few_types (t ∷ ts) = let e : slots (t ∷ ts) ≡ width t + slots ts = sum_by-cons width t ts in omega (arith, e, few_types ts, width_some t)

-- a call has at most 256 arguments, and one with a receiver has one
pub few_flags : (receiver : Bool) (bytes : List ℕ) (flags : List Bool) → AreFlagsOf receiver bytes flags → length flags ≤ 256
few_flags true bytes flags (m, (each, few, answer, spelled), e) = omega (arith, few, few_types m.arguments, length-map m.arguments is_reference, ap (λ (bs : List Bool). length bs) e)
few_flags false bytes flags (m, (each, few, answer, spelled), e) = omega (arith, few, few_types m.arguments, length-map m.arguments is_reference, ap (λ (bs : List Bool). length bs) e)

pub some_flag : (receiver : Bool) (bytes : List ℕ) (flags : List Bool) → AreFlagsOf receiver bytes flags → receiver ≡ true → 0 < length flags
some_flag true bytes flags (m, type, e) is = omega (arith, ap (λ (bs : List Bool). length bs) e)
some_flag false bytes flags (m, type, e) is = absurd cc
