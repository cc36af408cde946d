-- What is made from bytes that are known to spell something.
use Rattle.std.proofs.Common.{◌≡◌, List, [], ◌++◌, ℕ, Result, Ok, Err, sym, ◌∙◌, ap, append-nil}
use Rattle.class_form.specs.declared.types.FieldType.{FieldType}
use Rattle.class_form.specs.Types.{IsType, IsFieldType, spell_type}
use Rattle.class_form.proofs.OneType.{same_type}
use Rattle.jvm_names.specs.declared.error.NameError.{NameError}
use Rattle.jvm_names.specs.declared.error.NameError.TheVariants as reasons
use Rattle.jvm_names.specs.Reading.{Reads, Makes}

pub reads : {T : Type 0} (Spells : List ℕ → T → Type 0) (bytes : List ℕ) (result : Result T NameError) → (value : T) × Spells bytes value → Makes Spells bytes result → Reads Spells bytes result
reads Spells bytes (Ok value) w h = h
reads Spells bytes (Err reasons.NoMemory) w h = w
reads Spells bytes (Err (reasons.Malformed at)) w h = cc

-- a type in front of bytes that are a type is all of them
pub whole : (bytes rest : List ℕ) (t u : FieldType) → IsFieldType bytes t → IsType u → bytes ≡ spell_type u ++ rest → IsFieldType bytes u
whole bytes rest t u h is e =
    let none : [] ≡ rest = (same_type t u [] rest h.0 is (append-nil (spell_type t) ∙ sym h.1 ∙ e)).1 in
    (is, e ∙ ap (λ x. spell_type u ++ x) (sym none) ∙ append-nil (spell_type u))
