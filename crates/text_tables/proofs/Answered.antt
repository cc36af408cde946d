-- Facts on what calls answer.
use Rattle.std.proofs.Common.{◌≡◌, ℕ, List, refl}
use Rattle.std.specs.Prelude.{IfOk, Result, Ok, Err}
use Rattle.jvm_names.specs.Reading.{Reads}
use Rattle.jvm_names.specs.declared.error.NameError.{NameError}
use Rattle.jvm_names.specs.declared.error.NameError.TheVariants.{NoMemory, Malformed}

pub ok_then : {T E : Type 0} (r : Result T E) (P Q : T → Type 0) → IfOk r P → ((x : T) → P x → Q x) → IfOk r Q
ok_then (Ok x) P Q h f = f x h
ok_then (Err e) P Q h f = tt

pub all_ok : {T E : Type 0} (r : Result T E) (Q : T → Type 0) → ((x : T) → Q x) → IfOk r Q
all_ok (Ok x) Q f = f x
all_ok (Err e) Q f = tt

-- what wasn't read for another reason than want of memory spells nothing
pub no_value : {T : Type 0} (Spells : List ℕ → T → Type 0) (bytes : List ℕ) (e : NameError) → Reads Spells bytes (Err e) → (e ≡ NoMemory → ⊥) → (v : T) → Spells bytes v → ⊥
no_value Spells bytes NoMemory h other v is = other refl
no_value Spells bytes (Malformed at) h other v is = h.0 v is
