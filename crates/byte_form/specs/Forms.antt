-- Formats of items and rules. A form tells what is found at a place: a value, and the place after it, or the first fault.
-- A list of items and rules is read so: the items before stand there whole and the rules before hold, and the next one does or does not.
use Rattle.std.specs.Prelude.{◌≡◌, ◌⊎◌, ◌<◌, ◌^◌, ℕ, zero, suc, List, [], ◌∷◌, ◌++◌, length, Result, Ok, Err, ◌==◌, if◌then◌else◌}
use Rattle.byteorder.specs.Endian.{big_bytes}
use Rattle.byte_form.specs.Places.{State, Takes}

-- the first violated item: its bytes aren't all there, or it breaks the rule of this number, at the offset that the rule names
pub data Fault : Type 0 where
  Truncated : Fault
  Broken : (rule at : ℕ) → Fault

abbrev pub Outcome : Type 0 → Type 0 → Type 0
Outcome F A = Result (A × State) F

abbrev pub Form : Type 0 → Type 0 → Type 1
Form F A = State → Outcome F A → Type 0

-- a big-endian number of n bytes
unfoldable pub number : ℕ → Form Fault ℕ
number n s (Ok x) = Takes s (big_bytes n x.0) x.1 × (x.0 < 256 ^ n)
number n s (Err f) = (length s.rest < n) × (f ≡ Truncated)

-- n bytes
unfoldable pub bytes : ℕ → Form Fault (List ℕ)
bytes n s (Ok x) = Takes s x.0 x.1 × (length x.0 ≡ n)
bytes n s (Err f) = (length s.rest < n) × (f ≡ Truncated)

-- the offset of the place
unfoldable pub here : {F : Type 0} → Form F ℕ
here s (Ok x) = (x.0 ≡ s.at) × (x.1 ≡ s)
here s (Err f) = ⊥

-- a rule, and the fault where it doesn't hold
unfoldable pub rule : {F : Type 0} → Type 0 → F → Form F (Unit {0})
rule P fault s (Ok x) = P × (x.1 ≡ s)
rule P fault s (Err f) = (P → ⊥) × (f ≡ fault)

-- the value, with nothing more to be there
unfoldable pub made : {F A : Type 0} → A → Form F A
made a s (Ok x) = (x.0 ≡ a) × (x.1 ≡ s)
made a s (Err f) = ⊥

-- one form, and the next behind it
unfoldable pub followed : {F A B : Type 0} → Form F A → (A → Form F B) → Form F B
followed {F} {A} one next s o =
    ((x : A × State) × one s (Ok x) × next x.0 x.1 o) ⊎ ((f : F) × one s (Err f) × (o ≡ Err f))

infixl 10 ◌>>=◌ ◌>>◌
abbrev pub ◌>>=◌ : {F A B : Type 0} → Form F A → (A → Form F B) → Form F B
one >>= next = followed one next

abbrev pub ◌>>◌ : {F A B : Type 0} → Form F A → Form F B → Form F B
one >> next = followed one (λ _. next)

-- n items more behind those read before, on which an item may depend
unfoldable pub list : {F A : Type 0} → (List A → Form F A) → ℕ → List A → Form F (List A)
list item zero before = made before
list item (suc n) before = do
  x ← item before
  list item n (before ++ x ∷ [])

-- what is found in a box: an item that passes its end, and bytes that are left, are the box's own fault
abbrev pub sealed : {A : Type 0} → Fault → Outcome Fault A → Outcome Fault A
sealed fault (Ok x) = if length x.1.rest == 0 then Ok x else Err fault
sealed fault (Err Truncated) = Err fault
sealed fault (Err (Broken r at)) = Err (Broken r at)

-- the outcome of what was found in a box, at the place after the box
abbrev pub after_box : {A : Type 0} → State → Outcome Fault A → Outcome Fault A
after_box s (Ok x) = Ok (x.0, s)
after_box s (Err f) = Err f

-- the content of a box, which begins at an offset, has the form
unfoldable pub inside : {A : Type 0} → Fault → ℕ → List ℕ → Form Fault A → Form Fault A
inside {A} fault at content form s o =
    (found : Outcome Fault A) × form (record { at = at; rest = content }) found × (o ≡ after_box s (sealed fault found))

-- the one form where the fact holds, and the other where it doesn't
unfoldable pub either : {F A : Type 0} → Type 0 → Form F A → Form F A → Form F A
either P one other s o = (P × one s o) ⊎ ((P → ⊥) × other s o)
