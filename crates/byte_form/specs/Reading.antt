-- The outcome of each form, computed: with which contracts of functions that read say what is read.
use Rattle.std.specs.Prelude.{◌≡◌, Bool, ℕ, zero, suc, ◌+◌, List, [], ◌∷◌, ◌++◌, length, take, drop, Result, Ok, Err, nat_lt, if◌then◌else◌}
use Rattle.byteorder.specs.Endian.{big_number}
use Rattle.byte_form.specs.declared.error.ItemError.{ItemError}
use Rattle.byte_form.specs.declared.error.ItemError.TheVariants as errors
use Rattle.byte_form.specs.Places.{State}
use Rattle.byte_form.specs.Forms.{Fault, Truncated, Broken, Outcome, sealed}

infixl 10 ◌>>=◌
abbrev pub ◌>>=◌ : {F A B : Type 0} → Result A F → (A → Result B F) → Result B F
(Ok x) >>= f = f x
(Err e) >>= f = Err e

-- the fault that an error names; want of memory names none
abbrev pub Fails : {Y : Type 0} → ItemError → Result Y Fault → Type 0
Fails errors.NoMemory read = Unit {0}
Fails errors.Truncated read = read ≡ Err Truncated
Fails (errors.Broken r at) read = read ≡ Err (Broken r at)

-- what was returned, and where the reader stands now, is the outcome, unless memory ran out
abbrev pub Gives : {X Y : Type 0} → (X → Y) → Result X ItemError → State → Outcome Fault Y → Type 0
Gives view (Ok x) now read = read ≡ Ok (view x, now)
Gives view (Err e) now read = Fails e read

-- what was returned is the answer, unless memory ran out
abbrev pub Answers : {X Y : Type 0} → (X → Y) → Result X ItemError → Result Y Fault → Type 0
Answers view (Ok x) answer = answer ≡ Ok (view x)
Answers view (Err e) answer = Fails e answer

-- the fault that was returned, if one was
abbrev pub IfFault : {X : Type 0} → Result X ItemError → (Fault → Type 0) → Type 0
IfFault (Ok x) P = Unit {0}
IfFault (Err errors.NoMemory) P = Unit {0}
IfFault (Err errors.Truncated) P = P Truncated
IfFault (Err (errors.Broken r at)) P = P (Broken r at)

abbrev pub skip : ℕ → State → State
skip n s = record { at = s.at + n; rest = drop n s.rest }

unfoldable pub bytes_at : ℕ → State → Outcome Fault (List ℕ)
bytes_at n s = if nat_lt (length s.rest) n then Err Truncated else Ok (take n s.rest, skip n s)

unfoldable pub number_at : ℕ → State → Outcome Fault ℕ
number_at n s = do
  bytes ← bytes_at n s
  Ok (big_number n bytes.0, bytes.1)

-- a rule
abbrev pub check : {F : Type 0} → Bool → F → Result (Unit {0}) F
check b f = if b then Ok tt else Err f

-- n items more behind those read before
unfoldable pub list_at : {A : Type 0} → (List A → State → Outcome Fault A) → ℕ → List A → State → Outcome Fault (List A)
list_at one zero before s = Ok (before, s)
list_at one (suc n) before s = do
  x ← one before s
  list_at one n (before ++ x.0 ∷ []) x.1

-- what is read in the bytes that follow
unfoldable pub inside_at : {A : Type 0} → Fault → ℕ → List ℕ → (State → Outcome Fault A) → State → Outcome Fault A
inside_at fault at content one s = do
  x ← sealed fault (one (record { at = at; rest = content }))
  Ok (x.0, s)
