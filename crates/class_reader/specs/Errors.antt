-- What an error says of a file.
use Rattle.std.specs.Prelude.{◌≡◌, Result, Ok, Err}
use Rattle.byte_form.specs.Forms.{Truncated, Broken, Outcome}
use Rattle.byte_form.specs.Places.{State}
use Rattle.byte_form.specs.declared.error.ItemError.{ItemError}
use Rattle.byte_form.specs.declared.error.ItemError.TheVariants as items
use Rattle.class_form.specs.FirstFaults.{ClassFault, NotClass, Version, Item, Trailing}
use Rattle.class_reader.specs.declared.error.ReadError.{ReadError}
use Rattle.class_reader.specs.declared.error.ReadError.TheVariants as errors

abbrev pub error_of : ItemError → ReadError
error_of items.NoMemory = errors.NoMemory
error_of items.Truncated = errors.Truncated
error_of (items.Broken rule at) = errors.Broken rule at

-- the fault that an error names; want of memory names none
abbrev pub FileFails : {Y : Type 0} → ReadError → Result Y ClassFault → Type 0
FileFails errors.NoMemory read = Unit {0}
FileFails errors.NotClass read = read ≡ Err NotClass
FileFails (errors.Version v) read = read ≡ Err (Version v)
FileFails errors.Truncated read = read ≡ Err (Item Truncated)
FileFails (errors.Trailing at) read = read ≡ Err (Trailing at)
FileFails (errors.Broken rule at) read = read ≡ Err (Item (Broken rule at))

-- what was returned, and where the reader stands now, is the outcome, unless memory ran out
abbrev pub FileGives : {Y : Type 0} → Result Y ReadError → State → Outcome ClassFault Y → Type 0
FileGives (Ok x) now read = read ≡ Ok (x, now)
FileGives (Err e) now read = FileFails e read

-- what is found, wherever it ends
abbrev pub without_end : {Y : Type 0} → Outcome ClassFault Y → Result Y ClassFault
without_end (Ok x) = Ok x.0
without_end (Err f) = Err f

-- what was returned is the answer, unless memory ran out
abbrev pub FileAnswers : {Y : Type 0} → Result Y ReadError → Result Y ClassFault → Type 0
FileAnswers (Ok x) answer = answer ≡ Ok x
FileAnswers (Err e) answer = FileFails e answer

-- the fault that was returned, if one was
abbrev pub IfFileFault : {X : Type 0} → Result X ReadError → (ClassFault → Type 0) → Type 0
IfFileFault (Ok x) P = Unit {0}
IfFileFault (Err errors.NoMemory) P = Unit {0}
IfFileFault (Err errors.NotClass) P = P NotClass
IfFileFault (Err (errors.Version v)) P = P (Version v)
IfFileFault (Err errors.Truncated) P = P (Item Truncated)
IfFileFault (Err (errors.Trailing at)) P = P (Trailing at)
IfFileFault (Err (errors.Broken rule at)) P = P (Item (Broken rule at))
