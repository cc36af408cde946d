-- What is read of all of a file.
use Rattle.std.proofs.Common.{◌≡◌, ℕ, List, Result, Ok, Err, ap, subst}
use Rattle.std.specs.Prelude.{IfOk}
use Rattle.byte_form.specs.Places.{State, IsBytes, start}
use Rattle.byte_form.specs.Forms.{Outcome, Truncated, Broken}
use Rattle.class_form.specs.ClassRules.{Spells}
use Rattle.class_form.specs.FirstFaults.{ClassFault, NotClass, Version, Item, Trailing, IsFirstFault}
use Rattle.class_form.specs.ClassReading.{read_file}
use Rattle.class_form.proofs.ClassLaws.{read_found, read_again, fault_found, fault_again}
use Rattle.class_form.specs.declared.class_file.ClassFile.{ClassFile}
use Rattle.class_reader.specs.Errors.{FileAnswers, IfFileFault, without_end}
use Rattle.class_reader.specs.declared.error.ReadError.{ReadError}
use Rattle.class_reader.specs.declared.error.ReadError.TheVariants as errors

ok_end : (o : Outcome ClassFault ClassFile) (c : ClassFile) → without_end o ≡ Ok c → (t : State) × (o ≡ Ok (c, t))
ok_end (Ok x) c e = let same : x.0 ≡ c = cc in (x.1, ap (λ (y : ClassFile). let r : Outcome ClassFault ClassFile = Ok (y, x.1) in r) same)
ok_end (Err f) c e = absurd cc

err_end : (o : Outcome ClassFault ClassFile) (f : ClassFault) → without_end o ≡ Err f → o ≡ Err f
err_end (Ok x) f e = absurd cc
err_end (Err g) f e = let same : g ≡ f = cc in ap (λ (y : ClassFault). let r : Outcome ClassFault ClassFile = Err y in r) same

module _ (bytes : List ℕ) (fits : IsBytes bytes) where
  pub found : (r : Result ClassFile ReadError) → FileAnswers r (without_end (read_file (start bytes))) → IfOk r (Spells bytes)
  found (Ok c) h = let e = ok_end (read_file (start bytes)) c h in read_found bytes c e.0 fits e.1
  found (Err e) h = tt

  pub only : (r : Result ClassFile ReadError) → FileAnswers r (without_end (read_file (start bytes))) → (c : ClassFile) → Spells bytes c → FileAnswers r (Ok c)
  only r h c k = subst (FileAnswers r) (ap without_end (read_again bytes c fits k)) h

  named : (f : ClassFault) → without_end (read_file (start bytes)) ≡ Err f → IsFirstFault bytes f
  named f h = fault_found bytes f fits (err_end (read_file (start bytes)) f h)

  pub fault : (r : Result ClassFile ReadError) → FileAnswers r (without_end (read_file (start bytes))) → IfFileFault r (IsFirstFault bytes)
  fault (Ok c) h = tt
  fault (Err errors.NoMemory) h = tt
  fault (Err errors.NotClass) h = named NotClass h
  fault (Err (errors.Version v)) h = named (Version v) h
  fault (Err errors.Truncated) h = named (Item Truncated) h
  fault (Err (errors.Trailing at)) h = named (Trailing at) h
  fault (Err (errors.Broken rule at)) h = named (Item (Broken rule at)) h

  pub refused : (r : Result ClassFile ReadError) → FileAnswers r (without_end (read_file (start bytes))) → (f : ClassFault) → IsFirstFault bytes f → FileAnswers r (Err f)
  refused r h f k = subst (FileAnswers r) (ap without_end (fault_again bytes f fits k)) h
