-- What is read of a class file is spelled so, and what is spelled so is read; a fault that is read is the first one.
use Rattle.std.proofs.Common.{◌≡◌, ◌⊎◌, inl, inr, ℕ, List, Ok, Err, refl, sym, ap, subst, ◌∙◌}
use Rattle.byte_form.specs.Places.{State, IsBytes, start}
use Rattle.byte_form.specs.Forms.{Outcome}
use Rattle.class_form.specs.ClassRules.{Spells}
use Rattle.class_form.specs.FirstFaults.{ClassFault, file, IsFirstFault}
use Rattle.class_form.specs.ClassReading.{read_file}
use Rattle.class_form.proofs.ClassOutcome.{file_is}
use Rattle.class_form.proofs.FileAgree.{file_found, file_again, end_of}
use Rattle.class_form.specs.declared.class_file.ClassFile.{ClassFile}

pub read_found : (bytes : List ℕ) (c : ClassFile) (t : State) → IsBytes bytes → read_file (start bytes) ≡ Ok (c, t) → Spells bytes c
read_found bytes c t fits e = file_found bytes t c (subst (file (start bytes)) e (file_is (start bytes) fits).holds)

pub read_again : (bytes : List ℕ) (c : ClassFile) → IsBytes bytes → Spells bytes c → read_file (start bytes) ≡ Ok (c, end_of bytes)
read_again bytes c fits h = sym ((file_is (start bytes) fits).only (Ok (c, end_of bytes)) (file_again bytes c h))

pub fault_found : (bytes : List ℕ) (f : ClassFault) → IsBytes bytes → read_file (start bytes) ≡ Err f → IsFirstFault bytes f
fault_found bytes f fits e = subst (file (start bytes)) e (file_is (start bytes) fits).holds

pub fault_again : (bytes : List ℕ) (f : ClassFault) → IsBytes bytes → IsFirstFault bytes f → read_file (start bytes) ≡ Err f
fault_again bytes f fits h = sym ((file_is (start bytes) fits).only (Err f) h)

-- ---- the laws

pub one_value : (bytes : List ℕ) (c d : ClassFile) → IsBytes bytes → Spells bytes c → Spells bytes d → c ≡ d
one_value bytes c d fits h k =
    let e : (let r : Outcome ClassFault ClassFile = Ok (c, end_of bytes) in r) ≡ Ok (d, end_of bytes) = sym (read_again bytes c fits h) ∙ read_again bytes d fits k in
    let p : (c, end_of bytes) ≡ (d, end_of bytes) = cc in
    ap (λ (x : ClassFile × State). x.0) p

pub one_spelling : (a b : List ℕ) (c : ClassFile) → Spells a c → Spells b c → a ≡ b
one_spelling a b c h k = h.1 ∙ sym k.1

pub one_fault : (bytes : List ℕ) (f g : ClassFault) → IsBytes bytes → IsFirstFault bytes f → IsFirstFault bytes g → f ≡ g
one_fault bytes f g fits h k =
    let e : (let r : Outcome ClassFault ClassFile = Err f in r) ≡ Err g = sym (fault_again bytes f fits h) ∙ fault_again bytes g fits k in
    cc

pub not_both : (bytes : List ℕ) (c : ClassFile) (f : ClassFault) → IsBytes bytes → Spells bytes c → IsFirstFault bytes f → ⊥
not_both bytes c f fits h k = absurd (let e = sym (read_again bytes c fits h) ∙ fault_again bytes f fits k in cc)

pub either_one : (bytes : List ℕ) → IsBytes bytes → ((c : ClassFile) × Spells bytes c) ⊎ ((f : ClassFault) × IsFirstFault bytes f)
either_one bytes fits = by (read_file (start bytes)) refl
  where
    by : (o : Outcome ClassFault ClassFile) → read_file (start bytes) ≡ o → ((c : ClassFile) × Spells bytes c) ⊎ ((f : ClassFault) × IsFirstFault bytes f)
    by (Ok x) e = inl (x.0, read_found bytes x.0 x.1 fits e)
    by (Err f) e = inr (f, fault_found bytes f fits e)
