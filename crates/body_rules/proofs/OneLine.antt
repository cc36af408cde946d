-- Bytes are refused with one line at most, and those of a sound class with none.
use Rattle.std.proofs.Common.{◌≡◌, ◌<◌, ℕ, List, inl, inr, sym, ap, subst, ◌∙◌, arith}
use Rattle.std.proofs.lemmas.Bool.{cases_lt}
use Rattle.std.proofs.lemmas.Option.{same_Some}
use Rattle.byte_form.specs.Places.{IsBytes}
use Rattle.class_form.specs.ClassRules.{IsClassFile, Spells}
use Rattle.class_form.specs.Classes.{HasCode}
use Rattle.class_form.specs.Pools.{utf_at}
use Rattle.class_form.specs.FirstFaults.{ClassFault}
use Rattle.class_form.specs.FirstFaults as faults
use Rattle.class_form.specs.declared.class_file.ClassFile.{ClassFile}
use Rattle.class_form.specs.declared.class_file.Member.{Member}
use Rattle.class_form.specs.declared.class_file.CodeBody.{CodeBody}
use Rattle.class_form.specs.declared.code_error.CodeError.{CodeError}
use Rattle.class_form.proofs.ClassLaws.{one_value, one_fault, not_both}
use Rattle.body_form.specs.Bodies.{IsFirstFault}
use Rattle.body_form.proofs.OneBody.{no_body}
use Rattle.body_form.proofs.OneBody as bodies
use Rattle.refusal_lines.specs.Refusals.{file_refusal, method_refusal}
use Rattle.body_rules.specs.Methods.{IsCoded, HaveBodies, HaveBodiesBefore, IsSound, number_of}
use Rattle.body_rules.specs.Refused.{IsFirstBadCode, Refuses, no_class, bad_code, IsBadLine}
use Rattle.body_rules.proofs.Coded.{one_code, one_method, method_rules}

-- THE FIRST FAULT OF CODE

earlier_bad : (c : ClassFile) (name descriptor : List ℕ) (fault : CodeError) (k : IsFirstBadCode c name descriptor fault) (place : ℕ) → HaveBodiesBefore c place → k.place < place → ⊥
earlier_bad c name descriptor fault k place before lt =
    let b = before k.place k.method k.code lt k.there in
    no_body c.pool (number_of k.place) k.method k.code b.0 fault b.1 k.faulty

pub no_bad_code : (c : ClassFile) (name descriptor : List ℕ) (fault : CodeError) → HaveBodies c → IsFirstBadCode c name descriptor fault → ⊥
no_bad_code c name descriptor fault all k =
    let b = all k.place k.method k.code k.there in
    no_body c.pool (number_of k.place) k.method k.code b.0 fault b.1 k.faulty

bad_place : (c : ClassFile) (n d o e : List ℕ) (f g : CodeError) (h : IsFirstBadCode c n d f) (k : IsFirstBadCode c o e g) → h.place ≡ k.place
bad_place c n d o e f g h k = elim (cases_lt h.place k.place) [
  | inl lt ↦ absurd (earlier_bad c n d f h k.place k.before lt)
  | inr le ↦ elim (cases_lt k.place h.place) [ inl lt ↦ absurd (earlier_bad c o e g k h.place h.before lt) | inr ge ↦ omega arith ]
]

pub one_bad_code : (path : List ℕ) (c : ClassFile) (n d o e : List ℕ) (f g : CodeError) → IsClassFile c → IsFirstBadCode c n d f → IsFirstBadCode c o e g → method_refusal path n d f ≡ method_refusal path o e g
one_bad_code path c n d o e f g rules h k =
    let place = bad_place c n d o e f g h k in
    let there : IsCoded c h.place k.method k.code = subst (λ (i : ℕ). IsCoded c i k.method k.code) (sym place) k.there in
    let method = one_method c h.place h.method k.method h.there.0 there.0 in
    let has : HasCode h.method k.code = subst (λ (m : Member). HasCode m k.code) (sym method) there.1 in
    let code = one_code c.pool c.flags h.method h.code k.code (method_rules c h.place h.method rules h.there.0) h.there.1 has in
    let fault : f ≡ g = bodies.one_fault c.pool k.code f g (subst (λ (x : CodeBody). IsFirstFault c.pool x f) code h.faulty) k.faulty in
    let name : n ≡ o = same_Some n o (sym h.named ∙ ap (λ (m : Member). utf_at c.pool m.name) method ∙ k.named) in
    let descriptor : d ≡ e = same_Some d e (sym h.typed ∙ ap (λ (m : Member). utf_at c.pool m.descriptor) method ∙ k.typed) in
    ap (λ (x : List ℕ). method_refusal path x d f) name ∙ ap (λ (x : List ℕ). method_refusal path o x f) descriptor ∙ ap (λ (x : CodeError). method_refusal path o e x) fault

-- BYTES ARE REFUSED WITH ONE LINE

pub not_refused : (path bytes line : List ℕ) (c : ClassFile) → IsSound bytes c → Refuses path bytes line → ⊥
not_refused path bytes line c s (no_class fault octets first) = not_both bytes c fault octets s.spells first
not_refused path bytes line c s (bad_code d name descriptor fault octets spells bad) =
    let same = one_value bytes d c octets spells s.spells in
    no_bad_code c name descriptor fault s.bodies (subst (λ (x : ClassFile). IsFirstBadCode x name descriptor fault) same bad)

pub one_line : (path bytes : List ℕ) {s t : List ℕ} → Refuses path bytes s → Refuses path bytes t → s ≡ t
one_line path bytes (no_class f octets first) (no_class g more other) = ap (λ (x : ClassFault). file_refusal path x) (one_fault bytes f g octets first other)
one_line path bytes (no_class f octets first) (bad_code c n d g more spells bad) = absurd (not_both bytes c f octets spells first)
one_line path bytes (bad_code c n d f octets spells bad) (no_class g more other) = absurd (not_both bytes c g octets spells other)
one_line path bytes (bad_code c n d f octets spells bad) (bad_code k o e g more spelled other) =
    let same = one_value bytes k c octets spelled spells in
    one_bad_code path c n d o e f g spells.0 bad (subst (λ (x : ClassFile). IsFirstBadCode x o e g) same other)

-- WHAT IS FOUND

pub found_fault : (path bytes line : List ℕ) → IsBytes bytes → (fault : ClassFault) × faults.IsFirstFault bytes fault × (line ≡ file_refusal path fault) → Refuses path bytes line
found_fault path bytes line octets (fault, first, said) = subst (Refuses path bytes) (sym said) (no_class fault octets first)

pub found_bad : (path bytes line : List ℕ) (c : ClassFile) → IsBytes bytes → Spells bytes c → IsBadLine path c line → Refuses path bytes line
found_bad path bytes line c octets spells (name, descriptor, fault, bad, said) = subst (Refuses path bytes) (sym said) (bad_code c name descriptor fault octets spells bad)
