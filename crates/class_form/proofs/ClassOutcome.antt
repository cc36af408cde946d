-- The outcome of a class file is the one that is computed.
use Rattle.std.proofs.Common.{◌≡◌, ℕ, eqb, List, [], ◌∷◌, length, Ok, Err, refl, ap, subst, arith}
use Rattle.std.specs.Prelude.{codes}
use Rattle.std.specs.Bool.{Decides}
use Rattle.std.proofs.lemmas.Bool.Decides.{Decides-eqb, Decides-ltb, Decides-not}
use Rattle.std.proofs.lemmas.Bool.{eqb-true}
use Rattle.byte_form.specs.Places.{State, IsBytes}
use Rattle.byte_form.specs.Forms.{Fault, Outcome, Form, Broken, bytes, made, followed}
use Rattle.byte_form.specs.Reading.{◌>>=◌, check, number_at, bytes_at, inside_at}
use Rattle.byte_form.proofs.Outcomes.{Is, number_is, bytes_is, bytes_of, here_is, made_is, rule_is, either_is, followed_is, list_is, inside_is}
use Rattle.class_form.specs.FirstFaults.{ClassFault, NotClass, Version, Item, Trailing, counted, kept, plain_attribute, line, lines, other_code_content, code_attribute, handler, body, code, other_content, method_attribute, field, method, interface, class, items, ended, class_file, file}
use Rattle.class_form.specs.PoolReading.{read_pool}
use Rattle.class_form.specs.ClassReading.{read_counted, read_kept, read_plain_attribute, read_line, read_lines, read_other_code_content, read_code_content, read_code_attribute, read_handler, read_body, read_code, read_other_content, read_content, read_method_attribute, read_field, read_method, read_interface, read_class, read_item, read_class_file, read_file}
use Rattle.class_form.proofs.PoolOutcome.{pool_is}
use Rattle.class_form.proofs.ClassTests.{is_named-Decides, is_plain_class-Decides, is_superclass-Decides, are_field_texts-Decides, are_method_texts-Decides, is_new-Decides, has_slots-Decides, is_of_kind-Decides, any_code-Decides, has_code_where_needed-Decides, has_locals_for_all-Decides, is_code_length-Decides, is_handler-Decides, is_version-Decides, is_utf-Decides}
use Rattle.class_form.specs.declared.pool.Pool.{Pool}
use Rattle.class_form.specs.declared.class_file.Member.{Member}
use Rattle.class_form.specs.declared.class_file.Attribute.{Attribute}
use Rattle.class_form.specs.declared.class_file.Content.TheVariants as contents
use Rattle.class_form.specs.declared.class_file.CodeContent.TheVariants as code_contents

pub counted_is : {A : Type 0} (item : List A → Form Fault A) (one : List A → State → Outcome Fault A) → ((before : List A) (s : State) → IsBytes s.rest → Is (item before) s (one before s)) → (s : State) → IsBytes s.rest → Is (counted item) s (read_counted one s)
counted_is item one p s fits = followed_is _ _ (number_at 2 s) _ (number_is 2 s fits) (λ count e rest. list_is item one p count.0 [] count.1 rest)

kept_is : (s : State) → IsBytes s.rest → Is kept s (read_kept s)
unfolding kept read_kept
kept_is s fits = followed_is _ _ (number_at 4 s) _ (number_is 4 s fits) (λ len e rest. bytes_is len.0 len.1 rest)

pub plain_attribute_is : (p : Pool) (s : State) → IsBytes s.rest → Is (plain_attribute p) s (read_plain_attribute p s)
unfolding plain_attribute read_plain_attribute
plain_attribute_is p s fits = here_is _ (followed_is _ _ (number_at 2 s) _ (number_is 2 s fits) (λ name e rest.
    rule_is _ _ (is_utf-Decides p name.0) (λ good.
    followed_is _ _ (read_kept name.1) _ (kept_is name.1 rest) (λ content e rest.
    made_is (record { name = name.0; content = contents.Other content.0 }) content.1 rest))))

line_is : (len : ℕ) (s : State) → IsBytes s.rest → Is (line len) s (read_line len s)
unfolding line read_line
line_is len s fits = here_is _ (followed_is _ _ (number_at 2 s) _ (number_is 2 s fits) (λ pc e rest.
    followed_is _ _ (number_at 2 pc.1) _ (number_is 2 pc.1 rest) (λ number e rest.
    rule_is _ _ (Decides-ltb pc.0 len) (λ good. made_is (pc.0, number.0) number.1 rest))))

-- what stands in a box that was taken whole
taken_bytes : (n : ℕ) (s : State) (x : List ℕ × State) → IsBytes s.rest → bytes_at n s ≡ Ok x → IsBytes x.0
unfolding bytes
taken_bytes n s x fits e = let h = subst (bytes n s) e (bytes_is n s fits).holds in bytes_of s x.1 x.0 fits h.0

lines_is : (len at : ℕ) (s : State) → IsBytes s.rest → Is (lines len at) s (read_lines len at s)
unfolding lines read_lines
lines_is len at s fits = followed_is _ _ (number_at 4 s) _ (number_is 4 s fits) (λ size e rest. here_is _ (
    followed_is _ _ (bytes_at size.0 size.1) _ (bytes_is size.0 size.1 rest) (λ content e' rest'.
    followed_is _ _ (inside_at (Broken 12 at) size.1.at content.0 (read_counted (λ _. read_line len)) content.1) _
    (inside_is _ _ (Broken 12 at) size.1.at content.0 content.1 rest' (counted_is (λ _. line len) (λ _. read_line len) (λ _. line_is len) _ (taken_bytes size.0 size.1 content rest e'))) (λ pairs e rest.
    made_is (code_contents.Lines pairs.0) pairs.1 rest))))

other_code_content_is : (s : State) → IsBytes s.rest → Is other_code_content s (read_other_code_content s)
unfolding other_code_content read_other_code_content
other_code_content_is s fits = followed_is _ _ (read_kept s) _ (kept_is s fits) (λ content e rest. made_is (code_contents.Other content.0) content.1 rest)

pub code_attribute_is : (p : Pool) (len : ℕ) (s : State) → IsBytes s.rest → Is (code_attribute p len) s (read_code_attribute p len s)
unfolding code_attribute read_code_attribute read_code_content
code_attribute_is p len s fits = here_is _ (followed_is _ _ (number_at 2 s) _ (number_is 2 s fits) (λ name e rest.
    rule_is _ _ (is_utf-Decides p name.0) (λ good.
    followed_is _ _ (read_code_content p len s.at name.0 name.1) _ (either_is (is_named-Decides p name.0 (codes "LineNumberTable")) (λ yes. lines_is len s.at name.1 rest) (λ other. other_code_content_is name.1 rest)) (λ content e rest.
    made_is (record { name = name.0; content = content.0 }) content.1 rest))))

pub handler_is : (p : Pool) (len : ℕ) (s : State) → IsBytes s.rest → Is (handler p len) s (read_handler p len s)
unfolding handler read_handler
handler_is p len s fits = here_is _ (followed_is _ _ (number_at 2 s) _ (number_is 2 s fits) (λ start e rest.
    followed_is _ _ (number_at 2 start.1) _ (number_is 2 start.1 rest) (λ end e rest.
    followed_is _ _ (number_at 2 end.1) _ (number_is 2 end.1 rest) (λ handler e rest.
    followed_is _ _ (number_at 2 handler.1) _ (number_is 2 handler.1 rest) (λ catch_type e rest.
    rule_is _ _ (is_handler-Decides p len _) (λ good. made_is _ catch_type.1 rest))))))

body_is : (p : Pool) (s : State) → IsBytes s.rest → Is (body p) s (read_body p s)
unfolding body read_body
body_is p s fits = followed_is _ _ (number_at 2 s) _ (number_is 2 s fits) (λ max_stack e rest.
    followed_is _ _ (number_at 2 max_stack.1) _ (number_is 2 max_stack.1 rest) (λ max_locals e rest. here_is _ (
    followed_is _ _ (number_at 4 max_locals.1) _ (number_is 4 max_locals.1 rest) (λ len e rest.
    rule_is _ _ (is_code_length-Decides len.0) (λ good.
    followed_is _ _ (bytes_at len.0 len.1) _ (bytes_is len.0 len.1 rest) (λ code e rest.
    followed_is _ _ (read_counted (λ _. read_handler p len.0) code.1) _ (counted_is (λ _. handler p len.0) (λ _. read_handler p len.0) (λ _. handler_is p len.0) code.1 rest) (λ handlers e rest.
    followed_is _ _ (read_counted (λ _. read_code_attribute p len.0) handlers.1) _ (counted_is (λ _. code_attribute p len.0) (λ _. read_code_attribute p len.0) (λ _. code_attribute_is p len.0) handlers.1 rest) (λ attributes e rest.
    made_is _ attributes.1 rest))))))))

code_is : (p : Pool) (at : ℕ) (before : List Attribute) (s : State) → IsBytes s.rest → Is (code p at before) s (read_code p at before s)
unfolding code read_code
code_is p at before s fits = followed_is _ _ (number_at 4 s) _ (number_is 4 s fits) (λ size e rest. here_is _ (
    followed_is _ _ (bytes_at size.0 size.1) _ (bytes_is size.0 size.1 rest) (λ content e' rest'.
    rule_is _ _ (Decides-not _ (any_code-Decides before)) (λ first.
    followed_is _ _ (inside_at (Broken 12 at) size.1.at content.0 (read_body p) content.1) _
    (inside_is _ _ (Broken 12 at) size.1.at content.0 content.1 rest' (body_is p _ (taken_bytes size.0 size.1 content rest e'))) (λ code e rest.
    made_is (contents.Code code.0) code.1 rest)))))

other_content_is : (s : State) → IsBytes s.rest → Is other_content s (read_other_content s)
unfolding other_content read_other_content
other_content_is s fits = followed_is _ _ (read_kept s) _ (kept_is s fits) (λ content e rest. made_is (contents.Other content.0) content.1 rest)

pub method_attribute_is : (p : Pool) (before : List Attribute) (s : State) → IsBytes s.rest → Is (method_attribute p before) s (read_method_attribute p before s)
unfolding method_attribute read_method_attribute read_content
method_attribute_is p before s fits = here_is _ (followed_is _ _ (number_at 2 s) _ (number_is 2 s fits) (λ name e rest.
    rule_is _ _ (is_utf-Decides p name.0) (λ good.
    followed_is _ _ (read_content p s.at name.0 before name.1) _ (either_is (is_named-Decides p name.0 (codes "Code")) (λ yes. code_is p s.at before name.1 rest) (λ other. other_content_is name.1 rest)) (λ content e rest.
    made_is (record { name = name.0; content = content.0 }) content.1 rest))))

pub field_is : (p : Pool) (before : List Member) (s : State) → IsBytes s.rest → Is (field p before) s (read_field p before s)
unfolding field read_field
field_is p before s fits = here_is _ (followed_is _ _ (number_at 2 s) _ (number_is 2 s fits) (λ flags e rest.
    followed_is _ _ (number_at 2 flags.1) _ (number_is 2 flags.1 rest) (λ name e rest.
    followed_is _ _ (number_at 2 name.1) _ (number_is 2 name.1 rest) (λ descriptor e rest.
    rule_is _ _ (are_field_texts-Decides p name.0 descriptor.0) (λ texts.
    rule_is _ _ (is_new-Decides p before name.0 descriptor.0) (λ new.
    followed_is _ _ (read_counted (λ _. read_plain_attribute p) descriptor.1) _ (counted_is (λ _. plain_attribute p) (λ _. read_plain_attribute p) (λ _. plain_attribute_is p) descriptor.1 rest) (λ attributes e rest.
    made_is _ attributes.1 rest)))))))

pub method_is : (p : Pool) (class_flags : ℕ) (before : List Member) (s : State) → IsBytes s.rest → Is (method p class_flags before) s (read_method p class_flags before s)
unfolding method read_method
method_is p class_flags before s fits = here_is _ (followed_is _ _ (number_at 2 s) _ (number_is 2 s fits) (λ flags e rest.
    followed_is _ _ (number_at 2 flags.1) _ (number_is 2 flags.1 rest) (λ name e rest.
    followed_is _ _ (number_at 2 name.1) _ (number_is 2 name.1 rest) (λ descriptor e rest.
    rule_is _ _ (are_method_texts-Decides p name.0 descriptor.0) (λ texts.
    rule_is _ _ (is_new-Decides p before name.0 descriptor.0) (λ new.
    rule_is _ _ (has_slots-Decides p flags.0 descriptor.0) (λ slots.
    rule_is _ _ (is_of_kind-Decides p class_flags flags.0 name.0) (λ kind.
    followed_is _ _ (read_counted (read_method_attribute p) descriptor.1) _ (counted_is (method_attribute p) (read_method_attribute p) (method_attribute_is p) descriptor.1 rest) (λ attributes e rest.
    rule_is _ _ (has_code_where_needed-Decides p flags.0 name.0 attributes.0) (λ code.
    rule_is _ _ (has_locals_for_all-Decides p flags.0 descriptor.0 attributes.0) (λ locals.
    made_is _ attributes.1 rest)))))))))))

pub interface_is : (p : Pool) (s : State) → IsBytes s.rest → Is (interface p) s (read_interface p s)
unfolding interface read_interface
interface_is p s fits = here_is _ (followed_is _ _ (number_at 2 s) _ (number_is 2 s fits) (λ i e rest.
    rule_is _ _ (is_plain_class-Decides p i.0) (λ good. made_is i.0 i.1 rest)))

pub class_is : (minor major : ℕ) (s : State) → IsBytes s.rest → Is (class minor major) s (read_class minor major s)
unfolding class read_class
class_is minor major s fits = followed_is _ _ (read_pool major s) _ (pool_is major s fits) (λ p e rest.
    followed_is _ _ (number_at 2 p.1) _ (number_is 2 p.1 rest) (λ flags e rest. here_is _ (
    followed_is _ _ (number_at 2 flags.1) _ (number_is 2 flags.1 rest) (λ this_class e rest.
    rule_is _ _ (is_plain_class-Decides p.0 this_class.0) (λ plain. here_is _ (
    followed_is _ _ (number_at 2 this_class.1) _ (number_is 2 this_class.1 rest) (λ super_class e rest.
    rule_is _ _ (is_superclass-Decides p.0 this_class.0 super_class.0) (λ super.
    followed_is _ _ (read_counted (λ _. read_interface p.0) super_class.1) _ (counted_is (λ _. interface p.0) (λ _. read_interface p.0) (λ _. interface_is p.0) super_class.1 rest) (λ interfaces e rest.
    followed_is _ _ (read_counted (read_field p.0) interfaces.1) _ (counted_is (field p.0) (read_field p.0) (field_is p.0) interfaces.1 rest) (λ fields e rest.
    followed_is _ _ (read_counted (read_method p.0 flags.0) fields.1) _ (counted_is (method p.0 flags.0) (read_method p.0 flags.0) (method_is p.0 flags.0) fields.1 rest) (λ methods e rest.
    followed_is _ _ (read_counted (λ _. read_plain_attribute p.0) methods.1) _ (counted_is (λ _. plain_attribute p.0) (λ _. read_plain_attribute p.0) (λ _. plain_attribute_is p.0) methods.1 rest) (λ attributes e rest.
    made_is _ attributes.1 rest))))))))))))

-- ---- the file

items_ok : {A : Type 0} (form : Form Fault A) (s : State) (x : A × State) → Is form s (Ok x) → (p : Outcome ClassFault A) → items form s p → p ≡ Ok x
unfolding items
items_ok form s x q (Ok y) h = let e = q.only (Ok y) h in cc
items_ok form s x q (Err NotClass) h = absurd h
items_ok form s x q (Err (Version v)) h = absurd h
items_ok form s x q (Err (Item f)) h = absurd (let e = q.only (Err f) h in cc)
items_ok form s x q (Err (Trailing at)) h = absurd h

items_err : {A : Type 0} (form : Form Fault A) (s : State) (f : Fault) → Is form s (Err f) → (p : Outcome ClassFault A) → items form s p → p ≡ Err (Item f)
unfolding items
items_err form s f q (Ok y) h = absurd (let e = q.only (Ok y) h in cc)
items_err form s f q (Err NotClass) h = absurd h
items_err form s f q (Err (Version v)) h = absurd h
items_err form s f q (Err (Item g)) h = let same : g ≡ f = (let e = q.only (Err g) h in cc) in ap (λ d. Err (Item d)) same
items_err form s f q (Err (Trailing at)) h = absurd h

items_is : {A : Type 0} (form : Form Fault A) (s : State) (o : Outcome Fault A) → Is form s o → Is (items form) s (read_item o)
unfolding items
items_is form s (Ok x) q = record { holds = q.holds; only = items_ok form s x q; rest = q.rest }
items_is form s (Err f) q = record { holds = q.holds; only = items_err form s f q; rest = tt }

empty-Decides : (bytes : List ℕ) → Decides (eqb (length bytes) 0) (bytes ≡ [])
empty-Decides [] = (λ e. refl, λ e. refl)
empty-Decides (b ∷ bytes) = (λ e. absurd (omega (arith, eqb-true (length (b ∷ bytes)) 0 e)), λ e. absurd cc)

ended_is : {A : Type 0} (c : A) (s : State) → IsBytes s.rest → Is {F = ClassFault} (followed ended (λ _. made c)) s (check (eqb (length s.rest) 0) (Trailing s.at) >>= λ _. Ok (c, s))
unfolding ended followed
ended_is c s fits =
    let q = rule_is {P = s.rest ≡ []} (Trailing s.at) (λ _. made c) (empty-Decides s.rest) (λ e. made_is c s fits) in
    record { holds = q.holds; only = q.only; rest = q.rest }

class_file_is : (s : State) → IsBytes s.rest → Is class_file s (read_class_file s)
unfolding class_file read_class_file
class_file_is s fits = followed_is _ _ (read_item (number_at 4 s)) _ (items_is _ s _ (number_is 4 s fits)) (λ magic e rest.
    rule_is _ _ (Decides-eqb magic.0 0xcafebabe) (λ good.
    followed_is _ _ (read_item (number_at 2 magic.1)) _ (items_is _ magic.1 _ (number_is 2 magic.1 rest)) (λ minor e rest.
    followed_is _ _ (read_item (number_at 2 minor.1)) _ (items_is _ minor.1 _ (number_is 2 minor.1 rest)) (λ major e rest.
    rule_is _ _ (is_version-Decides major.0) (λ good. items_is _ major.1 _ (class_is minor.0 major.0 major.1 rest))))))

pub file_is : (s : State) → IsBytes s.rest → Is file s (read_file s)
unfolding file read_file
file_is s fits = followed_is _ _ (read_class_file s) _ (class_file_is s fits) (λ c e rest. ended_is c.0 c.1 rest)
