-- The code of a class that bytes spell is of bytes, and control can be followed in its shape.
use Rattle.std.proofs.Common.{◌<◌, ◌+◌, ℕ, List, [], ◌∷◌, ◌++◌, length, Contains, inl, inr, sym, subst, arith}
use Rattle.std.specs.List.{flat_map}
use Rattle.std.proofs.lemmas.Bool.{cases_lt}
use Rattle.std.proofs.lemmas.List.{get_or_past, get_or_append_left, get_or-append-add}
use Rattle.byte_form.specs.Places.{IsBytes}
use Rattle.byteorder.specs.Endian.{big_bytes}
use Rattle.class_form.specs.Spelling.{spelling, spell_class, spell_counted, spell_member, spell_attribute, spell_content, spell_code, spell_boxed, spell_pool, spell_handler, spell_code_attribute}
use Rattle.class_form.specs.ClassRules.{IsClassFile, Spells}
use Rattle.class_form.specs.Classes.{HasCode}
use Rattle.class_form.specs.Reaching.{IsFlow}
use Rattle.class_form.specs.declared.class_file.ClassFile.{ClassFile}
use Rattle.class_form.specs.declared.class_file.Member.{Member}
use Rattle.class_form.specs.declared.class_file.Content.{Content}
use Rattle.class_form.specs.declared.class_file.CodeBody.{CodeBody}
use Rattle.class_form.specs.declared.body.Body.{Body}
use Rattle.class_form.proofs.Indices.{head_or, there_at}
use Rattle.class_form.proofs.Flows.{shape_flows}
use Rattle.body_form.specs.Bodies.{IsBodyOf}
use Rattle.body_form.proofs.Slots.{are_arguments}
use Rattle.body_rules.specs.Methods.{IsCoded, HasOctets, number_of}
use Rattle.body_rules.proofs.Coded.{readable}

left : (a b : List ℕ) → IsBytes (a ++ b) → IsBytes a
left a b h = λ i. elim (cases_lt i (length a)) [
  | inl lt ↦ subst (λ (n : ℕ). n < 256) (get_or_append_left a b 0 i lt) (h i)
  | inr le ↦ subst (λ (n : ℕ). n < 256) (sym (get_or_past a i 0 le)) (omega arith)
]

right : (a b : List ℕ) → IsBytes (a ++ b) → IsBytes b
right a b h = λ i. subst (λ (n : ℕ). n < 256) (get_or-append-add a b i 0) (h (length a + i))

one_of : {A : Type 0} (f : A → List ℕ) (xs : List A) (x : A) → Contains xs x → IsBytes (flat_map f xs) → IsBytes (f x)
one_of f [] x c h = absurd (omega (arith, c.1))
one_of f (y ∷ xs) x c h = elim (head_or y x xs c) [
  | inl e ↦ subst (λ (z : _). IsBytes (f z)) e (left (f y) (flat_map f xs) h)
  | inr rest ↦ one_of f xs x rest (right (f y) (flat_map f xs) h)
]

in_counted : {A : Type 0} (f : A → List ℕ) (xs : List A) (x : A) → Contains xs x → IsBytes (spell_counted f xs) → IsBytes (f x)
in_counted f xs x c h = one_of f xs x c (right (big_bytes 2 (length xs)) (flat_map f xs) h)

in_boxed : (content : List ℕ) → IsBytes (spell_boxed content) → IsBytes content
in_boxed content h = right (big_bytes 4 (length content)) content h

in_code : (body : CodeBody) → IsBytes (spell_code body) → IsBytes body.code
in_code body h =
    let front = big_bytes 2 body.max_stack ++ big_bytes 2 body.max_locals in
    let code = spell_boxed body.code in
    let handlers = spell_counted spell_handler body.handlers in
    in_boxed body.code (right front code (left (front ++ code) handlers (left (front ++ code ++ handlers) (spell_counted spell_code_attribute body.attributes) h)))

in_member : (m : Member) (code : CodeBody) → HasCode m code → IsBytes (spell_member m) → IsBytes code.code
in_member m code (a, c, e) h =
    let attribute : IsBytes (spell_attribute a) = in_counted spell_attribute m.attributes a c (right (big_bytes 2 m.flags ++ big_bytes 2 m.name ++ big_bytes 2 m.descriptor) (spell_counted spell_attribute m.attributes) h) in
    let content : IsBytes (spell_content a.content) = in_boxed (spell_content a.content) (right (big_bytes 2 a.name) (spell_boxed (spell_content a.content)) attribute) in
    in_code code (subst (λ (k : Content). IsBytes (spell_content k)) e content)

pub code_octets : (bytes : List ℕ) (c : ClassFile) → IsBytes bytes → Spells bytes c → HasOctets c
code_octets bytes c octets spells = λ place m code there.
    let all : IsBytes (spelling c) = subst IsBytes spells.1 octets in
    let class : IsBytes (spell_class c) = right (big_bytes 4 0xcafebabe ++ big_bytes 2 c.minor ++ big_bytes 2 c.major) (spell_class c) all in
    let front = spell_pool c.pool ++ big_bytes 2 c.flags ++ big_bytes 2 c.this_class ++ big_bytes 2 c.super_class ++ spell_counted (big_bytes 2) c.interfaces ++ spell_counted spell_member c.fields in
    let members = spell_counted spell_member c.methods in
    let methods : IsBytes members = right front members (left (front ++ members) (spell_counted spell_attribute c.attributes) class) in
    in_member m code there.1 (in_counted spell_member c.methods m (there_at c.methods place m there.0) methods)

pub flow_of : (c : ClassFile) (place : ℕ) (m : Member) (code : CodeBody) (b : Body) → IsClassFile c → IsCoded c place m code → IsBodyOf c.pool (number_of place) m code b → IsFlow b.shape
flow_of c place m code b rules there read =
    shape_flows code b.instrs read.shape.0 b.shape read.shape.2 (are_arguments c.pool m code read.shape.0 read.shape.1 (readable c place m code rules there).room)
