-- Code, and the attributes of methods, are found as they are spelled.
use Rattle.std.proofs.Common.{◌≡◌, ◌⊎◌, inl, inr, ℕ, ◌^◌, ◌<◌, List, [], ◌++◌, length, refl, sym, ap, subst, ◌∙◌, append_assoc, arith}
use Rattle.std.specs.Prelude.{Any, codes}
use Rattle.std.proofs.lemmas.List.{append-nil}
use Rattle.byteorder.specs.Endian.{big_bytes}
use Rattle.byte_form.specs.Forms.{Broken, made, followed, either}
use Rattle.byte_form.proofs.Agree as agree
use Rattle.byte_form.proofs.Agree.{Agrees, Chain, number_agree, bytes_agree, field, field_given, done, absorbed, anywhere, ruled, chosen, restated, inside_agree, counted_agree}
use Rattle.byte_form.proofs.Chains.{plain_chain, plain_all}
use Rattle.class_form.specs.Spelling.{spell_counted, spell_boxed, spell_handler, spell_code_attribute, spell_code, spell_content, spell_attribute}
use Rattle.class_form.specs.PoolRules.{IsUtf}
use Rattle.class_form.specs.ClassRules.{IsNamed, IsCode, IsCodeLength, IsCodeAttribute, IsSizedHandler, IsBody, IsContent, IsMethodAttribute}
use Rattle.class_form.specs.FirstFaults.{counted, code_attribute, handler, body, code, other_content, method_attribute}
use Rattle.class_form.proofs.AttributeAgree.{Free, kept_is_spelled, other_of, code_attribute_agree, handler_agree}
use Rattle.class_form.specs.declared.pool.Pool.{Pool}
use Rattle.class_form.specs.declared.class_file.Attribute.{Attribute}
use Rattle.class_form.specs.declared.class_file.Content.{Content}
use Rattle.class_form.specs.declared.class_file.Content.TheVariants as contents
use Rattle.class_form.specs.declared.class_file.CodeBody.{CodeBody}
use Rattle.class_form.specs.declared.class_file.CodeAttribute.{CodeAttribute}
use Rattle.class_form.specs.declared.class_file.Handler.{Handler}

-- ---- a body

body_is : (b : CodeBody) (stack locals : ℕ) (code : List ℕ) (handlers : List Handler) (attributes : List CodeAttribute) → b.max_stack ≡ stack → b.max_locals ≡ locals → b.code ≡ code → b.handlers ≡ handlers → b.attributes ≡ attributes
    → b ≡ record { max_stack = stack; max_locals = locals; code = code; handlers = handlers; attributes = attributes }
body_is b stack locals code handlers attributes e f g h i = rw (← e, ← f, ← g, ← h, ← i) refl

abbrev Handlers : Pool → ℕ → List Handler → Type 0
Handlers p len hs = (length hs < 256 ^ 2) × Chain (λ _. IsSizedHandler p len) [] hs

abbrev Attributes : Pool → ℕ → List CodeAttribute → Type 0
Attributes p len xs = (length xs < 256 ^ 2) × Chain (λ _. IsCodeAttribute p len) [] xs

abbrev Before : ℕ → ℕ → ℕ → List ℕ → CodeBody → Type 0
Before stack locals len code b = (b.code ≡ code) × ((length b.code ≡ len) × ((b.max_locals ≡ locals) × ((b.max_stack ≡ stack) × agree.Any b)))

-- the handlers and the attributes
body_end_agree : (p : Pool) (stack locals len : ℕ) (code : List ℕ) → length code ≡ len
    → Agrees (Before stack locals len code) (λ b. Handlers p (length b.code) b.handlers × Attributes p (length b.code) b.attributes) (λ b. spell_counted spell_handler b.handlers ++ spell_counted spell_code_attribute b.attributes)
    (followed (counted (λ _. handler p len)) (λ hs. followed (counted (λ _. code_attribute p len)) (λ xs. made (record { max_stack = stack; max_locals = locals; code = code; handlers = hs; attributes = xs }))))
body_end_agree p stack locals len code long = restated (λ b. Handlers p (length b.code) b.handlers × Attributes p (length b.code) b.attributes) (λ b. spell_counted spell_handler b.handlers ++ spell_counted spell_code_attribute b.attributes)
    (λ b k f. ap (λ (r : List ℕ). spell_counted spell_handler b.handlers ++ r) (sym (append-nil (spell_counted spell_code_attribute b.attributes))))
    (λ b k f. (subst (λ n. Handlers p n b.handlers) (sym k.1.0) f.0, subst (λ n. Attributes p n b.attributes) (sym k.1.0) f.1.0))
    (λ b k g. (subst (λ n. Handlers p n b.handlers) k.1.0 g.0, (subst (λ n. Attributes p n b.attributes) k.1.0 g.1, tt)))
    (field (λ (b : CodeBody). b.handlers) _ (counted_agree (λ before. handler_agree p len)) (λ hs f.
    field (λ (b : CodeBody). b.attributes) _ (counted_agree (λ before. code_attribute_agree p len)) (λ xs g.
    done (record { max_stack = stack; max_locals = locals; code = code; handlers = hs; attributes = xs }) (refl, (refl, (refl, (long, (refl, (refl, tt))))))
    (λ b k. body_is b stack locals code hs xs k.1.1.1.1.1.0 k.1.1.1.1.0 k.1.1.0 k.1.0 k.0))))

abbrev BodyParts : Pool → CodeBody → Type 0
BodyParts p b = (b.max_stack < 256 ^ 2) × ((b.max_locals < 256 ^ 2) × ((length b.code < 256 ^ 4) × (IsCodeLength (length b.code) × (Free b.code × (Handlers p (length b.code) b.handlers × Attributes p (length b.code) b.attributes)))))

body_spelled : (b : CodeBody) → spell_code b ≡ big_bytes 2 b.max_stack ++ (big_bytes 2 b.max_locals ++ (big_bytes 4 (length b.code) ++ (b.code ++ (spell_counted spell_handler b.handlers ++ spell_counted spell_code_attribute b.attributes))))
body_spelled b = simp append_assoc

body_agree : (p : Pool) → Agrees agree.Any (IsBody p) spell_code (body p)
unfolding body
body_agree p = restated (IsBody p) spell_code (λ b k f. body_spelled b) (λ b k f. to b f) (λ b k g. from b g)
    (field (λ (b : CodeBody). b.max_stack) _ (number_agree 2) (λ stack lt. field (λ (b : CodeBody). b.max_locals) _ (number_agree 2) (λ locals lt. anywhere _ (λ at.
    field (λ (b : CodeBody). length b.code) _ (number_agree 4) (λ len lt.
    ruled (λ (b : CodeBody). IsCodeLength (length b.code)) (Broken 14 at) _ (λ b k h. subst IsCodeLength (sym k.0) h) (λ b k h. subst IsCodeLength k.0 h) (λ good.
    field_given (λ (b : CodeBody). b.code) Free _ (bytes_agree len) (λ b k f. tt) (λ b k f. k.0) (λ code long. body_end_agree p stack locals len code long)))))))
  where
    to : (b : CodeBody) → BodyParts p b → IsBody p b
    to b f =
        let end = f.1.1.1.1.1 in
        record { max_stack = f.0; max_locals = f.1.0; code = f.1.1.1.0; handler_count = end.0.0; handlers = plain_all (IsSizedHandler p (length b.code)) b.handlers end.0.1; attribute_count = end.1.0; attributes = plain_all (IsCodeAttribute p (length b.code)) b.attributes end.1.1 }

    from : (b : CodeBody) → IsBody p b → BodyParts p b
    from b g = (g.max_stack, (g.max_locals, (omega (arith, g.code.1), (g.code, (tt, ((g.handler_count, plain_chain (IsSizedHandler p (length b.code)) b.handlers g.handlers), (g.attribute_count, plain_chain (IsCodeAttribute p (length b.code)) b.attributes g.attributes)))))))

-- ---- the content of an attribute

abbrev IsOther : Content → Type 0
IsOther c = (content : List ℕ) × (c ≡ contents.Other content)

abbrev HasBody : Content → Type 0
HasBody c = (b : CodeBody) × (c ≡ contents.Code b)

abbrev BodyFits : Pool → Content → Type 0
BodyFits p (contents.Code b) = IsBody p b
BodyFits p (contents.Other content) = ⊥

abbrev no_body : CodeBody
no_body = record { max_stack = 0; max_locals = 0; code = []; handlers = []; attributes = [] }

abbrev body_of : Content → CodeBody
body_of (contents.Code b) = b
body_of (contents.Other content) = no_body

code_spelled : (c : Content) → HasBody c → spell_content c ≡ spell_code (body_of c)
code_spelled (contents.Code b) h = refl
code_spelled (contents.Other content) h = absurd (let e = h.1 in cc)

code_is : (c : Content) (b : CodeBody) → HasBody c → body_of c ≡ b → c ≡ contents.Code b
code_is (contents.Code x) b h e = ap (λ (y : CodeBody). contents.Code y) e
code_is (contents.Other content) b h e = absurd (let e = h.1 in cc)

abbrev First : List Attribute → Type 0
First before = Any IsCode before → ⊥

code_agree : (p : Pool) (at : ℕ) (before : List Attribute) → Agrees agree.Any (λ c. HasBody c × ((length (spell_content c) < 256 ^ 4) × (First before × IsBody p (body_of c)))) (λ c. spell_boxed (spell_content c)) (code p at before)
unfolding code
code_agree p at before = absorbed {K = HasBody} (restated (λ c. (length (spell_content c) < 256 ^ 4) × (First before × IsBody p (body_of c))) (λ c. spell_boxed (spell_content c))
    (λ c k f. ap (λ (r : List ℕ). big_bytes 4 (length (spell_content c)) ++ r) (sym (append-nil (spell_content c))))
    (λ c k f. (f.0, (f.1.1.0, f.1.1.1.0))) (λ c k g. (g.0, (tt, (g.1.0, (g.1.1, tt)))))
    (field (λ c. length (spell_content c)) _ (number_agree 4) (λ size lt. anywhere _ (λ first.
    field_given spell_content Free _ (bytes_agree size) (λ c k f. tt) (λ c k f. k.0) (λ content long.
    ruled (λ _. First before) (Broken 13 at) _ (λ c k h. h) (λ c k h. h) (λ alone.
    field_given body_of (IsBody p) _ (inside_agree (Broken 12 at) first content (body_agree p)) (λ c k f. f.1) (λ c k g. (sym (code_spelled c k.1.1) ∙ k.0, g)) (λ b f.
    done (contents.Code b) (refl, (f.0, (ap length f.0 ∙ long, (b, refl)))) (λ c k. code_is c b k.1.1.1 k.0))))))))

other_spelled : (c : Content) → IsOther c → spell_content c ≡ other_of c
other_spelled (contents.Code b) h = absurd (let e = h.1 in cc)
other_spelled (contents.Other content) h = refl

other_is : (c : Content) (content : List ℕ) → IsOther c → other_of c ≡ content → c ≡ contents.Other content
other_is (contents.Code b) content h e = absurd (let e = h.1 in cc)
other_is (contents.Other x) content h e = ap (λ (ys : List ℕ). contents.Other ys) e

other_agree : Agrees agree.Any (λ c. IsOther c × (length (spell_content c) < 256 ^ 4)) (λ c. spell_boxed (spell_content c)) other_content
unfolding other_content
other_agree = absorbed {K = IsOther} (restated (λ c. length (spell_content c) < 256 ^ 4) (λ c. spell_boxed (spell_content c))
    (λ c k f. ap spell_boxed (other_spelled c k) ∙ sym (append-nil (spell_boxed (other_of c))))
    (λ c k f. rw (other_spelled c k) f.0) (λ c k g. (rw (other_spelled c k) at g, tt))
    (field other_of _ kept_is_spelled (λ content len. done (contents.Other content) (refl, (content, refl)) (λ c k. other_is c content k.1 k.0))))

abbrev IsCodeContent : Content → Type 0
IsCodeContent (contents.Code b) = Unit {0}
IsCodeContent (contents.Other content) = ⊥

abbrev FitsContent : Pool → ℕ → List Attribute → Content → Type 0
FitsContent p name before c = (length (spell_content c) < 256 ^ 4) × (IsContent p name c × (IsCodeContent c → First before))

content_agree : (p : Pool) (name at : ℕ) (before : List Attribute) → Agrees agree.Any (FitsContent p name before) (λ c. spell_boxed (spell_content c)) (either (IsNamed p name (codes "Code")) (code p at before) other_content)
content_agree p name at before = restated (FitsContent p name before) (λ c. spell_boxed (spell_content c)) (λ c k f. refl) (λ c k f. to c f) (λ c k g. from c g) (chosen (λ yes. code_agree p at before) (λ other. other_agree))
  where
    to : (c : Content) → (IsNamed p name (codes "Code") × (HasBody c × ((length (spell_content c) < 256 ^ 4) × (First before × IsBody p (body_of c))))) ⊎ ((IsNamed p name (codes "Code") → ⊥) × (IsOther c × (length (spell_content c) < 256 ^ 4))) → FitsContent p name before c
    to (contents.Code b) h = elim h [ inl k ↦ (k.1.1.0, ((k.0, k.1.1.1.1), λ _. k.1.1.1.0)) | inr k ↦ absurd (let e = k.1.0.1 in cc) ]
    to (contents.Other content) h = elim h [ inl k ↦ absurd (let e = k.1.0.1 in cc) | inr k ↦ (k.1.1, (k.0, λ e. absurd e)) ]

    from : (c : Content) → FitsContent p name before c → (IsNamed p name (codes "Code") × (HasBody c × ((length (spell_content c) < 256 ^ 4) × (First before × IsBody p (body_of c))))) ⊎ ((IsNamed p name (codes "Code") → ⊥) × (IsOther c × (length (spell_content c) < 256 ^ 4)))
    from (contents.Code b) g = inl (g.1.0.0, ((b, refl), (g.0, (g.1.1 tt, g.1.0.1))))
    from (contents.Other content) g = inr (g.1.0, ((content, refl), g.0))

-- ---- an attribute of a method

attribute_is : (a : Attribute) (name : ℕ) (content : Content) → a.name ≡ name → a.content ≡ content → a ≡ record { name = name; content = content }
attribute_is a name content e f = rw (← e, ← f) refl

code_or_not : (n : ℕ) (c : Content) → (IsCode (record { name = n; content = c }) → IsCodeContent c) × (IsCodeContent c → IsCode (record { name = n; content = c }))
code_or_not n (contents.Code b) = (λ _. tt, λ _. tt)
code_or_not n (contents.Other content) = (λ h. h, λ h. h)

-- behind these
abbrev pub IsNextAttribute : Pool → List Attribute → Attribute → Type 0
IsNextAttribute p before a = IsMethodAttribute p a × (IsCode a → First before)

pub method_attribute_agree : (p : Pool) (before : List Attribute) → Agrees agree.Any (IsNextAttribute p before) spell_attribute (method_attribute p before)
unfolding method_attribute
method_attribute_agree p before = restated (IsNextAttribute p before) spell_attribute (λ a k f. refl)
    (λ a k f. (record { number = f.0; name = f.1.0; size = f.1.1.0; content = f.1.1.1.0 }, λ h. f.1.1.1.1 ((code_or_not a.name a.content).0 h)))
    (λ a k g. (g.0.number, (g.0.name, (g.0.size, (g.0.content, λ h. g.1 ((code_or_not a.name a.content).1 h))))))
    (anywhere _ (λ at. field (λ a. a.name) _ (number_agree 2) (λ name lt.
    ruled (λ a. IsUtf p a.name) (Broken 11 at) _ (λ a k h. subst (IsUtf p) (sym k.0) h) (λ a k h. subst (IsUtf p) k.0 h) (λ utf.
    restated (λ (a : Attribute). FitsContent p a.name before a.content) (λ a. spell_boxed (spell_content a.content)) (λ a k f. sym (append-nil (spell_boxed (spell_content a.content))))
    (λ a k f. subst (λ n. FitsContent p n before a.content) (sym k.0) f.0) (λ a k g. (subst (λ n. FitsContent p n before a.content) k.0 g, tt))
    (field (λ a. a.content) _ (content_agree p name at before) (λ content f. done (record { name = name; content = content }) (refl, (refl, tt)) (λ a k. attribute_is a name content k.1.0 k.0)))))))
