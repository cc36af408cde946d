-- Attributes are found as they are spelled.
use Rattle.std.proofs.Common.{◌≡◌, ◌⊎◌, inl, inr, ℕ, ◌^◌, ◌<◌, List, [], ◌++◌, length, refl, sym, ap, subst, ◌∙◌}
use Rattle.std.specs.Prelude.{codes}
use Rattle.std.proofs.lemmas.List.{append-nil}
use Rattle.byteorder.specs.Endian.{big_bytes}
use Rattle.byte_form.specs.Forms.{Broken, either}
use Rattle.byte_form.proofs.Agree as agree
use Rattle.byte_form.proofs.Agree.{Agrees, Chain, number_agree, bytes_agree, field, field_given, done, reknown, knowing, absorbed, anywhere, ruled, chosen, restated, list_agree, inside_agree, counted_agree, kept_agree}
use Rattle.byte_form.proofs.Chains.{plain_chain, plain_all}
use Rattle.class_form.specs.Spelling.{spell_counted, spell_boxed, spell_line, spell_handler, spell_code_content, spell_code_attribute, spell_content, spell_attribute}
use Rattle.class_form.specs.PoolRules.{IsUtf}
use Rattle.class_form.specs.ClassRules.{IsNamed, IsCode, IsHandler, IsLine, IsCodeContent, IsCodeAttribute, IsSizedHandler, IsPlainAttribute}
use Rattle.class_form.specs.FirstFaults.{kept, plain_attribute, line, lines, other_code_content, code_attribute, handler, body}
use Rattle.class_form.specs.declared.pool.Pool.{Pool}
use Rattle.class_form.specs.declared.class_file.Attribute.{Attribute}
use Rattle.class_form.specs.declared.class_file.Content.{Content}
use Rattle.class_form.specs.declared.class_file.Content.TheVariants as contents
use Rattle.class_form.specs.declared.class_file.CodeAttribute.{CodeAttribute}
use Rattle.class_form.specs.declared.class_file.CodeContent.{CodeContent}
use Rattle.class_form.specs.declared.class_file.CodeContent.TheVariants as code_contents
use Rattle.class_form.specs.declared.class_file.Handler.{Handler}

abbrev pub Free : {A : Type 0} → A → Type 0
Free x = Unit {0}

pub kept_is_spelled : Agrees agree.Any (λ x. length x < 256 ^ 4) spell_boxed kept
unfolding kept
kept_is_spelled = kept_agree

-- ---- of a field or a class

abbrev pub other_of : Content → List ℕ
other_of (contents.Code body) = []
other_of (contents.Other content) = content

plain_is : (a : Attribute) (name : ℕ) (content : List ℕ) → (IsCode a → ⊥) → a.name ≡ name → other_of a.content ≡ content → a ≡ record { name = name; content = contents.Other content }
plain_is a name content plain e f = rw (← e, ← f) (by a.name a.content plain)
  where
    by : (n : ℕ) (c : Content) → (IsCode (record { name = n; content = c }) → ⊥) → (let r : Attribute = record { name = n; content = c } in r) ≡ record { name = n; content = contents.Other (other_of c) }
    by n (contents.Code b) p = absurd (p tt)
    by n (contents.Other x) p = refl

plain_spelled : (a : Attribute) → (IsCode a → ⊥) → spell_content a.content ≡ other_of a.content
plain_spelled a plain = by a.name a.content plain
  where
    by : (n : ℕ) (c : Content) → (IsCode (record { name = n; content = c }) → ⊥) → spell_content c ≡ other_of c
    by n (contents.Code b) p = absurd (p tt)
    by n (contents.Other x) p = refl

pub plain_attribute_agree : (p : Pool) → Agrees agree.Any (IsPlainAttribute p) spell_attribute (plain_attribute p)
unfolding plain_attribute
plain_attribute_agree p = restated (IsPlainAttribute p) spell_attribute
    (λ a k f. ap (λ (x : List ℕ). big_bytes 2 a.name ++ spell_boxed x) (plain_spelled a f.0) ∙ ap (λ (r : List ℕ). big_bytes 2 a.name ++ r) (sym (append-nil (spell_boxed (other_of a.content)))))
    (λ a k f. record { number = f.1.0; name = f.1.1.0; size = rw (plain_spelled a f.0) f.1.1.1.0; plain = f.0 })
    (λ a k g. (g.plain, (g.number, (g.name, (rw (plain_spelled a g.plain) at g.size, tt)))))
    (absorbed {K = λ (a : Attribute). IsCode a → ⊥} (anywhere _ (λ at.
    field (λ a. a.name) _ (number_agree 2) (λ name lt.
    ruled (λ a. IsUtf p a.name) (Broken 11 at) _ (λ a k h. subst (IsUtf p) (sym k.0) h) (λ a k h. subst (IsUtf p) k.0 h) (λ utf.
    field (λ a. other_of a.content) _ kept_is_spelled (λ content len.
    done (record { name = name; content = contents.Other content }) (refl, (refl, (λ h. h))) (λ a k. plain_is a name content k.1.1 k.1.0 k.0)))))))

-- ---- in code

line_agree : (len : ℕ) → Agrees agree.Any (IsLine len) spell_line (line len)
unfolding line
line_agree len = restated (IsLine len) spell_line (λ l k f. refl) (λ l k f. (f.0, f.1.0, f.1.1.0)) (λ l k g. (g.0, (g.1, (g.2, tt))))
    (anywhere _ (λ at. field (λ (l : ℕ × ℕ). l.0) _ (number_agree 2) (λ pc lt. field (λ (l : ℕ × ℕ). l.1) _ (number_agree 2) (λ number lt.
    ruled (λ (l : ℕ × ℕ). l.0 < len) (Broken 16 at) _ (λ l k h. subst (λ n. n < len) (sym k.1.0) h) (λ l k h. subst (λ n. n < len) k.1.0 h) (λ good.
    done (pc, number) (refl, (refl, tt)) (λ l k. rw (← k.1.0, ← k.0) refl))))))

abbrev lines_of : CodeContent → List (ℕ × ℕ)
lines_of (code_contents.Lines lines) = lines
lines_of (code_contents.Other content) = []

abbrev IsLines : CodeContent → Type 0
IsLines c = (lines : List (ℕ × ℕ)) × (c ≡ code_contents.Lines lines)

abbrev IsOther : CodeContent → Type 0
IsOther c = (content : List ℕ) × (c ≡ code_contents.Other content)

lines_spelled : (c : CodeContent) → IsLines c → spell_code_content c ≡ spell_counted spell_line (lines_of c)
lines_spelled (code_contents.Lines lines) h = refl
lines_spelled (code_contents.Other content) h = absurd (let e = h.1 in cc)

lines_are : (c : CodeContent) (lines : List (ℕ × ℕ)) → IsLines c → lines_of c ≡ lines → c ≡ code_contents.Lines lines
lines_are (code_contents.Lines xs) lines h e = ap (λ (ys : List (ℕ × ℕ)). code_contents.Lines ys) e
lines_are (code_contents.Other content) lines h e = absurd (let e = h.1 in cc)

abbrev AreLines : ℕ → List (ℕ × ℕ) → Type 0
AreLines len lines = (length lines < 256 ^ 2) × Chain (λ _. IsLine len) [] lines

lines_agree : (len at : ℕ) → Agrees agree.Any (λ c. IsLines c × ((length (spell_code_content c) < 256 ^ 4) × AreLines len (lines_of c))) (λ c. spell_boxed (spell_code_content c)) (lines len at)
unfolding lines
lines_agree len at = absorbed {K = IsLines} (restated (λ c. (length (spell_code_content c) < 256 ^ 4) × AreLines len (lines_of c)) (λ c. spell_boxed (spell_code_content c))
    (λ c k f. ap (λ (r : List ℕ). big_bytes 4 (length (spell_code_content c)) ++ r) (sym (append-nil (spell_code_content c))))
    (λ c k f. (f.0, f.1.1.0)) (λ c k g. (g.0, (tt, (g.1, tt))))
    (field (λ c. length (spell_code_content c)) _ (number_agree 4) (λ size lt. anywhere _ (λ first.
    field_given spell_code_content Free _ (bytes_agree size) (λ c k f. tt) (λ c k f. k.0) (λ content long.
    field_given lines_of (AreLines len) _ (inside_agree (Broken 12 at) first content (counted_agree (λ before. line_agree len))) (λ c k f. f.1) (λ c k g. (sym (lines_spelled c k.1.1) ∙ k.0, g)) (λ pairs f.
    done (code_contents.Lines pairs) (refl, (f.0, (ap length f.0 ∙ long, (pairs, refl)))) (λ c k. lines_are c pairs k.1.1.1 k.0)))))))

abbrev other_code_of : CodeContent → List ℕ
other_code_of (code_contents.Lines lines) = []
other_code_of (code_contents.Other content) = content

other_spelled : (c : CodeContent) → IsOther c → spell_code_content c ≡ other_code_of c
other_spelled (code_contents.Lines lines) h = absurd (let e = h.1 in cc)
other_spelled (code_contents.Other content) h = refl

other_are : (c : CodeContent) (content : List ℕ) → IsOther c → other_code_of c ≡ content → c ≡ code_contents.Other content
other_are (code_contents.Lines xs) content h e = absurd (let e = h.1 in cc)
other_are (code_contents.Other x) content h e = ap (λ (ys : List ℕ). code_contents.Other ys) e

other_code_agree : Agrees agree.Any (λ c. IsOther c × (length (spell_code_content c) < 256 ^ 4)) (λ c. spell_boxed (spell_code_content c)) other_code_content
unfolding other_code_content
other_code_agree = absorbed {K = IsOther} (restated (λ c. length (spell_code_content c) < 256 ^ 4) (λ c. spell_boxed (spell_code_content c))
    (λ c k f. ap spell_boxed (other_spelled c k) ∙ sym (append-nil (spell_boxed (other_code_of c))))
    (λ c k f. rw (other_spelled c k) f.0) (λ c k g. (rw (other_spelled c k) at g, tt))
    (field other_code_of _ kept_is_spelled (λ content len. done (code_contents.Other content) (refl, (content, refl)) (λ c k. other_are c content k.1 k.0))))

abbrev FitsCodeContent : Pool → ℕ → ℕ → CodeContent → Type 0
FitsCodeContent p len name c = (length (spell_code_content c) < 256 ^ 4) × IsCodeContent p len name c

code_content_agree : (p : Pool) (len name at : ℕ) → Agrees agree.Any (FitsCodeContent p len name) (λ c. spell_boxed (spell_code_content c)) (either (IsNamed p name (codes "LineNumberTable")) (lines len at) other_code_content)
code_content_agree p len name at = restated (FitsCodeContent p len name) (λ c. spell_boxed (spell_code_content c)) (λ c k f. refl) (λ c k f. to c f) (λ c k g. from c g) (chosen (λ yes. lines_agree len at) (λ other. other_code_agree))
  where
    to : (c : CodeContent) → (IsNamed p name (codes "LineNumberTable") × (IsLines c × ((length (spell_code_content c) < 256 ^ 4) × AreLines len (lines_of c)))) ⊎ ((IsNamed p name (codes "LineNumberTable") → ⊥) × (IsOther c × (length (spell_code_content c) < 256 ^ 4))) → FitsCodeContent p len name c
    to (code_contents.Lines lines) h = elim h [ inl k ↦ (k.1.1.0, (k.0, k.1.1.1.0, plain_all (IsLine len) lines k.1.1.1.1)) | inr k ↦ absurd (let e = k.1.0.1 in cc) ]
    to (code_contents.Other content) h = elim h [ inl k ↦ absurd (let e = k.1.0.1 in cc) | inr k ↦ (k.1.1, k.0) ]

    from : (c : CodeContent) → FitsCodeContent p len name c → (IsNamed p name (codes "LineNumberTable") × (IsLines c × ((length (spell_code_content c) < 256 ^ 4) × AreLines len (lines_of c)))) ⊎ ((IsNamed p name (codes "LineNumberTable") → ⊥) × (IsOther c × (length (spell_code_content c) < 256 ^ 4)))
    from (code_contents.Lines lines) g = inl (g.1.0, ((lines, refl), (g.0, (g.1.1, plain_chain (IsLine len) lines g.1.2))))
    from (code_contents.Other content) g = inr (g.1, ((content, refl), g.0))

code_attribute_is : (a : CodeAttribute) (name : ℕ) (content : CodeContent) → a.name ≡ name → a.content ≡ content → a ≡ record { name = name; content = content }
code_attribute_is a name content e f = rw (← e, ← f) refl

pub code_attribute_agree : (p : Pool) (len : ℕ) → Agrees agree.Any (IsCodeAttribute p len) spell_code_attribute (code_attribute p len)
unfolding code_attribute
code_attribute_agree p len = restated (IsCodeAttribute p len) spell_code_attribute (λ a k f. refl)
    (λ a k f. record { number = f.0; name = f.1.0; size = f.1.1.0; content = f.1.1.1 })
    (λ a k g. (g.number, (g.name, (g.size, g.content))))
    (anywhere _ (λ at. field (λ a. a.name) _ (number_agree 2) (λ name lt.
    ruled (λ a. IsUtf p a.name) (Broken 11 at) _ (λ a k h. subst (IsUtf p) (sym k.0) h) (λ a k h. subst (IsUtf p) k.0 h) (λ utf.
    restated (λ (a : CodeAttribute). FitsCodeContent p len a.name a.content) (λ a. spell_boxed (spell_code_content a.content)) (λ a k f. sym (append-nil (spell_boxed (spell_code_content a.content))))
    (λ a k f. subst (λ n. FitsCodeContent p len n a.content) (sym k.0) f.0) (λ a k g. (subst (λ n. FitsCodeContent p len n a.content) k.0 g, tt))
    (field (λ a. a.content) _ (code_content_agree p len name at) (λ content f. done (record { name = name; content = content }) (refl, (refl, tt)) (λ a k. code_attribute_is a name content k.1.0 k.0)))))))

handler_is : (h : Handler) (a b c d : ℕ) → h.start ≡ a → h.end ≡ b → h.handler ≡ c → h.catch_type ≡ d → h ≡ record { start = a; end = b; handler = c; catch_type = d }
handler_is h a b c d e f g i = rw (← e, ← f, ← g, ← i) refl

pub handler_agree : (p : Pool) (len : ℕ) → Agrees agree.Any (IsSizedHandler p len) spell_handler (handler p len)
unfolding handler
handler_agree p len = restated (IsSizedHandler p len) spell_handler (λ h k f. refl)
    (λ h k f. record { start = f.0; end = f.1.0; handler = f.1.1.0; catch_type = f.1.1.1.0; fits = f.1.1.1.1.0 })
    (λ h k g. (g.start, (g.end, (g.handler, (g.catch_type, (g.fits, tt))))))
    (anywhere _ (λ at. field (λ (h : Handler). h.start) _ (number_agree 2) (λ start lt. field (λ (h : Handler). h.end) _ (number_agree 2) (λ end lt.
    field (λ (h : Handler). h.handler) _ (number_agree 2) (λ target lt. field (λ (h : Handler). h.catch_type) _ (number_agree 2) (λ catch_type lt.
    ruled (IsHandler p len) (Broken 15 at) _
    (λ h k good. subst (IsHandler p len) (sym (handler_is h start end target catch_type k.1.1.1.0 k.1.1.0 k.1.0 k.0)) good)
    (λ h k good. subst (IsHandler p len) (handler_is h start end target catch_type k.1.1.1.0 k.1.1.0 k.1.0 k.0) good) (λ good.
    done (record { start = start; end = end; handler = target; catch_type = catch_type }) (refl, (refl, (refl, (refl, tt)))) (λ h k. handler_is h start end target catch_type k.1.1.1.0 k.1.1.0 k.1.0 k.0))))))))
