-- Members and class files are found as they are spelled.
use Rattle.std.proofs.Common.{◌≡◌, inl, inr, ℕ, zero, suc, ◌^◌, ◌<◌, List, [], ◌∷◌, ◌++◌, length, get_or, Ok, refl, sym, ap, subst, ◌∙◌, append_assoc, arith}
use Rattle.std.specs.Prelude.{All, AllPairs}
use Rattle.std.proofs.lemmas.List.{append-nil}
use Rattle.byteorder.specs.Endian.{big_bytes}
use Rattle.byte_form.specs.Places.{State, Takes, start}
use Rattle.byte_form.specs.Forms.{Fault, Broken, Form, bytes, made, followed, rule}
use Rattle.byte_form.proofs.Agree as agree
use Rattle.byte_form.proofs.Agree.{Agrees, Chain, number_agree, field, field_given, done, absorbed, reknown, anywhere, ruled, restated, counted_agree}
use Rattle.byte_form.proofs.Chains.{plain_chain, plain_all, chain_all, chain_pairs, all_chain}
use Rattle.class_form.specs.Spelling.{spell_pool, spell_counted, spell_attribute, spell_member, spell_class, spelling}
use Rattle.class_form.specs.PoolRules.{IsPool}
use Rattle.class_form.specs.ClassRules.{IsPlainClass, IsSuperclass, AreFieldTexts, AreMethodTexts, HasTextsOf, AreDistinct, IsCode, HasCodeWhereNeeded, HasSlots, HasLocalsForAll, IsOfKind, IsMethodAttribute, IsPlainAttribute, IsFieldMember, IsMethodMember, IsInterfaceIndex, IsVersion, IsClassFile, Spells}
use Rattle.class_form.specs.FirstFaults.{counted, plain_attribute, field as field_form, method, interface, class, NotClass, Version, items, ended, class_file, file}
use Rattle.class_form.proofs.PoolAgree.{pool_agree}
use Rattle.class_form.proofs.AttributeAgree.{plain_attribute_agree}
use Rattle.class_form.proofs.CodeAgree.{IsNextAttribute, method_attribute_agree}
use Rattle.class_form.specs.declared.pool.Pool.{Pool}
use Rattle.class_form.specs.declared.class_file.ClassFile.{ClassFile}
use Rattle.class_form.specs.declared.class_file.Member.{Member}
use Rattle.class_form.specs.declared.class_file.Attribute.{Attribute}

-- ---- members

member_is : (m : Member) (flags name descriptor : ℕ) (attributes : List Attribute) → m.flags ≡ flags → m.name ≡ name → m.descriptor ≡ descriptor → m.attributes ≡ attributes → m ≡ record { flags = flags; name = name; descriptor = descriptor; attributes = attributes }
member_is m flags name descriptor attributes e f g h = rw (← e, ← f, ← g, ← h) refl

abbrev IsNew : Pool → List Member → ℕ → ℕ → Type 0
IsNew p before name descriptor = All (λ m. HasTextsOf p m name descriptor → ⊥) before

member_spelled : (m : Member) → spell_member m ≡ big_bytes 2 m.flags ++ (big_bytes 2 m.name ++ (big_bytes 2 m.descriptor ++ (spell_counted spell_attribute m.attributes ++ [])))
member_spelled m = simp (append_assoc, append-nil)

abbrev pub IsNextField : Pool → List Member → Member → Type 0
IsNextField p before m = IsFieldMember p m × IsNew p before m.name m.descriptor

abbrev PlainAttributes : Pool → List Attribute → Type 0
PlainAttributes p xs = (length xs < 256 ^ 2) × Chain (λ _. IsPlainAttribute p) [] xs

pub field_agree : (p : Pool) (before : List Member) → Agrees agree.Any (IsNextField p before) spell_member (field_form p before)
unfolding field_form
field_agree p before = restated (IsNextField p before) spell_member (λ m k f. member_spelled m)
    (λ m k f. (record { flags = f.0; name = f.1.0; descriptor = f.1.1.0; texts = f.1.1.1.0; attribute_count = f.1.1.1.1.1.0.0; attributes = plain_all (IsPlainAttribute p) m.attributes f.1.1.1.1.1.0.1 }, f.1.1.1.1.0))
    (λ m k g. (g.0.flags, (g.0.name, (g.0.descriptor, (g.0.texts, (g.1, ((g.0.attribute_count, plain_chain (IsPlainAttribute p) m.attributes g.0.attributes), tt)))))))
    (anywhere _ (λ at. field (λ (m : Member). m.flags) _ (number_agree 2) (λ flags lt. field (λ (m : Member). m.name) _ (number_agree 2) (λ name lt. field (λ (m : Member). m.descriptor) _ (number_agree 2) (λ descriptor lt.
    ruled (λ (m : Member). AreFieldTexts p m.name m.descriptor) (Broken 9 at) _ (λ m k h. rw (k.0, k.1.0) h) (λ m k h. rw (k.0, k.1.0) at h) (λ texts.
    ruled (λ (m : Member). IsNew p before m.name m.descriptor) (Broken 10 at) _ (λ m k h. rw (k.0, k.1.0) h) (λ m k h. rw (k.0, k.1.0) at h) (λ new.
    field (λ (m : Member). m.attributes) _ (counted_agree (λ before. plain_attribute_agree p)) (λ attributes f.
    done (record { flags = flags; name = name; descriptor = descriptor; attributes = attributes }) (refl, (refl, (refl, (refl, tt)))) (λ m k. member_is m flags name descriptor attributes k.1.1.1.0 k.1.1.0 k.1.0 k.0)))))))))

-- the attributes of a method
abbrev MethodAttributes : Pool → List Attribute → Type 0
MethodAttributes p xs = (length xs < 256 ^ 2) × Chain (IsNextAttribute p) [] xs

one_code : (p : Pool) (xs : List Attribute) → Chain (IsNextAttribute p) [] xs → AllPairs (λ a b. IsCode a → IsCode b → ⊥) xs
one_code p xs h = chain_pairs (IsNextAttribute p) (λ a b. IsCode a → IsCode b → ⊥) (λ before x q i d lt a b. q.1 b (i, get_or before i d, lt, within before i d lt, a)) xs h
  where
    within : (before : List Attribute) (i : ℕ) (d : Attribute) → i < length before → get_or before i (get_or before i d) ≡ get_or before i d
    within (b ∷ before) zero d lt = refl
    within (b ∷ before) (suc i) d lt = within before i d (omega (arith, lt))
    within [] i d lt = absurd (omega (arith, lt))

all_attributes : (p : Pool) (xs : List Attribute) → All (IsMethodAttribute p) xs → AllPairs (λ a b. IsCode a → IsCode b → ⊥) xs → Chain (IsNextAttribute p) [] xs
all_attributes p xs each pairs = all_chain (IsNextAttribute p) (IsMethodAttribute p) (λ a b. IsCode a → IsCode b → ⊥) (λ before x q r. (q, λ b any. r any.0 any.1 any.2 (subst IsCode (sym any.3) any.4) b)) xs each pairs

abbrev pub IsNextMethod : Pool → ℕ → List Member → Member → Type 0
IsNextMethod p class_flags before m = IsMethodMember p class_flags m × IsNew p before m.name m.descriptor

abbrev MethodParts : Pool → ℕ → List Member → Member → Type 0
MethodParts p class_flags before m =
    (m.flags < 256 ^ 2) × ((m.name < 256 ^ 2) × ((m.descriptor < 256 ^ 2) × (AreMethodTexts p m.name m.descriptor × (IsNew p before m.name m.descriptor × (HasSlots p m.flags m.descriptor × (IsOfKind p class_flags m.flags m.name
    × (MethodAttributes p m.attributes × (HasCodeWhereNeeded p m.flags m.name m.attributes × (HasLocalsForAll p m.flags m.descriptor m.attributes × agree.Any m)))))))))

method_to : (p : Pool) (class_flags : ℕ) (before : List Member) (m : Member) → MethodParts p class_flags before m → IsNextMethod p class_flags before m
method_to p class_flags before m f =
    let g = f.1.1.1.1 in
    let attributes = g.1.1.1.0.1 in (
      record {
        flags = f.0;
        name = f.1.0;
        descriptor = f.1.1.0;
        texts = f.1.1.1.0;
        slots = g.1.0;
        kind = g.1.1.0;
        attribute_count = g.1.1.1.0.0;
        attributes = chain_all (IsNextAttribute p) (IsMethodAttribute p) (λ before x q. q.0) m.attributes attributes;
        one_code = one_code p m.attributes attributes;
        code = g.1.1.1.1.0;
        locals = g.1.1.1.1.1.0;
      },
      g.0,
    )

method_from : (p : Pool) (class_flags : ℕ) (before : List Member) (m : Member) → IsNextMethod p class_flags before m → MethodParts p class_flags before m
method_from p class_flags before m g =
    let h = g.0 in
    (h.flags, (h.name, (h.descriptor, (h.texts, (g.1, (h.slots, (h.kind, ((h.attribute_count, all_attributes p m.attributes h.attributes h.one_code), (h.code, (h.locals, tt))))))))))

pub method_agree : (p : Pool) (class_flags : ℕ) (before : List Member) → Agrees agree.Any (IsNextMethod p class_flags before) spell_member (method p class_flags before)
unfolding method
method_agree p class_flags before = restated (IsNextMethod p class_flags before) spell_member (λ m k f. member_spelled m) (λ m k f. method_to p class_flags before m f) (λ m k g. method_from p class_flags before m g)
    (anywhere _ (λ at. field (λ (m : Member). m.flags) _ (number_agree 2) (λ flags lt. field (λ (m : Member). m.name) _ (number_agree 2) (λ name lt. field (λ (m : Member). m.descriptor) _ (number_agree 2) (λ descriptor lt.
    ruled (λ (m : Member). AreMethodTexts p m.name m.descriptor) (Broken 9 at) _ (λ m k h. rw (k.0, k.1.0) h) (λ m k h. rw (k.0, k.1.0) at h) (λ texts.
    ruled (λ (m : Member). IsNew p before m.name m.descriptor) (Broken 10 at) _ (λ m k h. rw (k.0, k.1.0) h) (λ m k h. rw (k.0, k.1.0) at h) (λ new.
    ruled (λ (m : Member). HasSlots p m.flags m.descriptor) (Broken 17 at) _ (λ m k h. rw (k.0, k.1.1.0) h) (λ m k h. rw (k.0, k.1.1.0) at h) (λ slots.
    ruled (λ (m : Member). IsOfKind p class_flags m.flags m.name) (Broken 18 at) _ (λ m k h. rw (k.1.0, k.1.1.0) h) (λ m k h. rw (k.1.0, k.1.1.0) at h) (λ kind.
    field (λ (m : Member). m.attributes) _ (counted_agree (method_attribute_agree p)) (λ attributes f.
    ruled (λ (m : Member). HasCodeWhereNeeded p m.flags m.name m.attributes) (Broken 13 at) _ (λ m k h. rw (k.0, k.1.1.0, k.1.1.1.0) h) (λ m k h. rw (k.0, k.1.1.0, k.1.1.1.0) at h) (λ code.
    ruled (λ (m : Member). HasLocalsForAll p m.flags m.descriptor m.attributes) (Broken 17 at) _ (λ m k h. rw (k.0, k.1.0, k.1.1.1.0) h) (λ m k h. rw (k.0, k.1.0, k.1.1.1.0) at h) (λ locals.
    done (record { flags = flags; name = name; descriptor = descriptor; attributes = attributes }) (refl, (refl, (refl, (refl, tt)))) (λ m k. member_is m flags name descriptor attributes k.1.1.1.0 k.1.1.0 k.1.0 k.0)))))))))))))

pub interface_agree : (p : Pool) → Agrees agree.Any (IsInterfaceIndex p) (big_bytes 2) (interface p)
unfolding interface
interface_agree p = restated (IsInterfaceIndex p) (big_bytes 2) (λ i k f. sym (append-nil (big_bytes 2 i))) (λ i k f. record { number = f.0; class = f.1.0 }) (λ i k g. (g.number, (g.class, tt)))
    (anywhere _ (λ at. field (λ i. i) _ (number_agree 2) (λ n lt. ruled (IsPlainClass p) (Broken 8 at) _ (λ i k h. subst (IsPlainClass p) (sym k.0) h) (λ i k h. subst (IsPlainClass p) k.0 h) (λ good. done n (refl, tt) (λ i k. k.0)))))

-- ---- the class

abbrev Interfaces : Pool → List ℕ → Type 0
Interfaces p xs = (length xs < 256 ^ 2) × Chain (λ _. IsInterfaceIndex p) [] xs

abbrev Fields : Pool → List Member → Type 0
Fields p xs = (length xs < 256 ^ 2) × Chain (IsNextField p) [] xs

abbrev Methods : Pool → ℕ → List Member → Type 0
Methods p class_flags xs = (length xs < 256 ^ 2) × Chain (IsNextMethod p class_flags) [] xs

abbrev EndParts : Pool → ℕ → ClassFile → Type 0
EndParts p flags c = Interfaces p c.interfaces × (Fields p c.fields × (Methods p flags c.methods × (PlainAttributes p c.attributes × agree.Any c)))

abbrev HasHead : ℕ → ℕ → Pool → ℕ → ℕ → ℕ → ClassFile → Type 0
HasHead minor major p flags this super c = (c.super_class ≡ super) × ((c.this_class ≡ this) × ((c.flags ≡ flags) × ((c.pool ≡ p) × ((c.minor ≡ minor) × (c.major ≡ major)))))

abbrev whole_class : ℕ → ℕ → Pool → ℕ → ℕ → ℕ → List ℕ → List Member → List Member → List Attribute → ClassFile
whole_class minor major p flags this super is fs ms xs = record { minor = minor; major = major; pool = p; flags = flags; this_class = this; super_class = super; interfaces = is; fields = fs; methods = ms; attributes = xs }

class_is_whole : (c : ClassFile) (minor major : ℕ) (p : Pool) (flags this super : ℕ) (is : List ℕ) (fs ms : List Member) (xs : List Attribute) → HasHead minor major p flags this super c
    → c.interfaces ≡ is → c.fields ≡ fs → c.methods ≡ ms → c.attributes ≡ xs → c ≡ whole_class minor major p flags this super is fs ms xs
class_is_whole c minor major p flags this super is fs ms xs k e f g h = rw (← k.0, ← k.1.0, ← k.1.1.0, ← k.1.1.1.0, ← k.1.1.1.1.0, ← k.1.1.1.1.1, ← e, ← f, ← g, ← h) refl

abbrev end_spelling : ClassFile → List ℕ
end_spelling c = spell_counted (big_bytes 2) c.interfaces ++ (spell_counted spell_member c.fields ++ (spell_counted spell_member c.methods ++ (spell_counted spell_attribute c.attributes ++ [])))

end_agree : (minor major : ℕ) (p : Pool) (flags this super : ℕ) → Agrees (HasHead minor major p flags this super) (λ c. EndParts c.pool c.flags c) end_spelling
    (followed (counted (λ _. interface p)) (λ is. followed (counted (field_form p)) (λ fs. followed (counted (method p flags)) (λ ms. followed (counted (λ _. plain_attribute p)) (λ xs. made (whole_class minor major p flags this super is fs ms xs))))))
end_agree minor major p flags this super = restated (λ c. EndParts c.pool c.flags c) end_spelling (λ c k f. refl)
    (λ c k f. rw (k.1.1.0, k.1.1.1.0) f) (λ c k g. rw (k.1.1.0, k.1.1.1.0) at g)
    (field (λ (c : ClassFile). c.interfaces) _ (counted_agree (λ before. interface_agree p)) (λ is f. field (λ (c : ClassFile). c.fields) _ (counted_agree (field_agree p)) (λ fs f.
    field (λ (c : ClassFile). c.methods) _ (counted_agree (method_agree p flags)) (λ ms f. field (λ (c : ClassFile). c.attributes) _ (counted_agree (λ before. plain_attribute_agree p)) (λ xs f.
    done (whole_class minor major p flags this super is fs ms xs) (refl, (refl, (refl, (refl, (refl, (refl, (refl, (refl, (refl, refl)))))))))
    (λ c k. class_is_whole c minor major p flags this super is fs ms xs k.1.1.1.1 k.1.1.1.0 k.1.1.0 k.1.0 k.0))))))

abbrev ClassParts : ClassFile → Type 0
ClassParts c = IsPool c.pool × ((c.flags < 256 ^ 2) × ((c.this_class < 256 ^ 2) × (IsPlainClass c.pool c.this_class × ((c.super_class < 256 ^ 2) × (IsSuperclass c.pool c.this_class c.super_class × EndParts c.pool c.flags c)))))

abbrev class_spelling : ClassFile → List ℕ
class_spelling c = spell_pool c.pool ++ (big_bytes 2 c.flags ++ (big_bytes 2 c.this_class ++ (big_bytes 2 c.super_class ++ end_spelling c)))

-- the pool's version is the class file's
abbrev IsOf : ℕ → ℕ → ClassFile → Type 0
IsOf minor major c = (c.minor ≡ minor) × (c.major ≡ major)

class_agree : (minor major : ℕ) → Agrees (IsOf minor major) (λ c. (c.pool.major ≡ c.major) × ClassParts c) class_spelling (class minor major)
unfolding class
class_agree minor major = restated (λ c. (c.pool.major ≡ c.major) × ClassParts c) class_spelling (λ c k f. refl)
    (λ c k f. (f.0.0 ∙ sym k.1, (f.0.1, f.1))) (λ c k g. ((g.0 ∙ k.1, g.1.0), g.1.1))
    (field (λ (c : ClassFile). c.pool) _ (absorbed (pool_agree major)) (λ p good. field (λ (c : ClassFile). c.flags) _ (number_agree 2) (λ flags lt. anywhere _ (λ this_at.
    field (λ (c : ClassFile). c.this_class) _ (number_agree 2) (λ this lt.
    ruled (λ (c : ClassFile). IsPlainClass c.pool c.this_class) (Broken 6 this_at) _ (λ c k h. rw (k.0, k.1.1.0) h) (λ c k h. rw (k.0, k.1.1.0) at h) (λ plain. anywhere _ (λ super_at.
    field (λ (c : ClassFile). c.super_class) _ (number_agree 2) (λ super lt.
    ruled (λ (c : ClassFile). IsSuperclass c.pool c.this_class c.super_class) (Broken 7 super_at) _ (λ c k h. rw (k.0, k.1.0, k.1.1.1.0) h) (λ c k h. rw (k.0, k.1.0, k.1.1.1.0) at h) (λ above.
    end_agree minor major p flags this super)))))))))

-- ---- the file

items_agree : {A : Type 0} {K FA : A → Type 0} {w : A → List ℕ} {form : Form Fault A} → Agrees K FA w form → Agrees K FA w (items form)
unfolding items
items_agree p = record { found = p.found; again = p.again }

four : (a b c d : List ℕ) → a ++ b ++ c ++ d ≡ a ++ (b ++ (c ++ d))
four a b c d = simp append_assoc

eight : (a b c d e f g h : List ℕ) → a ++ b ++ c ++ d ++ e ++ f ++ g ++ h ≡ a ++ (b ++ (c ++ (d ++ (e ++ (f ++ (g ++ (h ++ [])))))))
eight a b c d e f g h = simp (append_assoc, append-nil)

spelled_right : (c : ClassFile) → spelling c ≡ big_bytes 4 0xcafebabe ++ (big_bytes 2 c.minor ++ (big_bytes 2 c.major ++ class_spelling c))
spelled_right c =
    four (big_bytes 4 0xcafebabe) (big_bytes 2 c.minor) (big_bytes 2 c.major) (spell_class c)
    ∙ ap (λ (r : List ℕ). big_bytes 4 0xcafebabe ++ (big_bytes 2 c.minor ++ (big_bytes 2 c.major ++ r)))
    (eight (spell_pool c.pool) (big_bytes 2 c.flags) (big_bytes 2 c.this_class) (big_bytes 2 c.super_class) (spell_counted (big_bytes 2) c.interfaces) (spell_counted spell_member c.fields) (spell_counted spell_member c.methods) (spell_counted spell_attribute c.attributes))

distinct : (p : Pool) (xs : List Member) → Chain (IsNextField p) [] xs → AreDistinct p xs
distinct p xs h = chain_pairs (IsNextField p) (λ a b. HasTextsOf p a b.name b.descriptor → ⊥) (λ before x q. q.1) xs h

distinct_methods : (p : Pool) (flags : ℕ) (xs : List Member) → Chain (IsNextMethod p flags) [] xs → AreDistinct p xs
distinct_methods p flags xs h = chain_pairs (IsNextMethod p flags) (λ a b. HasTextsOf p a b.name b.descriptor → ⊥) (λ before x q. q.1) xs h

abbrev FileParts : ClassFile → Type 0
FileParts c = (0xcafebabe < 256 ^ 4) × (Unit {0} × ((c.minor < 256 ^ 2) × ((c.major < 256 ^ 2) × (IsVersion c.major × ((c.pool.major ≡ c.major) × ClassParts c)))))

file_to : (c : ClassFile) → FileParts c → IsClassFile c
file_to c f =
    let g = f.1.1.1.1.1 in
    let h = g.1 in
    let end = h.1.1.1.1.1.1 in
    record {
      minor = f.1.1.0;
      major = f.1.1.1.1.0;
      pool_major = g.0;
      pool = h.0;
      flags = h.1.0;
      this_number = h.1.1.0;
      this_class = h.1.1.1.0;
      super_number = h.1.1.1.1.0;
      super_class = h.1.1.1.1.1.0;
      interface_count = end.0.0;
      interfaces = plain_all (IsInterfaceIndex c.pool) c.interfaces end.0.1;
      field_count = end.1.0.0;
      fields = chain_all (IsNextField c.pool) (IsFieldMember c.pool) (λ before x q. q.0) c.fields end.1.0.1;
      distinct_fields = distinct c.pool c.fields end.1.0.1;
      method_count = end.1.1.0.0;
      methods = chain_all (IsNextMethod c.pool c.flags) (IsMethodMember c.pool c.flags) (λ before x q. q.0) c.methods end.1.1.0.1;
      distinct_methods = distinct_methods c.pool c.flags c.methods end.1.1.0.1;
      attribute_count = end.1.1.1.0.0;
      attributes = plain_all (IsPlainAttribute c.pool) c.attributes end.1.1.1.0.1;
    }

file_from : (c : ClassFile) → IsClassFile c → FileParts c
file_from c h =
    let fields = all_chain (IsNextField c.pool) (IsFieldMember c.pool) (λ a b. HasTextsOf c.pool a b.name b.descriptor → ⊥) (λ before x q r. (q, r)) c.fields h.fields h.distinct_fields in
    let methods = all_chain (IsNextMethod c.pool c.flags) (IsMethodMember c.pool c.flags) (λ a b. HasTextsOf c.pool a b.name b.descriptor → ⊥) (λ before x q r. (q, r)) c.methods h.methods h.distinct_methods in (
      omega arith,
      (
        tt,
        (
          h.minor,
          (
            omega (arith, h.major.1),
            (
              h.major,
              (
                h.pool_major,
                (
                  h.pool,
                  (
                    h.flags,
                    (
                      h.this_number,
                      (
                        h.this_class,
                        (
                          h.super_number,
                          (
                            h.super_class,
                            ((h.interface_count, plain_chain (IsInterfaceIndex c.pool) c.interfaces h.interfaces), ((h.field_count, fields), ((h.method_count, methods), ((h.attribute_count, plain_chain (IsPlainAttribute c.pool) c.attributes h.attributes), tt)))),
                          ),
                        ),
                      ),
                    ),
                  ),
                ),
              ),
            ),
          ),
        ),
      ),
    )

pub class_file_agree : Agrees agree.Any IsClassFile spelling class_file
unfolding class_file
class_file_agree = restated IsClassFile spelling (λ c k f. spelled_right c) (λ c k f. file_to c f) (λ c k g. file_from c g)
    (field (λ (c : ClassFile). 0xcafebabe) _ (items_agree (number_agree 4)) (λ magic lt. ruled (λ _. Unit {0}) NotClass _ (λ c k h. tt) (λ c k h. sym k.0) (λ good.
    field (λ (c : ClassFile). c.minor) _ (items_agree (number_agree 2)) (λ minor lt. field (λ (c : ClassFile). c.major) _ (items_agree (number_agree 2)) (λ major lt.
    ruled (λ (c : ClassFile). IsVersion c.major) (Version major) _ (λ c k h. subst IsVersion (sym k.0) h) (λ c k h. subst IsVersion k.0 h) (λ known.
    reknown (λ c k. (k.1, (k.0, (sym good, tt)))) (λ c k. (k.1.0, k.0)) (items_agree (class_agree minor major))))))))

abbrev pub end_of : List ℕ → State
end_of bytes = record { at = length bytes; rest = [] }

pub file_found : (bytes : List ℕ) (t : State) (c : ClassFile) → file (start bytes) (Ok (c, t)) → Spells bytes c
unfolding file followed ended rule made
file_found bytes t c h = elim h [
  | inl k ↦ elim k.2 [
    | inl j ↦
        let g = class_file_agree.found (start bytes) k.0.1 k.0.0 k.1 in
        let same : c ≡ k.0.0 = j.2.0 in
        subst (Spells bytes) (sym same) (g.1, g.0.parts ∙ ap (λ (r : List ℕ). spelling k.0.0 ++ r) j.1.0 ∙ append-nil (spelling k.0.0))
    | inr j ↦ absurd (let e = j.2 in cc)
  ]
  | inr k ↦ absurd (let e = k.2 in cc)
]

pub file_again : (bytes : List ℕ) (c : ClassFile) → Spells bytes c → file (start bytes) (Ok (c, end_of bytes))
unfolding file followed ended rule made
file_again bytes c h =
    let whole : Takes (start bytes) (spelling c) (end_of bytes) = record { parts = h.1 ∙ sym (append-nil (spelling c)); moved = omega (arith, ap length h.1) } in
    inl ((c, end_of bytes), class_file_agree.again (start bytes) (end_of bytes) c whole h.0 tt, inl ((tt, end_of bytes), (refl, refl), (refl, refl)))
