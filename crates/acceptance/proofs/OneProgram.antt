-- Class files have one program, and it is accepted, or refused with one line.
use Rattle.std.proofs.Common.{◌≡◌, ◌≤◌, ◌<◌, ℕ, List, [], ◌∷◌, Option, Some, None, Contains, refl, sym, ap, subst, ◌∙◌, inl, inr, arith}
use Rattle.std.specs.Prelude.{All, slice_get}
use Rattle.std.proofs.lemmas.Option.{same_Some}
use Rattle.std.proofs.lemmas.List.Elements.{All-contains, All-nil, All-cons}
use Rattle.std.proofs.lemmas.List.Sorted.{All-permutation}
use Rattle.byte_form.specs.Places.{IsBytes}
use Rattle.slicer_ids.specs.Order.{BytesBefore}
use Rattle.slicer_ids.proofs.Ordered.{one_ordered}
use Rattle.slicer_ids.specs.declared.ids.MethodId.{MethodId}
use Rattle.class_form.specs.Classes.{Declared, IsField}
use Rattle.class_form.specs.ClassRules.{IsClassFile}
use Rattle.class_form.specs.Numbers.{AreMethods, AreFields, IsThere, MemberBefore}
use Rattle.class_form.specs.Pools.{utf_at}
use Rattle.class_form.specs.declared.body.Body.{Body}
use Rattle.class_form.specs.declared.class_file.ClassFile.{ClassFile}
use Rattle.class_form.specs.declared.class_file.CodeBody.{CodeBody}
use Rattle.class_form.specs.declared.class_file.Member.{Member}
use Rattle.class_form.proofs.Indices.{there_at}
use Rattle.dep_form.specs.declared.rules.Entry.{Entry}
use Rattle.hierarchy.proofs.Bytes.{before_trans, not_before_itself}
use Rattle.program_form.specs.Programs.{Program, CodeOf}
use Rattle.program_form.specs.Systems.{ForeignBefore}
use Rattle.program_code.specs.Codes.{IsProgramOfCode}
use Rattle.program_code.proofs.OneProgram.{one_list_of_bodies}
use Rattle.body_rules.specs.Methods.{IsSound}
use Rattle.body_rules.proofs.Octets.{code_octets}
use Rattle.call_graph.specs.Entries.{AreEntries, IsEntry, HasNoEntry}
use Rattle.call_graph.proofs.OneNumbering.{one_numbering}
use Rattle.constraint_form.proofs.SiteNumbers.{foreign_asym}
use Rattle.acceptance.specs.Classes.{AreSound, none, file}
use Rattle.acceptance.specs.Programs.{IsProgramOf}
use Rattle.acceptance.proofs.OneTree.{one_tree}

-- FIELDS

module _ (classes : List ClassFile) where
  field_texts : (a : Declared) (x y : Member) (n d o e : List ℕ) → IsField classes a x n d → IsField classes a y o e → (n ≡ o) × (d ≡ e)
  field_texts a x y n d o e (j, is, (at, named, typed)) (k, has, (there, called, spelled)) =
      let file : j ≡ k = same_Some j k (sym is ∙ has) in
      let member : x ≡ y = same_Some x y (sym at ∙ ap (λ (z : ClassFile). slice_get z.fields a.index) file ∙ there) in (
        same_Some n o (sym named ∙ ap (λ (z : ClassFile). utf_at z.pool x.name) file ∙ ap (λ (z : Member). utf_at k.pool z.name) member ∙ called),
        same_Some d e (sym typed ∙ ap (λ (z : ClassFile). utf_at z.pool x.descriptor) file ∙ ap (λ (z : Member). utf_at k.pool z.descriptor) member ∙ spelled),
      )

  field_asym : (a b : Declared) → MemberBefore (IsField classes) a b → MemberBefore (IsField classes) b a → ⊥
  field_asym a b (x, n, d, y, o, e, ia, ib, inl lt) (x', n', d', y', o', e', ib', ia', inl gt) = omega (arith, lt, gt)
  field_asym a b (x, n, d, y, o, e, ia, ib, inl lt) (x', n', d', y', o', e', ib', ia', inr (same, rest)) = omega (arith, lt, same)
  field_asym a b (x, n, d, y, o, e, ia, ib, inr (same, rest)) (x', n', d', y', o', e', ib', ia', inl gt) = omega (arith, gt, same)
  field_asym a b (x, n, d, y, o, e, ia, ib, inr (same, before)) (x', n', d', y', o', e', ib', ia', inr (again, after)) =
      let first = field_texts a x y' n d o' e' ia ia' in
      let second = field_texts b y x' o e n' d' ib ib' in
      let turned : ForeignBefore (o, e) (n, d) = subst (λ z. ForeignBefore z (n, d)) (sym (pair second.0 second.1)) (subst (λ z. ForeignBefore (n', d') z) (sym (pair first.0 first.1)) after) in
      foreign_asym (n, d) (o, e) before turned
    where
      pair : {a b c d : List ℕ} → a ≡ c → b ≡ d → ◌≡◌ {A = List ℕ × List ℕ} (a, b) (c, d)
      pair e f = cc (e, f)

  one_fields : (xs ys : List Declared) → AreFields classes xs → AreFields classes ys → xs ≡ ys
  one_fields xs ys a b = one_ordered (MemberBefore (IsField classes)) (IsThere (IsField classes)) xs ys (λ x y u v. field_asym x y) a b

-- CLASSES

abbrev IsRead : ClassFile → Type 0
IsRead k = (bytes : List ℕ) × IsSound bytes k

all_read : (contents : List (List ℕ)) (files : List ClassFile) → AreSound contents files → All IsRead files
all_read _ _ none = All-nil IsRead
all_read _ _ (file {bytes} {c} {contents} {files} s r) = All-cons IsRead c files (bytes, s) (all_read contents files r)

code_of_bytes : (p : Program) → All IsRead p.classes → (m : MethodId) (code : CodeBody) → CodeOf p m code → IsBytes code.code
code_of_bytes p read m code (d, x, n, t, (number, (k, class, (member, named, typed))), has) =
    let r = All-contains IsRead p.classes k read (there_at p.classes d.class k class) in
    code_octets r.0 k r.1.octets r.1.spells d.index x code (member, has)

-- PROGRAMS

one_entries : (classes : List ClassFile) (methods : List Declared) (main : Option (List ℕ)) (xs ys : List Entry) → AreMethods classes methods
    → AreEntries classes main xs → AreEntries classes main ys → xs ≡ ys
one_entries classes methods main xs ys m h g =
    one_ordered (λ (a : Entry) (b : Entry). a.method.0 < b.method.0) (IsEntry classes methods main) xs ys (λ a b p q lt gt. omega (arith, lt, gt)) (h.each methods m) (g.each methods m)

program_is : (p q : Program) → p.classes ≡ q.classes → p.methods ≡ q.methods → p.fields ≡ q.fields → p.bodies ≡ q.bodies → p.entries ≡ q.entries → p ≡ q
program_is p q f g h i j =
    ap (λ z. record p { classes = z }) f ∙ ap (λ z. record p { classes = q.classes; methods = z }) g
    ∙ ap (λ z. record p { classes = q.classes; methods = q.methods; fields = z }) h
    ∙ ap (λ z. record p { classes = q.classes; methods = q.methods; fields = q.fields; bodies = z }) i
    ∙ ap (λ z. record p { classes = q.classes; methods = q.methods; fields = q.fields; bodies = q.bodies; entries = z }) j

module _ (contents : List (List ℕ)) (files : List ClassFile) (main : Option (List ℕ)) (sound : AreSound contents files) where
  pub read_classes : (p : Program) → IsProgramOf files main p → All IsRead p.classes
  read_classes p h = All-permutation IsRead files p.classes h.classes.same (all_read contents files sound)

  pub keep_rules : (p : Program) → IsProgramOf files main p → All IsClassFile p.classes
  keep_rules p h = λ k d lt. (read_classes p h k d lt).1.spells.0

  pub one_program : (p q : Program) → IsProgramOf files main p → IsProgramOf files main q → p ≡ q
  one_program p q h g =
      let classes : p.classes ≡ q.classes = one_tree files p.classes q.classes h.classes g.classes in
      let methods : p.methods ≡ q.methods = one_numbering p.classes p.methods q.methods h.code.methods (subst (λ cs. AreMethods cs q.methods) (sym classes) g.code.methods) in
      let fields : p.fields ≡ q.fields = one_fields p.classes p.fields q.fields h.code.fields (subst (λ cs. AreFields cs q.fields) (sym classes) g.code.fields) in
      let entries : p.entries ≡ q.entries = one_entries p.classes p.methods main p.entries q.entries h.code.methods h.entries (subst (λ cs. AreEntries cs main q.entries) (sym classes) g.entries) in
      let other : IsProgramOfCode (record p { bodies = q.bodies }) =
      subst IsProgramOfCode (program_is q (record p { bodies = q.bodies }) (sym classes) (sym methods) (sym fields) refl (sym entries)) g.code in
      program_is p q classes methods fields (one_list_of_bodies p (keep_rules p h) (code_of_bytes p (read_classes p h)) q.bodies h.code other) entries

  pub has_entry : (classes : List ClassFile) (p : Program) → IsProgramOf files main p → classes ≡ p.classes → HasNoEntry classes main → ⊥
  has_entry classes p h e no_one =
      let some = h.entries.some in
      let is : IsEntry p.classes p.methods main some.0 = All-contains (IsEntry p.classes p.methods main) p.entries some.0 (h.entries.each p.methods h.code.methods).each some.1 in
      subst (λ cs. HasNoEntry cs main) e no_one is.1 is.3
