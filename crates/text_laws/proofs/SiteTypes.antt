-- A site has one type, where a method has one code.
use Rattle.std.proofs.Common.{◌≡◌, ◌⊎◌, ◌<◌, ◌≤◌, ◌+◌, ◌-◌, ℕ, zero, suc, List, Some, sym, ap, subst, ◌∙◌, inl, inr, arith}
use Rattle.std.specs.Prelude.{slice_get}
use Rattle.std.proofs.lemmas.Option.{same_Some}
use Rattle.std.proofs.lemmas.List.Elements.{All-contains}
use Rattle.slicer_ids.specs.declared.ids.MethodId.{MethodId}
use Rattle.slicer_ids.specs.declared.ids.Statement.{Statement}
use Rattle.class_form.specs.Pools.{constant_at}
use Rattle.class_form.specs.Opcodes.{IsCall, IsGetStatic, IsGetField}
use Rattle.class_form.specs.Types.{NamesType}
use Rattle.class_form.specs.Classes.{Declared, HasCode}
use Rattle.class_form.specs.ClassRules.{IsClassFile, IsMethodMember}
use Rattle.class_form.specs.declared.class_file.ClassFile.{ClassFile}
use Rattle.class_form.specs.declared.class_file.CodeBody.{CodeBody}
use Rattle.class_form.specs.declared.class_file.Member.{Member}
use Rattle.class_form.specs.declared.body.Instr.{Instr}
use Rattle.class_form.specs.declared.types.FieldType.{FieldType}
use Rattle.class_form.specs.declared.types.BaseType.{BaseType}
use Rattle.class_form.specs.declared.types.BaseType.TheVariants.{Primitive, Class}
use Rattle.class_form.proofs.Indices.{there_at}
use Rattle.program_form.specs.Programs.{Program, CodeOf}
use Rattle.program_form.specs.Statements.{HasOpcode, NamesClass}
use Rattle.program_form.specs.Sites.{Site, Made, OfRoot, HasType, of_new, of_primitive_array, of_reference_array, of_dimension, of_constant, of_result, of_arguments, of_argument, ElementCode, element_letter, ResultType, LoadsObject, class_of_constant}
use Rattle.program_code.proofs.OneProgram.{one_code}
use Rattle.constraint_form.proofs.Instructions.{one_at, apart, kind, one_class_file, one_class_name, one_call_type, one_type_at}
use Rattle.constraint_form.proofs.Types.{one_named}
use Rattle.text_laws.proofs.TwoFacts.{IsKnown}

abbrev type_of : ℕ → BaseType → FieldType
type_of dims base = record { dims = dims; base = base }

-- the opcode is one from the first to the last
abbrev From : ℕ → ℕ → ℕ → Type 0
From first last op = (first ≤ op) × (op ≤ last)

-- how a site that a statement makes comes by its type
data How (p : Program) (s : Statement) (k : ℕ) (u : FieldType) : Type 0 where
  constant : (name : List ℕ) → HasOpcode p s (From 0 20) → LoadsObject p s name → u ≡ type_of 0 (Class name) → How p s k u
  result : (t : FieldType) → HasOpcode p s (From 178 186) → ResultType p s t → u ≡ type_of (t.dims - k) t.base → How p s k u
  object : (text : List ℕ) → HasOpcode p s (From 187 187) → NamesClass p s text → NamesType text u → How p s k u
  primitive : (code : ℕ) → HasOpcode p s (From 188 188) → ElementCode p s code → u ≡ type_of 1 (Primitive (element_letter code)) → How p s k u
  elements : (text : List ℕ) (t : FieldType) → HasOpcode p s (From 189 189) → NamesClass p s text → NamesType text t → u ≡ type_of (t.dims + 1) t.base → How p s k u
  dimension : (text : List ℕ) (t : FieldType) → HasOpcode p s (From 197 197) → NamesClass p s text → NamesType text t → u ≡ type_of (t.dims - k) t.base → How p s k u

module _ (p : Program) (known : IsKnown p) where
  -- ONE CODE

  member_sound : (c k : ℕ) (x : Member) (f : ClassFile) → slice_get p.classes c ≡ Some f → slice_get f.methods k ≡ Some x → IsMethodMember f.pool f.flags x
  member_sound c k x f class member =
      let file = All-contains IsClassFile p.classes f known.files (there_at p.classes c f class) in
      All-contains (IsMethodMember f.pool f.flags) f.methods x file.methods (there_at f.methods k x member)

  one_code_of : (m : MethodId) (c d : CodeBody) → CodeOf p m c → CodeOf p m d → c ≡ d
  one_code_of m c d (g, x, n, t, (number, (f, class, (member, named, typed))), has) (h, y, o, u, (also, (j, there, (there_too, called, spelled))), too) =
      let place : g ≡ h = same_Some g h (sym number ∙ also) in
      let file : f ≡ j = same_Some f j (sym class ∙ ap (λ (z : Declared). slice_get p.classes z.class) place ∙ there) in
      let one : x ≡ y = same_Some x y (sym member ∙ ap (λ (z : Declared). slice_get f.methods z.index) place ∙ ap (λ (z : ClassFile). slice_get z.methods h.index) file ∙ there_too) in
      one_code x c d (member_sound g.class g.index x f class member).one_code has (subst (λ (z : Member). HasCode z d) (sym one) too)

  one_element : (s : Statement) (a b : ℕ) → ElementCode p s a → ElementCode p s b → a ≡ b
  one_element s a b (c, of, at) (d, from, there) =
      same_Some a b (sym (subst (λ (z : CodeBody). slice_get z.code (s.pc + 1) ≡ Some a) (one_code_of s.method c d of from) at) ∙ there)

  -- ONE CONSTANT, ONE RESULT

  one_loaded : (s : Statement) (x y : List ℕ) → LoadsObject p s x → LoadsObject p s y → x ≡ y
  one_loaded s x y (a, i, c, f, one, at, of, is, e) (b, j, d, g, two, there, from, has, h) =
      let same = one_at p known.asked s a b i j at there in
      let file = one_class_file p known.asked s.method c d f g of from in
      let constants : one ≡ two = same_Some one two (sym (subst (λ (z : Instr). constant_at g.pool z.index ≡ Some one) same.1 (subst (λ (z : ClassFile). constant_at z.pool i.index ≡ Some one) file.1 is)) ∙ has) in
      same_Some x y (sym (subst (λ z. class_of_constant z ≡ Some x) constants e) ∙ h)

  abbrev IsRead : ℕ → Type 0
  IsRead op = IsGetStatic op ⊎ IsGetField op

  not_both : (op : ℕ) → IsCall op → IsRead op → ⊥
  not_both op c (inl r) = omega (arith, c.0, r)
  not_both op c (inr r) = omega (arith, c.0, r)

  one_result : (s : Statement) (t u : FieldType) → ResultType p s t → ResultType p s u → t ≡ u
  one_result s t u (inl (m, c, e)) (inl (n, d, f)) = same_Some t u (sym (subst (λ z. z.result ≡ Some t) (one_call_type p known.asked s m n c d) e) ∙ f)
  one_result s t u (inr (o, f)) (inr (q, g)) = one_type_at p known.asked s t u f g
  one_result s t u (inl (m, c, e)) (inr (q, g)) = absurd (apart p known.asked s IsCall IsRead not_both c.0 q)
  one_result s t u (inr (o, f)) (inl (n, d, g)) = absurd (apart p known.asked s IsCall IsRead not_both d.0 o)

  -- HOW A SITE COMES BY ITS TYPE

  of_read : (op : ℕ) → IsRead op → From 178 186 op
  of_read op (inl r) = (omega (arith, r), omega (arith, r))
  of_read op (inr r) = (omega (arith, r), omega (arith, r))

  reads : (s : Statement) (t : FieldType) → ResultType p s t → HasOpcode p s (From 178 186)
  reads s t (inl (m, c, e)) = kind p known.asked s IsCall (From 178 186) (λ op h. (omega (arith, h.0), h.1)) c.0
  reads s t (inr (o, f)) = kind p known.asked s IsRead (From 178 186) of_read o

  how : (s : Statement) (k : ℕ) (u : FieldType) → HasType p (Made s k) u → How p s k u
  how s k u (of_new {text} o n t) = object text (kind p known.asked s _ (From 187 187) (λ op h. (omega (arith, h), omega (arith, h))) o) n t
  how s k u (of_primitive_array {code} o c e) = primitive code (kind p known.asked s _ (From 188 188) (λ op h. (omega (arith, h), omega (arith, h))) o) c e
  how s k u (of_reference_array {text} {t} o n ty e) = elements text t (kind p known.asked s _ (From 189 189) (λ op h. (omega (arith, h), omega (arith, h))) o) n ty e
  how s k u (of_dimension {b} {i} {text} {t} at m n ty lt e) = dimension text t (b, i, at, (omega (arith, m), omega (arith, m))) n ty e
  how s k u (of_constant {name} o l e) = constant name (kind p known.asked s _ (From 0 20) (λ op h. (omega arith, omega (arith, h.1))) o) l e
  how s k u (of_result {t} r le e is) = result t (reads s t r) r e

  -- two ways exclude one another
  far : (s : Statement) (a b c d : ℕ) → b < c → HasOpcode p s (From a b) → HasOpcode p s (From c d) → ⊥
  far s a b c d lt x y = apart p known.asked s (From a b) (From c d) (λ op h k. omega (arith, lt, h.1, k.0)) x y

  named_once : (s : Statement) (a b : List ℕ) (t u : FieldType) → NamesClass p s a → NamesClass p s b → NamesType a t → NamesType b u → t ≡ u
  named_once s a b t u n m x y = one_named b t u (subst (λ z. NamesType z t) (one_class_name p known.asked s a b n m) x) y

  one_way : (s : Statement) (k : ℕ) (t u : FieldType) → How p s k t → How p s k u → t ≡ u
  one_way s k t u (constant x o l e) (constant y q m f) = e ∙ ap (λ z. type_of 0 (Class z)) (one_loaded s x y l m) ∙ sym f
  one_way s k t u (constant x o l e) (result y q w f) = absurd (far s 0 20 178 186 (omega arith) o q)
  one_way s k t u (constant x o l e) (object y q m f) = absurd (far s 0 20 187 187 (omega arith) o q)
  one_way s k t u (constant x o l e) (primitive y q d f) = absurd (far s 0 20 188 188 (omega arith) o q)
  one_way s k t u (constant x o l e) (elements y w q m tz f) = absurd (far s 0 20 189 189 (omega arith) o q)
  one_way s k t u (constant x o l e) (dimension y w q m tz f) = absurd (far s 0 20 197 197 (omega arith) o q)
  one_way s k t u (result x o r e) (constant y q m f) = absurd (far s 0 20 178 186 (omega arith) q o)
  one_way s k t u (result x o r e) (result y q w f) = e ∙ ap (λ (z : FieldType). type_of (z.dims - k) z.base) (one_result s x y r w) ∙ sym f
  one_way s k t u (result x o r e) (object y q m f) = absurd (far s 178 186 187 187 (omega arith) o q)
  one_way s k t u (result x o r e) (primitive y q d f) = absurd (far s 178 186 188 188 (omega arith) o q)
  one_way s k t u (result x o r e) (elements y w q m tz f) = absurd (far s 178 186 189 189 (omega arith) o q)
  one_way s k t u (result x o r e) (dimension y w q m tz f) = absurd (far s 178 186 197 197 (omega arith) o q)
  one_way s k t u (object x o n e) (constant y q m f) = absurd (far s 0 20 187 187 (omega arith) q o)
  one_way s k t u (object x o n e) (result y q w f) = absurd (far s 178 186 187 187 (omega arith) q o)
  one_way s k t u (object x o n e) (object y q m f) = named_once s x y t u n m e f
  one_way s k t u (object x o n e) (primitive y q d f) = absurd (far s 187 187 188 188 (omega arith) o q)
  one_way s k t u (object x o n e) (elements y w q m tz f) = absurd (far s 187 187 189 189 (omega arith) o q)
  one_way s k t u (object x o n e) (dimension y w q m tz f) = absurd (far s 187 187 197 197 (omega arith) o q)
  one_way s k t u (primitive x o c e) (constant y q m f) = absurd (far s 0 20 188 188 (omega arith) q o)
  one_way s k t u (primitive x o c e) (result y q w f) = absurd (far s 178 186 188 188 (omega arith) q o)
  one_way s k t u (primitive x o c e) (object y q m f) = absurd (far s 187 187 188 188 (omega arith) q o)
  one_way s k t u (primitive x o c e) (primitive y q d f) = e ∙ ap (λ z. type_of 1 (Primitive (element_letter z))) (one_element s x y c d) ∙ sym f
  one_way s k t u (primitive x o c e) (elements y w q m tz f) = absurd (far s 188 188 189 189 (omega arith) o q)
  one_way s k t u (primitive x o c e) (dimension y w q m tz f) = absurd (far s 188 188 197 197 (omega arith) o q)
  one_way s k t u (elements x v o n ty e) (constant y q m f) = absurd (far s 0 20 189 189 (omega arith) q o)
  one_way s k t u (elements x v o n ty e) (result y q w f) = absurd (far s 178 186 189 189 (omega arith) q o)
  one_way s k t u (elements x v o n ty e) (object y q m f) = absurd (far s 187 187 189 189 (omega arith) q o)
  one_way s k t u (elements x v o n ty e) (primitive y q d f) = absurd (far s 188 188 189 189 (omega arith) q o)
  one_way s k t u (elements x v o n ty e) (elements y w q m tz f) = e ∙ ap (λ (z : FieldType). type_of (z.dims + 1) z.base) (named_once s x y v w n m ty tz) ∙ sym f
  one_way s k t u (elements x v o n ty e) (dimension y w q m tz f) = absurd (far s 189 189 197 197 (omega arith) o q)
  one_way s k t u (dimension x v o n ty e) (constant y q m f) = absurd (far s 0 20 197 197 (omega arith) q o)
  one_way s k t u (dimension x v o n ty e) (result y q w f) = absurd (far s 178 186 197 197 (omega arith) q o)
  one_way s k t u (dimension x v o n ty e) (object y q m f) = absurd (far s 187 187 197 197 (omega arith) q o)
  one_way s k t u (dimension x v o n ty e) (primitive y q d f) = absurd (far s 188 188 197 197 (omega arith) q o)
  one_way s k t u (dimension x v o n ty e) (elements y w q m tz f) = absurd (far s 189 189 197 197 (omega arith) q o)
  one_way s k t u (dimension x v o n ty e) (dimension y w q m tz f) = e ∙ ap (λ (z : FieldType). type_of (z.dims - k) z.base) (named_once s x y v w n m ty tz) ∙ sym f

  -- a site has one type
  pub one_type : (h : Site) (t u : FieldType) → HasType p h t → HasType p h u → t ≡ u
  one_type (Made s k) t u x y = one_way s k t u (how s k t x) (how s k u y)
  one_type (OfRoot zero) t u (of_arguments e) (of_arguments f) = e ∙ sym f
  one_type (OfRoot (suc zero)) t u (of_argument e) (of_argument f) = e ∙ sym f
  one_type (OfRoot (suc (suc k))) t u x y = elim x [ ]
