-- Methods by their places, and their code.
use Rattle.std.proofs.Common.{◌≡◌, ℕ, List, map, Option, Some, None, Contains, sym, ap, subst, ◌∙◌}
use Rattle.std.specs.Prelude.{slice_get, option_map, IfNone, IfSome}
use Rattle.std.proofs.lemmas.Option.{same_Some, slice_get-map}
use Rattle.std.proofs.lemmas.List.Elements.{All-contains}
use Rattle.slicer_ids.specs.declared.ids.ClassId.{ClassId}
use Rattle.slicer_ids.specs.declared.ids.MethodId.{MethodId}
use Rattle.class_form.specs.Classes.{Declared, HasCode}
use Rattle.class_form.specs.ClassRules.{IsMethodMember, IsClassFile}
use Rattle.class_form.specs.Numbers.{AreMethods}
use Rattle.class_form.specs.declared.body.Body.{Body}
use Rattle.class_form.specs.declared.class_file.ClassFile.{ClassFile}
use Rattle.class_form.specs.declared.class_file.CodeBody.{CodeBody}
use Rattle.class_form.specs.declared.class_file.Member.{Member}
use Rattle.class_form.proofs.Indices.{there_at}
use Rattle.hierarchy.specs.Places.{declared_at}
use Rattle.program_form.specs.Programs.{Program, ClassOf, CodeOf}
use Rattle.program_code.specs.Codes.{IsProgramOfCode}
use Rattle.program_code.proofs.OneProgram.{one_code}
use Rattle.method_facts.proofs.MethodNumbers.{one_numbering}
use Rattle.text_tables.specs.Found.{IsCodeAt}

-- the list of methods of a program is that of the places
pub methods_are : (classes : List ClassFile) (places : List (ClassId × ℕ)) → AreMethods classes (map declared_at places) → (p : Program) → p.classes ≡ classes → IsProgramOfCode p →
    map declared_at places ≡ p.methods
methods_are classes places are p same coded =
    one_numbering p.classes (map declared_at places) p.methods (subst (λ (ks : List ClassFile). AreMethods ks (map declared_at places)) (sym same) are) coded.methods

pub place_is : (classes : List ClassFile) (places : List (ClassId × ℕ)) → AreMethods classes (map declared_at places) → (p : Program) → p.classes ≡ classes → IsProgramOfCode p →
    (m : ℕ) (o : Option (ClassId × ℕ)) → o ≡ slice_get places m → option_map declared_at o ≡ slice_get p.methods m
place_is classes places are p same coded m o e =
    ap (λ (z : Option (ClassId × ℕ)). option_map declared_at z) e ∙ sym (slice_get-map declared_at places m) ∙ ap (λ (ds : List Declared). slice_get ds m) (methods_are classes places are p same coded)

-- the place of a method that has a number
pub some_place : (p : Program) (m : ℕ) (d : Declared) (place : ClassId × ℕ) → option_map declared_at (Some place) ≡ slice_get p.methods m → slice_get p.methods m ≡ Some d → declared_at place ≡ d
some_place p m d place e is = same_Some (declared_at place) d (e ∙ is)

pub no_place : {P : Type 0} (p : Program) (m : ℕ) (d : Declared) (o : Option (ClassId × ℕ)) → o ≡ None → option_map declared_at o ≡ slice_get p.methods m → slice_get p.methods m ≡ Some d → P
no_place {P} p m d o none e is = let f : None ≡ Some d = ap (λ (z : Option (ClassId × ℕ)). option_map declared_at z) (sym none) ∙ e ∙ is in absurd (cc f)

-- CODE

method_rules : (k : ClassFile) (place : ℕ) (x : Member) → IsClassFile k → slice_get k.methods place ≡ Some x → IsMethodMember k.pool k.flags x
method_rules k place x file at = All-contains (IsMethodMember k.pool k.flags) k.methods x file.methods (there_at k.methods place x at)

pub code_found : {B : Type 0} (now : B → CodeBody) (k : ClassFile) (place : ℕ) (x : Member) (o : Option B) → IsClassFile k → slice_get k.methods place ≡ Some x → IfSome o (λ b. HasCode x (now b))
    → IfNone o ((code : CodeBody) → HasCode x code → ⊥) → (code : CodeBody) → IsCodeAt k place code → option_map now o ≡ Some code
code_found now k place x (Some b) file at found missed code (y, there, has) =
    let same : y ≡ x = same_Some y x (sym there ∙ at) in
    ap (λ (c : CodeBody). Some c) (one_code x (now b) code (method_rules k place x file at).one_code found (subst (λ (z : Member). HasCode z code) same has))
code_found now k place x None file at found missed code (y, there, has) =
    let same : y ≡ x = same_Some y x (sym there ∙ at) in
    absurd (missed code (subst (λ (z : Member). HasCode z code) same has))

-- THE PLACE OF A METHOD

pub file_found : (p : Program) (m : MethodId) (o : Option (ClassId × ℕ)) (place : ClassId × ℕ) (n : ℕ) (k : ClassFile) → o ≡ Some place → option_map declared_at o ≡ slice_get p.methods m.0 →
    ClassOf p m n k → slice_get p.classes place.0.0 ≡ Some k
file_found p m o place n k is e (d, at, number, class) =
    let same : declared_at place ≡ d = some_place p m.0 d place (ap (λ (z : Option (ClassId × ℕ)). option_map declared_at z) (sym is) ∙ e) at in
    subst (λ (c : ℕ). slice_get p.classes c ≡ Some k) (number ∙ ap (λ (z : Declared). z.class) (sym same)) class

pub code_place : (p : Program) (m : MethodId) (o : Option (ClassId × ℕ)) (place : ClassId × ℕ) (code : CodeBody) → o ≡ Some place → option_map declared_at o ≡ slice_get p.methods m.0 →
    CodeOf p m code → (k : ClassFile) × (slice_get p.classes place.0.0 ≡ Some k) × IsCodeAt k place.1 code
code_place p m o place code is e (d, x, name, descriptor, (at, (k, class, (there, is_name, is_descriptor))), has) =
    let same : d ≡ declared_at place = sym (some_place p m.0 d place (ap (λ (z : Option (ClassId × ℕ)). option_map declared_at z) (sym is) ∙ e) at) in
    (k, subst (λ (z : Declared). slice_get p.classes z.class ≡ Some k) same class, (x, subst (λ (z : Declared). slice_get k.methods z.index ≡ Some x) same there, has))

-- a body that was found is one of them
pub body_is : {B : Type 0} (now : B → Body) (bodies : List Body) (m : MethodId) (body : Body) (o : Option B) → Contains bodies body → IfSome o (λ x. (now x ≡ body) × (body.method ≡ m)) →
    IfSome o (λ x. Contains bodies (now x) × ((now x).method ≡ m))
body_is now bodies m body (Some x) among (e, is) = (subst (Contains bodies) (sym e) among, ap (λ (z : Body). z.method) e ∙ is)
body_is now bodies m body None among h = h
