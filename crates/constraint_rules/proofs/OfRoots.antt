-- Constraints of the root.
use Rattle.std.proofs.Common.{◌≡◌, ◌⊎◌, ℕ, true, false, List, Contains, Option, Some, None, inl, inr, refl, sym, ap, subst, ◌∙◌}
use Rattle.std.specs.Prelude.{◌↔◌, slice_get}
use Rattle.std.proofs.lemmas.List.Elements.{All-contains}
use Rattle.slicer_ids.specs.declared.ids.ClassId.{ClassId}
use Rattle.slicer_ids.specs.declared.ids.MethodId.{MethodId}
use Rattle.slicer_ids.specs.declared.ids.SiteId.{SiteId}
use Rattle.worklists.specs.Growth.{Grows, FromOne}
use Rattle.worklists.proofs.Growing.{Grows-same, Grows-then}
use Rattle.class_form.specs.Classes.{Declared, IsClass, IsMethod}
use Rattle.class_form.specs.Numbers.{IsThere}
use Rattle.class_form.specs.declared.class_file.ClassFile.{ClassFile}
use Rattle.class_form.proofs.Indices.{there_at}
use Rattle.dep_form.specs.declared.rules.Entry.{Entry}
use Rattle.dep_form.specs.declared.rules.Var.{Var}
use Rattle.dep_form.specs.declared.rules.Rule.{Rule}
use Rattle.dep_form.specs.declared.rules.Rule.TheVariants.{Enter, Hold}
use Rattle.dep_form.specs.declared.system.System.{System}
use Rattle.program_form.specs.Programs.{Program, ClassOf, Initializes}
use Rattle.program_form.specs.Sites.{OfRoot}
use Rattle.program_form.specs.Facts.{ArgumentOf}
use Rattle.program_form.specs.Systems.{SiteNumber, VariableNumber}
use Rattle.constraint_form.proofs.SiteNumbers.{one_site_number}
use Rattle.signature_tables.specs.Programs.{IsOfClasses}
use Rattle.constraint_rules.specs.One.{IsOne, IsFound}
use Rattle.constraint_rules.specs.Forms.{EnterOf, AllocOf}
use Rattle.constraint_rules.specs.Entries.{IsGiven, IsInitializedFirst, IsEntryRule}
use Rattle.constraint_rules.specs.Statements.{IsRootRule, entering, giving, holding, initializing_first}
use Rattle.constraint_rules.proofs.Ones.{none_of, some_of, one_same}
use Rattle.constraint_rules.proofs.FormParts.{alloc_one}
use Rattle.constraint_rules.proofs.Growths.{one_grown}

-- the array of arguments
pub given_one : (p : Program) (s : System) (e : Entry) (array : SiteId) (v : Option Var) (o : Option Rule) → e.arguments ≡ true → SiteNumber p array (OfRoot 0)
    → IsOne (VariableNumber p s (ArgumentOf e.method 0)) v → IsOne (AllocOf (IsFound v) (IsFound (Some array))) o → IsOne (IsGiven p s e) o
given_one p s e array v o has site var one =
    let given = alloc_one (VariableNumber p s (ArgumentOf e.method 0)) (λ n. SiteNumber p n (OfRoot 0)) v (Some array) o var
    (some_of (λ n. SiteNumber p n (OfRoot 0)) array site (λ n h. one_site_number p array n (OfRoot 0) site h)) one in
    one_same (AllocOf (VariableNumber p s (ArgumentOf e.method 0)) (λ n. SiteNumber p n (OfRoot 0))) (IsGiven p s e) o (λ r h. (has, h)) (λ r h. h.1) given

pub none_given : (p : Program) (s : System) (e : Entry) → (e.arguments ≡ true → ⊥) → IsOne (IsGiven p s e) None
none_given p s e never = none_of (IsGiven p s e) (λ r h. never h.0)

-- the class of the method is initialized
pub first_initialized : (classes : List ClassFile) (p : Program) (of : IsOfClasses classes p) (e : Entry) (o : Option ClassId) (old new : List Rule)
    → IsOne (λ (c : ClassId). (d : Declared) × (slice_get p.methods e.method.0 ≡ Some d) × (d.class ≡ c.0)) o
    → Grows old new (EnterOf (λ m. (c : ClassId) × (o ≡ Some c) × Initializes p c.0 m)) → Grows old new (IsInitializedFirst p e)
first_initialized classes p of e o old new one g = Grows-same old new (EnterOf (λ m. (c : ClassId) × (o ≡ Some c) × Initializes p c.0 m)) (IsInitializedFirst p e) to from g
  where
    file_of : (d : Declared) → Contains p.methods d → (k : ClassFile) × IsClass p.classes d.class k
    file_of d among =
        let (x, n, bytes, (k, is, rest)) = All-contains (IsThere (IsMethod classes)) p.methods d of.methods_are.each among in
        (k, subst (λ (ks : List ClassFile). IsClass ks d.class k) (sym of.classes_are) is)

    to : (r : Rule) → EnterOf (λ m. (c : ClassId) × (o ≡ Some c) × Initializes p c.0 m) r → IsInitializedFirst p e r
    to r (m, (c, is, init), same) =
        let (d, at, class) = (one c).1 is in
        let (k, file) = file_of d (there_at p.methods e.method.0 d at) in
        (c.0, k, (d, at, sym class, subst (λ n. IsClass p.classes n k) class file), (m, init, same))

    from : (r : Rule) → IsInitializedFirst p e r → EnterOf (λ m. (c : ClassId) × (o ≡ Some c) × Initializes p c.0 m) r
    from r (c, k, (d, at, class, file), (m, init, same)) = let n : ClassId = record { 0 = c } in (m, (n, (one n).0 (d, at, sym class), init), same)

-- the elements of the array, and each entry method
pub root_grown : (p : Program) (s : System) (entries : List Entry) (array element : SiteId) (old mid new : List Rule) → p.entries ≡ entries
    → SiteNumber p array (OfRoot 0) → SiteNumber p element (OfRoot 1) → Grows old mid (λ r. r ≡ Hold array element) → Grows mid new (FromOne (IsEntryRule p s) entries)
    → Grows old new (IsRootRule p s)
root_grown p s entries array element old mid new same outer inner g h =
    Grows-then old mid new (λ r. r ≡ Hold array element) (FromOne (IsEntryRule p s) entries) (IsRootRule p s) to from g h
  where
    listed : (e : Entry) → Contains p.entries e → Contains entries e
    listed e c = subst (λ (es : List Entry). Contains es e) same c

    back : (e : Entry) → Contains entries e → Contains p.entries e
    back e c = subst (λ (es : List Entry). Contains es e) (sym same) c

    to : (r : Rule) → IsRootRule p s r → (r ≡ Hold array element) ⊎ FromOne (IsEntryRule p s) entries r
    to r (entering {e = e} has is) = inr (e, listed e has, inl is)
    to r (giving {e = e} has given alloc) = inr (e, listed e has, inr (inl (given, alloc)))
    to r (holding {a = a} {b = b} x y is) =
        let first : a ≡ array = one_site_number p a array (OfRoot 0) x outer in
        let second : b ≡ element = one_site_number p b element (OfRoot 1) y inner in
        inl (is ∙ ap (λ z. Hold z b) first ∙ ap (λ z. Hold array z) second)
    to r (initializing_first {e = e} {c = c} {k = k} has of enters) = inr (e, listed e has, inr (inr (c, k, of, enters)))

    from : (r : Rule) → (r ≡ Hold array element) ⊎ FromOne (IsEntryRule p s) entries r → IsRootRule p s r
    from r (inl is) = holding outer inner is
    from r (inr (e, has, inl is)) = entering (back e has) is
    from r (inr (e, has, inr (inl (given, alloc)))) = giving (back e has) given alloc
    from r (inr (e, has, inr (inr (c, k, of, enters)))) = initializing_first (back e has) of enters
