-- The names of sites are those of the program's.
use Rattle.std.proofs.Common.{◌≡◌, ◌⊎◌, ◌<◌, ◌+◌, ◌++◌, ℕ, zero, suc, List, [], ◌∷◌, take, length, length-append, get_or, Contains, Option, Some, None, inl, inr, refl, sym, ap, subst, ◌∙◌, arith}
use Rattle.std.specs.Prelude.{slice_get, codes, IfSome}
use Rattle.std.proofs.lemmas.List.{take_more}
use Rattle.std.proofs.lemmas.Option.{same_Some, slice_get_within}
use Rattle.slicer_ids.specs.declared.ids.MethodId.{MethodId}
use Rattle.slicer_ids.specs.declared.ids.SiteId.{SiteId}
use Rattle.slicer_ids.specs.declared.ids.Statement.{Statement}
use Rattle.class_form.specs.Types.{constant_text}
use Rattle.class_form.specs.declared.body.Body.{Body}
use Rattle.class_form.specs.declared.body.Instr.{Instr}
use Rattle.class_form.specs.declared.class_file.ClassFile.{ClassFile}
use Rattle.class_form.specs.declared.types.FieldType.{FieldType}
use Rattle.constraint_form.specs.Asked.{IsReadProgram}
use Rattle.constraint_form.proofs.SiteNumbers.{site_type}
use Rattle.dep_form.specs.Constraints.{IsSite}
use Rattle.dep_form.specs.declared.rules.SiteInfo.{SiteInfo}
use Rattle.dep_form.specs.declared.system.System.{System}
use Rattle.dep_form.specs.declared.texts.SiteName.{SiteName}
use Rattle.fact_form.proofs.ItemLists.{IsMadeFrom, back, join_left, join_right, joined}
use Rattle.fact_form.specs.FactTables.{AreSiteNames}
use Rattle.fact_form.specs.Handed.{IsProgramWith}
use Rattle.program_code.specs.Codes.{IsProgramOfCode}
use Rattle.program_code.proofs.OneInstruction.{coded_body, one_body}
use Rattle.program_form.specs.Programs.{Program, ClassOf}
use Rattle.program_form.specs.Sites.{Site, Made, OfRoot, HasType, StandsAt, of_new, of_primitive_array, of_reference_array, of_dimension, of_constant, of_result, of_arguments, of_argument}
use Rattle.program_form.specs.Statements.{IsAt}
use Rattle.text_tables.specs.Found.{AreBodiesInOrder}
use Rattle.text_tables.specs.SiteNames.{IsCoded, IsNameOf}

-- STATEMENTS

pub class_of_statement : (p : Program) (coded : IsProgramOfCode p) (s : Statement) (b : Body) (i : Instr) → IsAt p s b i → (n : ℕ) × (k : ClassFile) × ClassOf p s.method n k
class_of_statement p coded s b i at =
    let is = coded_body p coded b at.0 in
    (is.number, is.class, subst (λ (m : MethodId). ClassOf p m is.number is.class) at.1 is.of_class)

-- a site stands at a statement
site_at : (p : Program) (s : Statement) (k : ℕ) (t : FieldType) → HasType p (Made s k) t → (b : Body) × (i : Instr) × IsAt p s b i
site_at p s k t (of_new o names is) = (o.0, o.1, o.2)
site_at p s k t (of_primitive_array o code e) = (o.0, o.1, o.2)
site_at p s k t (of_reference_array o names is e) = (o.0, o.1, o.2)
site_at p s k t (of_dimension {b = b} {i = i} at op names is lt e) = (b, i, at)
site_at p s k t (of_constant o loads e) = (o.0, o.1, o.2)
site_at p s k t (of_result (inl (m, (o, bytes, names, is), result)) le e r) = (o.0, o.1, o.2)
site_at p s k t (of_result (inr (o, field)) le e r) = (o.0, o.1, o.2)

pub body_of_site : (p : Program) (s : Statement) (k : ℕ) (t : FieldType) → HasType p (Made s k) t → (b : Body) × Contains p.bodies b × (b.method ≡ s.method)
body_of_site p s k t typed = let (b, i, at) = site_at p s k t typed in (b, at.0, at.1)

pub statement_of_site : (p : Program) (asked : IsReadProgram p) (coded : IsProgramOfCode p) (s : Statement) (k : ℕ) (t : FieldType) → HasType p (Made s k) t → (b : Body) → Contains p.bodies b → b.method ≡ s.method →
    (i : Instr) × IsAt p s b i
statement_of_site p asked coded s k t typed b among method =
    let (a, i, at) = site_at p s k t typed in
    let same : a ≡ b = one_body p coded a b at.0 among (at.1 ∙ sym method) in
    (i, subst (λ (z : Body). IsAt p s z i) same at)

pub coded_bodies : (classes : List ClassFile) (bodies : List Body) (p : Program) → IsCoded classes bodies p → IsCoded classes p.bodies p
coded_bodies classes bodies p is = record { classes_are = is.classes_are; bodies_are = refl; asked = is.asked; coded = is.coded }

pub bodies_order : (classes : List ClassFile) (bodies : List Body) (p : Program) → IsCoded classes bodies p → AreBodiesInOrder bodies
bodies_order classes bodies p is = subst AreBodiesInOrder is.bodies_are is.asked.bodies

pub found_is : {B : Type 0} (Q : B → Type 0) (o : Option B) (b : B) → o ≡ Some b → IfSome o Q → Q b
found_is {B} Q o b e h = subst (λ (z : Option B). IfSome z Q) e h

-- PLACES

pub at_statement : (p : Program) (site : Site) (place : Option Statement) (s : Statement) (k : ℕ) (t : FieldType) → place ≡ Some s → StandsAt site place k → HasType p site t → HasType p (Made s k) t
at_statement p (Made r j) place s k t e (here, number) typed =
    let same : r ≡ s = same_Some r s (sym here ∙ e) in
    subst (λ (n : ℕ). HasType p (Made s n) t) (sym number) (subst (λ (z : Statement). HasType p (Made z j) t) same typed)
at_statement p (OfRoot j) place s k t e (here, number) typed = absurd (cc (sym here ∙ e))

pub at_root : (p : Program) (site : Site) (place : Option Statement) (k : ℕ) (t : FieldType) → place ≡ None → StandsAt site place k → HasType p site t → HasType p (OfRoot k) t
at_root p (Made r j) place k t e (here, number) typed = absurd (cc (sym here ∙ e))
at_root p (OfRoot j) place k t e (here, number) typed = subst (λ (n : ℕ). HasType p (OfRoot n) t) (sym number) typed

pub root_array : (p : Program) (k : ℕ) (t : FieldType) (x : List ℕ) → k ≡ 0 → x ≡ codes "[Ljava/lang/String;" → HasType p (OfRoot k) t → x ≡ constant_text t
root_array p k t x e is typed = by_type t (subst (λ (n : ℕ). HasType p (OfRoot n) t) e typed)
  where
    by_type : (u : FieldType) → HasType p (OfRoot 0) u → x ≡ constant_text u
    by_type u (of_arguments same) = is ∙ ap constant_text (sym same)

pub root_string : (p : Program) (k : ℕ) (t : FieldType) (x : List ℕ) → (k ≡ 0 → ⊥) → x ≡ codes "java/lang/String" → HasType p (OfRoot k) t → x ≡ constant_text t
root_string p k t x other is (of_arguments same) = absurd (other refl)
root_string p k t x other is (of_argument same) = is ∙ ap constant_text (sym same)

-- LISTS

module _ {A B : Type 0} (R : A → B → Type 0) where
  pub made_none : (xs : List A) (ys : List B) → ys ≡ [] → IsMadeFrom R (take 0 xs) ys
  made_none xs ys e = subst (λ (zs : List B). IsMadeFrom R (take 0 xs) zs) (sym e) (record { size = refl; there = λ k x at. absurd (omega (arith, slice_get_within [] k x at)) })

  last_is : (xs : List A) (ys : List B) (x : A) (y : B) → IsMadeFrom R xs ys → R x y → IsMadeFrom R (xs ++ x ∷ []) (ys ++ y ∷ [])
  last_is xs ys x y made r = record {
    size = omega (arith, length-append xs (x ∷ []), length-append ys (y ∷ []), made.size);
    there = λ k z at. by_part k z (joined xs (x ∷ []) k z at);
  }
    where
      by_part : (k : ℕ) (z : A) → (slice_get xs k ≡ Some z) ⊎ ((j : ℕ) × (k ≡ length xs + j) × (slice_get (x ∷ []) j ≡ Some z)) → (w : B) × (slice_get (ys ++ y ∷ []) k ≡ Some w) × R z w
      by_part k z (inl h) = let w = made.there k z h in (w.0, join_left ys (y ∷ []) k w.0 w.1, w.2)
      by_part k z (inr (zero, place, h)) = (y, join_right ys (y ∷ []) 0 k y (omega (arith, place, made.size)) refl, subst (λ (v : A). R v y) (same_Some x z h) r)
      by_part k z (inr (suc j, place, h)) = absurd (omega (arith, slice_get_within [] j z h))

  pub made_more : (xs : List A) (i : ℕ) (d : A) (old new : List B) (y : B) → i < length xs → IsMadeFrom R (take i xs) old → R (get_or xs i d) y → new ≡ old ++ y ∷ [] → IsMadeFrom R (take (i + 1) xs) new
  made_more xs i d old new y lt made r e =
      subst (λ (zs : List B). IsMadeFrom R (take (i + 1) xs) zs) (sym e) (subst (λ (zs : List A). IsMadeFrom R zs (old ++ y ∷ [])) (sym (take_more xs i d lt)) (last_is (take i xs) old (get_or xs i d) y made r))

-- ALL NAMES

pub names_described : (classes : List ClassFile) (bodies : List Body) (s : System) (names : List SiteName) → IsMadeFrom (IsNameOf classes bodies) s.sites names → (p : Program) → IsProgramWith classes bodies s p → AreSiteNames p s names
names_described classes bodies s names made p is = record {
  count = sym made.size;
  places = λ n x info at here. let w = of n x info at here in (w.place, w.number);
  texts = λ n x h at number.
      let info = back (IsNameOf classes bodies) s.sites names made n.0 x at in
      let typed = site_type p n h number in
      (typed.0, typed.1, info.2.text p h typed.0 coded (is.constraints.1.sites.places n h info.0 number info.1) typed.1);
}
  where
    coded : IsCoded classes bodies p
    coded = record { classes_are = is.classes_are; bodies_are = is.bodies_are; asked = is.asked; coded = is.coded }

    of : (n : SiteId) (x : SiteName) (info : SiteInfo) → slice_get names n.0 ≡ Some x → IsSite s n info → IsNameOf classes bodies info x
    of n x info at here =
        let w = made.there n.0 info here in
        subst (IsNameOf classes bodies info) (same_Some w.0 x (sym w.1 ∙ at)) w.2
