-- The texts of methods are those of the program's.
use Rattle.std.proofs.Common.{◌≡◌, ◌⊎◌, ◌↔◌, ◌<◌, ◌+◌, ◌++◌, ℕ, zero, suc, length-append, List, [], ◌∷◌, length, map, Option, Some, All, inl, inr, sym, ap, subst, ◌∙◌, arith}
use Rattle.std.specs.Prelude.{slice_get, unwrap_or}
use Rattle.std.specs.Option.{option_map_or}
use Rattle.std.proofs.lemmas.List.{length-map}
use Rattle.std.proofs.lemmas.Option.{same_Some, slice_get_within}
use Rattle.slicer_ids.specs.declared.ids.ClassId.{ClassId}
use Rattle.slicer_ids.specs.declared.ids.MethodId.{MethodId}
use Rattle.slicer_ids.specs.declared.ids.Statement.{Statement}
use Rattle.class_form.specs.Classes.{Declared, IsMethod}
use Rattle.class_form.specs.Numbers.{AreMethods}
use Rattle.class_form.specs.declared.body.Body.{Body}
use Rattle.class_form.specs.declared.class_file.ClassFile.{ClassFile}
use Rattle.class_form.specs.declared.class_file.Member.{Member}
use Rattle.class_form.proofs.Indices.{index_at}
use Rattle.constraint_form.proofs.Instructions.{in_range}
use Rattle.dep_form.specs.Constraints.{SystemHolds}
use Rattle.dep_form.specs.LookUps.{IsStatementOf}
use Rattle.dep_form.specs.PointsTo.{Reached}
use Rattle.dep_form.specs.Solutions.{IsSolutionOf}
use Rattle.dep_form.specs.declared.solution.Solution.{Solution}
use Rattle.dep_form.specs.declared.system.System.{System}
use Rattle.dep_form.specs.declared.texts.MethodText.{MethodText}
use Rattle.fact_form.proofs.ItemLists.{joined, mapped}
use Rattle.fact_form.specs.FactTables.{AreMethodTexts, HasLineOf, RunsIn}
use Rattle.fact_form.specs.Handed.{IsProgramWith}
use Rattle.hierarchy.specs.Places.{declared_at, descriptor_in, name_in, text_bytes, texts_at}
use Rattle.hierarchy.specs.declared.members.Kind.TheVariants.{Method}
use Rattle.program_code.proofs.OneInstruction.{coded_body}
use Rattle.program_form.specs.Lines.{IsLineOf}
use Rattle.program_form.specs.Programs.{Program, MethodOf}
use Rattle.text_tables.specs.MethodLines.{AreMethodLines, AreRunLines, AreTextsBelow, HasPointsInOrder, IsTextOf}
use Rattle.text_tables.specs.SiteNames.{IsCoded}
use Rattle.text_tables.proofs.Placed.{methods_are}
use Rattle.fact_form.proofs.ItemLists.{all_of}
use Rattle.class_form.proofs.Indices.{there_at}

abbrev AnyKind : ℕ → Type 0
AnyKind op = Unit {0}

-- WHAT MAY RUN

pub run_lines : (p : Program) (s : System) (m : MethodId) (lines : List (ℕ × Option ℕ)) → SystemHolds s (Reached m) → AreMethodLines p m lines → AreRunLines p s m lines
run_lines p s m lines reached are = record {
  statements = λ pc. (λ h. (are.statements pc).0 h.1, λ h. (reached, (are.statements pc).1 h));
  lines = λ pc o h. are.lines pc o h.1;
}

pub not_run : (p : Program) (s : System) (m : MethodId) (lines : List (ℕ × Option ℕ)) → lines ≡ [] → (SystemHolds s (Reached m) → ⊥) → AreRunLines p s m lines
not_run p s m lines e never = record {
  statements = λ pc. (λ h. absurd (never h.0), λ (k, x, at, is). absurd (omega (arith, slice_get_within [] k x (subst (λ (es : List (ℕ × Option ℕ)). slice_get es k ≡ Some x) e at))));
  lines = λ pc o h. absurd (never h.0);
}

-- POINTS

pub points_in_order : (classes : List ClassFile) (bodies : List Body) (s : System) (p : Program) → IsProgramWith classes bodies s p → All HasPointsInOrder bodies
points_in_order classes bodies s p is = subst (All HasPointsInOrder) is.bodies_are
    (all_of HasPointsInOrder p.bodies (λ k b at. (coded_body p is.coded b (there_at p.bodies k b at)).is.shape.2.depths.2.order))

pub as_coded : (classes : List ClassFile) (bodies : List Body) (s : System) (p : Program) → IsProgramWith classes bodies s p → IsCoded classes bodies p
as_coded classes bodies s p is = record { classes_are = is.classes_are; bodies_are = is.bodies_are; asked = is.asked; coded = is.coded }

-- HOW MANY

module _ (classes : List ClassFile) (bodies : List Body) (s : System) (p : Program) (is : IsProgramWith classes bodies s p) (places : List (ClassId × ℕ)) (are : AreMethods classes (map declared_at places)) where
  pub place_count : length places ≡ length p.methods
  place_count = sym (length-map places declared_at) ∙ ap (λ (ds : List Declared). length ds) (methods_are classes places are p is.classes_are is.coded)

  pub system_count : length places ≡ length s.methods
  system_count = place_count ∙ sym is.constraints.1.methods

  pub reached_count : (sol : Solution) → IsSolutionOf s sol → length places ≡ length sol.reached
  reached_count sol solved = system_count ∙ sym solved.methods

-- ONE MORE

module _ (classes : List ClassFile) (bodies : List Body) (sol : Solution) (places : List (ClassId × ℕ)) where
  pub no_texts : (texts : List MethodText) → texts ≡ [] → AreTextsBelow classes bodies sol places 0 texts
  no_texts texts e = record {
    size = ap (λ (ts : List MethodText). length ts) e;
    each = λ m t at. absurd (omega (arith, slice_get_within [] m.0 t (subst (λ (ts : List MethodText). slice_get ts m.0 ≡ Some t) e at)));
  }

  pub one_text : (n : ℕ) (place : ClassId × ℕ) (old new : List MethodText) (t : MethodText) → slice_get places n ≡ Some place → AreTextsBelow classes bodies sol places n old →
      IsTextOf classes bodies sol (record { 0 = n }) place t → new ≡ old ++ t ∷ [] → AreTextsBelow classes bodies sol places (n + 1) new
  one_text n place old new t at are is e = record {
    size = ap (λ (ts : List MethodText). length ts) e ∙ longer old are.size;
    each = λ m u here. by_part m u (joined old (t ∷ []) m.0 u (subst (λ (ts : List MethodText). slice_get ts m.0 ≡ Some u) e here));
  }
    where
      longer : (ts : List MethodText) → length ts ≡ n → length (ts ++ t ∷ []) ≡ n + 1
      longer ts h = omega (arith, length-append ts (t ∷ []), h)

      by_part : (m : MethodId) (u : MethodText) → (slice_get old m.0 ≡ Some u) ⊎ ((k : ℕ) × (m.0 ≡ length old + k) × (slice_get (t ∷ []) k ≡ Some u)) →
          (q : ClassId × ℕ) × (slice_get places m.0 ≡ Some q) × IsTextOf classes bodies sol m q u
      by_part m u (inl h) = are.each m u h
      by_part m u (inr (k, number, h)) = by_index k number h
        where
          by_index : (i : ℕ) → m.0 ≡ length old + i → slice_get (t ∷ []) i ≡ Some u → (q : ClassId × ℕ) × (slice_get places m.0 ≡ Some q) × IsTextOf classes bodies sol m q u
          by_index zero e' h' =
              let same : n ≡ m.0 = omega (arith, e', are.size) in (
                place,
                subst (λ (i : ℕ). slice_get places i ≡ Some place) same at,
                subst (λ (i : ℕ). IsTextOf classes bodies sol (record { 0 = i }) place u) same (subst (λ (v : MethodText). IsTextOf classes bodies sol (record { 0 = n }) place v) (same_Some t u h') is),
              )
          by_index (suc i) e' h' = absurd (omega (arith, slice_get_within [] i u h'))

-- ALL TEXTS
module _ (classes : List ClassFile) (bodies : List Body) (sol : Solution) (places : List (ClassId × ℕ)) (count : ℕ) (whole : count ≡ length places) (texts : List MethodText) (below : AreTextsBelow classes bodies sol places count texts)
    (numbers : AreMethods classes (map declared_at places)) (s : System) (solved : IsSolutionOf s sol) (p : Program) (is : IsProgramWith classes bodies s p) where
  coded : IsCoded classes bodies p
  coded = as_coded classes bodies s p is

  size : length texts ≡ length p.methods
  size = below.size ∙ whole ∙ place_count classes bodies s p is places numbers

  -- the texts of the place where a method is declared
  name_is : (place : ClassId × ℕ) (x : Member) (name descriptor : List ℕ) → IsMethod classes (declared_at place) x name descriptor → (texts_at Method classes place).name ≡ name
  name_is place x name descriptor (k, class, (there, text, other)) =
      ap (λ (o : Option ClassFile). option_map_or (λ (z : ClassFile). name_in Method z place.1) o []) class
      ∙ ap (λ (o : Option Member). option_map_or (λ (z : Member). text_bytes k.pool z.name) o []) there
      ∙ ap (λ (o : Option (List ℕ)). unwrap_or o []) text

  descriptor_is : (place : ClassId × ℕ) (x : Member) (name descriptor : List ℕ) → IsMethod classes (declared_at place) x name descriptor → (texts_at Method classes place).descriptor ≡ descriptor
  descriptor_is place x name descriptor (k, class, (there, other, text)) =
      ap (λ (o : Option ClassFile). option_map_or (λ (z : ClassFile). descriptor_in Method z place.1) o []) class
      ∙ ap (λ (o : Option Member). option_map_or (λ (z : Member). text_bytes k.pool z.descriptor) o []) there
      ∙ ap (λ (o : Option (List ℕ)). unwrap_or o []) text

  -- the text of a method that has a number
  abbrev Text : MethodId → Type 0
  Text m = (t : MethodText) × (slice_get texts m.0 ≡ Some t) × (place : ClassId × ℕ) × (slice_get places m.0 ≡ Some place) × IsTextOf classes bodies sol m place t

  text_of : (m : MethodId) → m.0 < length p.methods → Text m
  text_of m lt =
      let t = index_at texts m.0 (omega (arith, lt, size)) in
      let w = below.each m t.0 t.1 in
      (t.0, t.1, w.0, w.1, w.2)

  texts_are : (m : MethodId) (d : Declared) (x : Member) (name descriptor : List ℕ) → MethodOf p m d x name descriptor →
      (t : MethodText) × (slice_get texts m.0 ≡ Some t) × (t.class.0 ≡ d.class) × (t.name ≡ name) × (t.descriptor ≡ descriptor)
  texts_are m d x name descriptor (at, method) =
      let w = text_of m (slice_get_within p.methods m.0 d at) in
      let here : slice_get (map declared_at places) m.0 ≡ Some d = subst (λ (ds : List Declared). slice_get ds m.0 ≡ Some d) (sym (methods_are classes places numbers p is.classes_are is.coded)) at in
      let q = mapped declared_at places m.0 d here in
      let same : declared_at w.2 ≡ d = ap declared_at (same_Some w.2 q.0 (sym w.3 ∙ q.1)) ∙ q.2 in
      let inside : IsMethod classes (declared_at w.2) x name descriptor = subst (λ (z : Declared). IsMethod classes z x name descriptor) (sym same) (subst (λ (ks : List ClassFile). IsMethod ks d x name descriptor) is.classes_are method) in
      (w.0, w.1, ap (λ (c : ClassId). c.0) w.4.class ∙ ap (λ (z : Declared). z.class) same, w.4.name ∙ name_is w.2 x name descriptor inside, w.4.descriptor ∙ descriptor_is w.2 x name descriptor inside)

  runs_in : (t : Statement) → RunsIn p s t AnyKind → t.method.0 < length p.methods
  runs_in t h = in_range p is.asked t AnyKind h.1

  statements : (t : Statement) → RunsIn p s t AnyKind ↔ IsStatementOf texts t
  statements t = (
    λ h.
        let w = text_of t.method (runs_in t h) in
        (w.0, w.1, ((w.4.lines p s coded solved).statements t.pc).0 h),
    λ (u, at, has).
        let w = below.each t.method u at in
        ((w.2.lines p s coded solved).statements t.pc).1 has,
  )

  lines : (t : Statement) (o : Option ℕ) → RunsIn p s t AnyKind → HasLineOf texts t o ↔ IsLineOf p t o
  lines t o h = (
    λ (u, at, has).
        let w = below.each t.method u at in
        ((w.2.lines p s coded solved).lines t.pc o h).0 has,
    λ line.
        let w = text_of t.method (runs_in t h) in
        (w.0, w.1, ((w.4.lines p s coded solved).lines t.pc o h).1 line),
  )

  pub texts_described : AreMethodTexts p s texts
  texts_described = record { count = size; texts = texts_are; statements = statements; lines = lines }
