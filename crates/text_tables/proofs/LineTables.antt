-- The table of lines is that of the program.
use Rattle.std.proofs.Common.{◌≡◌, ◌↔◌, ◌<◌, ◌≤◌, ◌+◌, ◌++◌, ℕ, zero, suc, Bool, true, false, List, [], ◌∷◌, take, drop, length, map, Contains, Option, Some, All, refl, sym, ap, subst, ◌∙◌, arith, append_assoc, eqb, eq-eqb, length-append}
use Rattle.std.specs.Prelude.{slice_get, ◌&&◌}
use Rattle.std.proofs.lemmas.List.{append-nil, length-drop, take-append-drop}
use Rattle.std.proofs.lemmas.Bool.{eqb-true}
use Rattle.std.proofs.lemmas.List.Elements.{All-contains}
use Rattle.std.proofs.lemmas.Option.{same_Some, slice_get_within}
use Rattle.slicer_ids.specs.Order.{StatementBefore}
use Rattle.slicer_ids.specs.declared.ids.ClassId.{ClassId}
use Rattle.slicer_ids.specs.declared.ids.MethodId.{MethodId}
use Rattle.slicer_ids.specs.declared.ids.Statement.{Statement}
use Rattle.class_form.specs.Classes.{Declared, IsClass}
use Rattle.class_form.specs.declared.class_file.ClassFile.{ClassFile}
use Rattle.class_form.proofs.Indices.{index_in, there_at}
use Rattle.constraint_form.specs.Asked.{IsReadProgram}
use Rattle.dep_form.specs.Orders.{RiseBy}
use Rattle.dep_form.specs.declared.system.System.{System}
use Rattle.dep_form.specs.declared.texts.MethodText.{MethodText}
use Rattle.fact_form.proofs.ItemLists.{listed_as}
use Rattle.fact_form.specs.FactTables.{AreLines, AreMethodTexts, IsAtLine, RunsIn}
use Rattle.program_code.specs.Codes.{IsOfMethod, IsProgramOfCode}
use Rattle.program_form.specs.Programs.{Program, MethodOf}
use Rattle.worklists.specs.Growth.{FromOne}
use Rattle.worklists.proofs.Growing.{FromBelow}
use Rattle.text_tables.specs.LineGroups.{AreGroups, AreRuns, IsPlaceAt, IsPlaceOf, is_at, none, one, place_cmp, statement_of}
use Rattle.text_tables.specs.declared.lines.LinePlace.{LinePlace}
use Rattle.text_tables.proofs.Runs.{groups_are}

abbrev Group : Type 0
Group = ClassId × ℕ × List Statement

-- PLACES

pub entry_place : (class : ClassId) (m : MethodId) (e : ℕ × Option ℕ) (line : ℕ) → e.1 ≡ Some line → (x : LinePlace) →
    (x ≡ record { class = class; line = line; place = record { method = m; pc = e.0 } }) ↔ IsPlaceOf class m e x
entry_place class m e line is x = (
  λ h.
      let same : x.line ≡ line = ap (λ (z : LinePlace). z.line) h in
      (is ∙ ap (λ (n : ℕ). Some n) (sym same), h ∙ ap (λ (n : ℕ). record { class = class; line = n; place = record { method = m; pc = e.0 } }) (sym same)),
  λ h.
      let same : x.line ≡ line = same_Some x.line line (sym h.0 ∙ is) in
      h.1 ∙ ap (λ (n : ℕ). record { class = class; line = n; place = record { method = m; pc = e.0 } }) same,
)

pub method_places : (texts : List MethodText) (m : ℕ) (t : MethodText) (es : List (ℕ × Option ℕ)) → es ≡ t.lines → slice_get texts m ≡ Some t → (x : LinePlace) →
    FromOne (IsPlaceOf t.class (record { 0 = m })) es x ↔ IsPlaceAt texts m x
method_places texts m t es same at x = (
  λ (e, among, is). (t, e, at, subst (λ (zs : List (ℕ × Option ℕ)). Contains zs e) same among, is),
  λ (u, e, there, among, is).
      let one' : u ≡ t = same_Some u t (sym there ∙ at) in
      (e, subst (λ (zs : List (ℕ × Option ℕ)). Contains zs e) (sym same) (subst (λ (z : MethodText). Contains z.lines e) one' among), subst (λ (z : MethodText). IsPlaceOf z.class (record { 0 = m }) e x) one' is),
)

-- GROUPS

both_true : (a b : Bool) → (a && b) ≡ true → (a ≡ true) × (b ≡ true)
both_true true b e = (refl, e)
both_true false b e = absurd (cc e)

is_true : (class : ClassId) (line : ℕ) (x : LinePlace) → x.class ≡ class → x.line ≡ line → is_at class line x ≡ true
is_true class line x c l = conj (eq-eqb x.class.0 class.0 (ap (λ (z : ClassId). z.0) c)) (eq-eqb x.line line l)
  where
    conj : {a b : Bool} → a ≡ true → b ≡ true → (a && b) ≡ true
    conj p q = rw (p, q) refl

of_true : (class : ClassId) (line : ℕ) (x : LinePlace) → is_at class line x ≡ true → (x.class ≡ class) × (x.line ≡ line)
of_true class line x e =
    let both = both_true (eqb x.class.0 class.0) (eqb x.line line) e in
    (ap (λ (n : ℕ). record { 0 = n }) (eqb-true x.class.0 class.0 both.0), eqb-true x.line line both.1)

first_dropped : {A : Type 0} (n : ℕ) (xs : List A) (y : A) → slice_get (drop n xs) 0 ≡ Some y → slice_get xs n ≡ Some y
first_dropped zero xs y e = e
first_dropped (suc n) [] y e = absurd (omega (arith, slice_get_within [] 0 y e))
first_dropped (suc n) (x ∷ xs) y e = first_dropped n xs y e

-- the first place is of the run
some_run : (places : List LinePlace) (x : LinePlace) (n : ℕ) → slice_get places 0 ≡ Some x → ((y : LinePlace) → slice_get places n ≡ Some y → is_at x.class x.line y ≡ true → ⊥) → 0 < n
some_run places x zero at ends = absurd (ends x at (is_true x.class x.line x refl refl))
some_run places x (suc n) at ends = omega arith

pub fewer_places : (places : List LinePlace) (x : LinePlace) (n : ℕ) (rest : List LinePlace) → slice_get places 0 ≡ Some x → n ≤ length places →
    ((y : LinePlace) → slice_get places n ≡ Some y → is_at x.class x.line y ≡ true → ⊥) → rest ≡ drop n places → length rest < length places
fewer_places places x n rest at within ends e =
    omega (arith, some_run places x n at ends, slice_get_within places 0 x at, ap (λ (zs : List LinePlace). length zs) e, length-drop n places)

taken_size : (places : List LinePlace) (n : ℕ) → n ≤ length places → length (take n places) ≡ n
taken_size places n within =
    omega (arith, within, length-append (take n places) (drop n places), ap (λ (zs : List LinePlace). length zs) (take-append-drop n places), length-drop n places)

pub one_group : (places : List LinePlace) (x : LinePlace) (n : ℕ) (run rest : List LinePlace) (ts us : List Statement) (old new : List Group) → slice_get places 0 ≡ Some x → n ≤ length places →
    All (λ y. is_at x.class x.line y ≡ true) (take n places) → ((y : LinePlace) → slice_get places n ≡ Some y → is_at x.class x.line y ≡ true → ⊥) → run ≡ take n places → rest ≡ drop n places →
    ts ≡ map statement_of run → us ≡ ts → new ≡ old ++ (x.class, x.line, us) ∷ [] →
    (more : List Group) → AreRuns rest more → (end : List Group) × AreRuns places end × (new ++ more ≡ old ++ end)
one_group places x n run rest ts us old new at within same ends e f g h i more runs = (
  (x.class, x.line, us) ∷ more,
  one {class = x.class} {line = x.line} {rest = rest} {all = places} {ts = us} {groups = more} run (omega (arith, some_run places x n at ends, ap (λ (zs : List LinePlace). length zs) e, taken_size places n within)) (λ y among. of_true x.class x.line y (All-contains (λ z. is_at x.class x.line z ≡ true) run y (subst (All (λ z. is_at x.class x.line z ≡ true)) (sym e) same) among))
      (h ∙ g) (λ y there c l. ends y (first_dropped n places y (subst (λ (zs : List LinePlace). slice_get zs 0 ≡ Some y) f there)) (is_true x.class x.line y c l)) (sym (take-append-drop n places) ∙ ap (λ (zs : List LinePlace). zs ++ drop n places) (sym e) ∙ ap (λ (zs : List LinePlace). run ++ zs) (sym f)) runs,
  ap (λ (gs : List Group). gs ++ more) i ∙ append_assoc old ((x.class, x.line, us) ∷ []) more,
)

pub all_groups : (places rest : List LinePlace) (groups : List Group) → length rest ≡ 0 → ((more : List Group) → AreRuns rest more → AreRuns places (groups ++ more)) → AreRuns places groups
all_groups places [] groups e h = subst (AreRuns places) (append-nil groups) (h [] none)
all_groups places (x ∷ rest) groups e h = absurd (omega (arith, e))

-- THE TABLE

abbrev place_of : ℕ → ClassId → MethodId → ℕ → LinePlace
place_of line c m pc = record { class = c; line = line; place = record { method = m; pc = pc } }

same_place : (line : ℕ) (c k : ClassId) (m : MethodId) (pc n : ℕ) → k ≡ c → n ≡ pc → place_of line c m pc ≡ place_of line k m n
same_place line c k m pc n a b = rw (a, b) refl

module _ (texts : List MethodText) (p : Program) (s : System) (asked : IsReadProgram p) (coded : IsProgramOfCode p) (are : AreMethodTexts p s texts) where
  abbrev Runs : Statement → Type 0
  Runs t = RunsIn p s t (λ op. Unit {0})

  -- the class of the method of a statement is that of its text
  class_of : (t : Statement) → Runs t → (u : MethodText) → slice_get texts t.method.0 ≡ Some u → (d : Declared) × (slice_get p.methods t.method.0 ≡ Some d) × (u.class.0 ≡ d.class) × ((k : ClassFile) × IsClass p.classes d.class k)
  class_of t (reached, (b, i, at, kind)) u there =
      let h : IsOfMethod p b = All-contains (IsOfMethod p) p.bodies b coded.bodies at.0 in
      let of : MethodOf p t.method h.0 h.1 h.2 h.3 = subst (λ (m : MethodId). MethodOf p m h.0 h.1 h.2 h.3) at.1 h.6 in
      let w = are.texts t.method h.0 h.1 h.2 h.3 of in
      let same : w.0 ≡ u = same_Some w.0 u (sym w.1 ∙ there) in
      (h.0, of.0, subst (λ (z : MethodText). z.class.0 ≡ h.0.class) same w.2, (h.4, h.7))

  to_line : (x : LinePlace) → FromBelow (IsPlaceAt texts) (length texts) x → IsAtLine p s x.class x.line x.place
  to_line x (m, lt, (u, e, at, among, (line, is))) =
      let j = index_in u.lines e among in
      let place : x.place ≡ record { method = record { 0 = m }; pc = e.0 } = ap (λ (z : LinePlace). z.place) is in
      let there : slice_get texts x.place.method.0 ≡ Some u = subst (λ (z : Statement). slice_get texts z.method.0 ≡ Some u) (sym place) at in
      let pc : e.0 ≡ x.place.pc = sym (ap (λ (z : Statement). z.pc) place) in
      let runs : Runs x.place = (are.statements x.place).1 (u, there, (j.0, e, j.1, pc)) in
      let (d, at_d, class, (k, of)) = class_of x.place runs u there in
      let same : x.class.0 ≡ d.class = ap (λ (z : LinePlace). z.class.0) is ∙ class in
      (runs, (are.lines x.place (Some x.line) runs).0 (u, there, (j.0, e, j.1, pc, line)), (k, (d, at_d, same, subst (λ (n : ℕ). IsClass p.classes n k) (sym same) of)))

  of_line : (c : ClassId) (line : ℕ) (t : Statement) → IsAtLine p s c line t → FromBelow (IsPlaceAt texts) (length texts) (record { class = c; line = line; place = t })
  of_line c line t (runs, at, (k, (d, there, number, of))) =
      let (u, here, (j, e, entry, pc, has)) = (are.lines t (Some line) runs).1 at in
      let w = class_of t runs u here in
      let same : u.class ≡ c = ap (λ (n : ℕ). record { 0 = n }) (w.2 ∙ ap (λ (z : Declared). z.class) (same_Some w.0 d (sym w.1 ∙ there)) ∙ sym number) in
      (t.method.0, slice_get_within texts t.method.0 u here, (u, e, here, there_at u.lines j e entry, (has, same_place line c u.class t.method t.pc e.0 same pc)))

  module _ (places : List LinePlace) (members : (x : LinePlace) → Contains places x ↔ FromBelow (IsPlaceAt texts) (length texts) x) (groups : List Group) (grouped : AreGroups places groups) where
    abbrev place : ClassId → ℕ → Statement → LinePlace
    place c l t = record { class = c; line = l; place = t }

    at_line : (c : ClassId) (line : ℕ) (t : Statement) → Contains places (place c line t) → IsAtLine p s c line t
    at_line c line t h = to_line (place c line t) ((members (place c line t)).0 h)

    listed : (c : ClassId) (line : ℕ) (t : Statement) → IsAtLine p s c line t → Contains places (place c line t)
    listed c line t h = (members (place c line t)).1 (of_line c line t h)

    pub lines_described : AreLines p s groups
    lines_described = record {
      order = grouped.order;
      classes = λ c line ts among.
          let t = grouped.some c line ts among in
          let h = at_line c line t.0 (All-contains (λ (u : Statement). Contains places (place c line u)) ts t.0 (grouped.each c line ts among).each t.1) in
          slice_get_within p.classes c.0 h.2.0 h.2.1.3;
      each = λ c line ts among. listed_as StatementBefore (λ (t : Statement). Contains places (place c line t)) (IsAtLine p s c line) ts (λ t h. at_line c line t h) (λ t h. listed c line t h) (grouped.each c line ts among);
      whole = λ c line t h. grouped.whole c line t (listed c line t h);
    }

pub table_described : (texts : List MethodText) (all places : List LinePlace) (groups table : List Group) → ((x : LinePlace) → Contains all x ↔ FromBelow (IsPlaceAt texts) (length texts) x) →
    RiseBy place_cmp (λ x. x) places → ((x : LinePlace) → Contains places x ↔ Contains all x) → AreRuns places groups → table ≡ groups →
    (p : Program) (s : System) → IsReadProgram p → IsProgramOfCode p → AreMethodTexts p s texts → AreLines p s table
table_described texts all places groups table found order same runs e p s asked coded are =
    subst (AreLines p s) (sym e) (lines_described texts p s asked coded are places (λ x. (λ h. (found x).0 ((same x).0 h), λ h. (same x).1 ((found x).1 h))) groups (groups_are places groups runs order))
