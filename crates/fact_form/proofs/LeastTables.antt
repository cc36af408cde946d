-- The other tables of the least program: its class, its method without a line, and the root's two sites; no access and no value.
use Rattle.std.proofs.Common.{◌≡◌, ◌⊎◌, ◌<◌, ℕ, zero, suc, List, [], ◌∷◌, length, Option, Some, None, Contains, refl, sym, ap, subst, ◌∙◌, inl, inr, arith, length-append}
use Rattle.std.specs.Prelude.{slice_get, codes}
use Rattle.std.specs.Ordering.{nat_cmp}
use Rattle.std.proofs.lemmas.Bool.{cases_lt}
use Rattle.std.proofs.lemmas.Option.{same_Some}
use Rattle.slicer_ids.specs.declared.ids.MethodId.{MethodId}
use Rattle.slicer_ids.specs.declared.ids.SiteId.{SiteId}
use Rattle.slicer_ids.specs.declared.ids.Statement.{Statement}
use Rattle.class_form.specs.Classes.{Declared, class_name}
use Rattle.class_form.specs.Types.{constant_text}
use Rattle.class_form.specs.declared.class_file.ClassFile.{ClassFile}
use Rattle.class_form.specs.declared.class_file.Member.{Member}
use Rattle.class_form.specs.declared.class_file.Attribute.{Attribute}
use Rattle.class_form.specs.declared.class_file.CodeBody.{CodeBody}
use Rattle.class_form.specs.declared.class_file.Content.TheVariants.{Code}
use Rattle.class_form.specs.declared.types.FieldType.{FieldType}
use Rattle.class_form.specs.declared.body.Body.{Body}
use Rattle.class_form.specs.declared.body.Point.{Point}
use Rattle.class_form.specs.declared.body.Def.{Def}
use Rattle.dep_form.specs.declared.rules.Var.{Var}
use Rattle.dep_form.specs.declared.rules.SiteInfo.{SiteInfo}
use Rattle.dep_form.specs.declared.system.System.{System}
use Rattle.dep_form.specs.declared.texts.MethodText.{MethodText}
use Rattle.dep_form.specs.declared.texts.SiteName.{SiteName}
use Rattle.dep_form.specs.PointsTo.{Has}
use Rattle.dep_form.specs.Constraints.{SystemHolds, IsSite}
use Rattle.dep_form.specs.LookUps.{IsStatementOf}
use Rattle.dep_form.specs.Orders.{line_cmp, statement_cmp}
use Rattle.dep_form.specs.Keys.{key_of_line, key_of_access, key_of_value}
use Rattle.program_form.specs.Programs.{CodeOf}
use Rattle.program_form.specs.Statements.{HasOpcode, OperandIs}
use Rattle.program_form.specs.Lines.{IsLineOf, IsLine, line_pairs}
use Rattle.program_form.specs.Sites.{Site, OfRoot, HasType, of_arguments, of_argument}
use Rattle.program_form.specs.Facts.{ValueOf}
use Rattle.program_form.specs.Values.{IsAccessOpcode}
use Rattle.program_form.specs.Nodes.{at}
use Rattle.program_form.specs.Systems.{IsSystemOf, VariableNumber, has}
use Rattle.program_form.specs.Tiny.{tiny_program, tiny_method, tiny_member, tiny_code, tiny_body, tiny_point}
use Rattle.program_form.proofs.Tiny.{single, never, class_place, method_place, is_main, known, strings, string}
use Rattle.program_form.proofs.QuietFacts.{no_item, rise_none, rise_one}
use Rattle.program_form.proofs.TinyTie.{numbered_site, which}
use Rattle.constraint_form.specs.ConstraintSystems.{IsConstraintSystem}
use Rattle.constraint_form.proofs.LeastProgram.{class_number, method_number, main_method, text}
use Rattle.fact_form.specs.ValueNumbers.{OperandSite, ValueSite}
use Rattle.fact_form.specs.ValueNumbers as value
use Rattle.fact_form.specs.FactTables.{RunsIn, AreAccesses, AreValues, AreClassNames, AreMethodTexts, HasLineOf, AreLines, AreSiteNames}
use Rattle.fact_form.proofs.LeastNodes.{no_call_of, same_method, the_pc, main_runs, main_reached, only_main}
use Rattle.fact_form.proofs.LeastInputs.{inputs}

-- CLASSES AND METHODS

abbrev pub class_names : List (List ℕ)
class_names = codes "java/lang/Object" ∷ []

pub least_classes : AreClassNames tiny_program class_names
least_classes = record {
  count = refl;
  each = λ c k is.
      let file = class_place c k is in
      (codes "java/lang/Object", subst (λ (x : ClassFile). class_name x ≡ Some (codes "java/lang/Object")) (sym file) refl, subst (λ j. slice_get class_names j ≡ Some (codes "java/lang/Object")) (sym (class_number c k is)) refl);
}

abbrev pub main_text : MethodText
main_text = record { class = record { 0 = 0 }; name = codes "main"; descriptor = codes "([Ljava/lang/String;)V"; lines = (0, None) ∷ []; lines_rise = rise_one nat_cmp (λ (x : ℕ × Option ℕ). x.0) (0, None) }

abbrev pub texts : List MethodText
texts = main_text ∷ []

text_at : (m : ℕ) (t : MethodText) → slice_get texts m ≡ Some t → (m ≡ 0) × (t ≡ main_text)
text_at zero t e = (refl, same_Some t main_text (sym e))
text_at (suc m) t e = absurd cc

line_at : (k : ℕ) (x : ℕ × Option ℕ) → slice_get main_text.lines k ≡ Some x → x ≡ (0, None)
line_at zero x e = same_Some x (0, None) (sym e)
line_at (suc k) x e = absurd cc

same_statement : (t : Statement) → t.method ≡ tiny_method → t.pc ≡ 0 → at tiny_method 0 ≡ t
same_statement t m pc = by_parts t.method t.pc m pc
  where
    by_parts : (n : MethodId) (k : ℕ) → n ≡ tiny_method → k ≡ 0 → at tiny_method 0 ≡ at n k
    by_parts n k p q = rw (p, q) refl

-- the one statement is listed, without a line
listed : (t : Statement) → IsStatementOf texts t → at tiny_method 0 ≡ t
listed t (x, is, (k, line, there, pc)) =
    let main = text_at t.method.0 x is in
    let row : line ≡ (0, None) = line_at k line (subst (λ (y : MethodText). slice_get y.lines k ≡ Some line) main.1 there) in
    same_statement t (same_method t.method main.0) (sym pc ∙ ap (λ (y : ℕ × Option ℕ). y.0) row)

no_line : (t : Statement) (line : Option ℕ) → HasLineOf texts t line → line ≡ None
no_line t line (x, is, (k, row, there, pc, of)) =
    let main = text_at t.method.0 x is in
    let none : row ≡ (0, None) = line_at k row (subst (λ (y : MethodText). slice_get y.lines k ≡ Some row) main.1 there) in
    sym of ∙ ap (λ (y : ℕ × Option ℕ). y.1) none

-- the code has no line table
the_code : (m : MethodId) (c : CodeBody) → CodeOf tiny_program m c → tiny_code ≡ c
the_code m c (d, x, name, bytes, method, (a, among, is)) =
    let member = (method_number m d x name bytes method).1 in
    let attribute = single (record { name = 5; content = Code tiny_code }) a (subst (λ (y : Member). Contains y.attributes a) member among) in
    cc (ap (λ (y : Attribute). y.content) attribute ∙ is)

main_code : CodeOf tiny_program tiny_method tiny_code
main_code = (record { class = 0; index = 0 }, tiny_member, codes "main", text, main_method, (record { name = 5; content = Code tiny_code }, (0, omega arith, refl), refl))

pub no_line_of : (t : Statement) (line : ℕ) → IsLineOf tiny_program t (Some line) → ⊥
no_line_of t line (c, of, is) =
    let pairs = subst (λ (x : CodeBody). IsLine (line_pairs x.attributes) t.pc (Some line)) (sym (the_code t.method c of)) is in
    omega (arith, ap (λ (xs : List (ℕ × ℕ)). length xs) pairs.3, length-append pairs.0 ((pairs.1, line) ∷ pairs.2))

-- SITES

abbrev pub array_name : SiteName
array_name = record { class = codes "[Ljava/lang/String;"; place = None; k = 0 }

abbrev pub string_name : SiteName
string_name = record { class = codes "java/lang/String"; place = None; k = 1 }

abbrev pub site_names : List SiteName
site_names = array_name ∷ string_name ∷ []

-- WHAT STATEMENTS MAY BE: NOTHING

no_operand : (t : Statement) (i : ℕ) (d : Def) → OperandIs tiny_program t i d → ⊥
no_operand t i d (b, j, is, (point, (among, pc), u, uses, e, holds)) =
    let points : Contains (tiny_point ∷ []) point = subst (λ (x : Body). Contains x.shape.points point) (sym (single tiny_body b is.0)) among in
    no_item u (subst (λ (x : Point). Contains x.uses u) (sym (single tiny_point point points)) uses)

no_access : (t : Statement) → HasOpcode tiny_program t IsAccessOpcode → ⊥
no_access t o = never t IsAccessOpcode (λ k. elim k [
  | inl a ↦ omega (arith, a)
  | inr b ↦ elim b [
    | inl a ↦ omega (arith, a)
    | inr c ↦ elim c [ inl a ↦ omega (arith, a.0, a.1) | inr d ↦ elim d [ inl a ↦ omega (arith, a.0, a.1) | inr a ↦ omega (arith, a) ] ]
  ]
]) o

module _ (s : System) (system : IsConstraintSystem tiny_program s) (tie : IsSystemOf tiny_program s) where
  runs : RunsIn tiny_program s (at tiny_method 0) (λ op. Unit {0})
  runs = (main_reached s system tie, main_runs)

  the_statement : (t : Statement) → RunsIn tiny_program s t (λ op. Unit {0}) → at tiny_method 0 ≡ t
  the_statement t (reaches, o) = same_statement t (only_main s system tie t.method reaches) (the_pc t (λ op. Unit {0}) o)

  no_made : (t : Statement) (x : Var) (h : SiteId) → VariableNumber tiny_program s (ValueOf t) x → SystemHolds s (Has x h) → ⊥
  no_made t x h number holds =
      let g = tie.sites_named x h holds in
      elim (known (Has (ValueOf t) g.0) ((tie.facts (Has (ValueOf t) g.0) (Has x h) (has number g.1)).1 holds)) [
        | inl e ↦ absurd (cc e)
        | inr o ↦ elim o [ inl e ↦ absurd (cc e) | inr e ↦ absurd (cc e) ]
      ]

  no_value : (t : Statement) (h : SiteId) → ValueSite tiny_program s t h → ⊥
  no_value t h (value.made {x} o number holds) = no_made t x h number holds
  no_value t h (value.passed_on {i} o site) = no_operand t i site.0 site.2
  no_value t h (value.given c {k} is lt may) = no_call_of s system tie t c k is
  no_value t h (value.thrown c {k} is holds) = no_call_of s system tie t c k is

  pub least_accesses : AreAccesses tiny_program s inputs []
  least_accesses = record {
    order = rise_none statement_cmp key_of_access;
    listed = λ t. (λ h. no_item _ h.1, λ h. absurd (no_access t h.1));
    objects = λ t a c. no_item _ c;
    sites = λ t a c. no_item _ c;
  }

  pub least_values : AreValues tiny_program s []
  least_values = record {
    order = rise_none statement_cmp key_of_value;
    each = λ t hs c. no_item _ c;
    whole = λ t h r site. absurd (no_value t h site);
  }

  pub least_lines : AreLines tiny_program s []
  least_lines = record {
    order = rise_none line_cmp key_of_line;
    classes = λ c line ts h. no_item _ h;
    each = λ c line ts h. no_item _ h;
    whole = λ c line t h. absurd (no_line_of t line h.1);
  }

  to_line : (t : Statement) (line : Option ℕ) → at tiny_method 0 ≡ t → line ≡ None → IsLineOf tiny_program t line
  to_line t line e none = subst (λ x. IsLineOf tiny_program t x) (sym none) (subst (λ x. IsLineOf tiny_program x None) e (tiny_code, main_code, λ x c. no_item x c))

  from_line : (t : Statement) (line : Option ℕ) → at tiny_method 0 ≡ t → IsLineOf tiny_program t line → HasLineOf texts t line
  from_line t None e h = subst (λ x. HasLineOf texts x None) e (main_text, refl, (0, (0, None), refl, refl, refl))
  from_line t (Some l) e h = absurd (no_line_of t l h)

  pub least_texts : AreMethodTexts tiny_program s texts
  least_texts = record {
    count = refl;
    texts = λ m d x name descriptor is.
        let place = method_place m.0 d is.0 in
        let main = is_main m d x name descriptor is in
        let typed = (method_number m d x name descriptor is).2 in
        (main_text, subst (λ j. slice_get texts j ≡ Some main_text) (sym place.0) refl, ap (λ (y : Declared). y.class) (sym place.1), sym main.1, sym typed);
    statements = λ t. (
      λ r. subst (IsStatementOf texts) (the_statement t r) (main_text, refl, (0, (0, None), refl, refl)),
      λ h. subst (λ x. RunsIn tiny_program s x (λ op. Unit {0})) (listed t h) runs,
    );
    lines = λ t line r. (λ h. to_line t line (the_statement t r) (no_line t line h), λ h. from_line t line (the_statement t r) h);
  }

  -- its two sites
  two_sites : length site_names ≡ length s.sites
  two_sites =
      let second = (tie.sites (record { 0 = 1 })).1 (OfRoot 1, numbered_site 1 (OfRoot 1) refl) in
      elim (cases_lt 2 (length s.sites)) [ inl lt ↦ absurd (beyond lt) | inr le ↦ omega (arith, le, second) ]
    where
      beyond : 2 < length s.sites → ⊥
      beyond lt = let h = (tie.sites (record { 0 = 2 })).0 lt in elim (which (record { 0 = 2 }) h.0 h.1) [ inl w ↦ omega (arith, w.0) | inr w ↦ omega (arith, w.0) ]

  place_of : (n : ℕ) (x : SiteName) (info : SiteInfo) → slice_get site_names n ≡ Some x → IsSite s (record { 0 = n }) info → (x.place ≡ info.place) × (x.k ≡ info.k)
  place_of zero x info e is =
      let name : x ≡ array_name = same_Some x array_name (sym e) in
      let stands = tie.places (record { 0 = 0 }) (OfRoot 0) info (numbered_site 0 (OfRoot 0) refl) is in
      (ap (λ (y : SiteName). y.place) name ∙ sym stands.0, ap (λ (y : SiteName). y.k) name ∙ sym stands.1)
  place_of (suc zero) x info e is =
      let name : x ≡ string_name = same_Some x string_name (sym e) in
      let stands = tie.places (record { 0 = 1 }) (OfRoot 1) info (numbered_site 1 (OfRoot 1) refl) is in
      (ap (λ (y : SiteName). y.place) name ∙ sym stands.0, ap (λ (y : SiteName). y.k) name ∙ sym stands.1)
  place_of (suc (suc n)) x info e is = absurd cc

  text_of : (n : ℕ) (x : SiteName) (h : Site) → slice_get site_names n ≡ Some x → ((n ≡ 0) × (h ≡ OfRoot 0)) ⊎ ((n ≡ 1) × (h ≡ OfRoot 1)) → (t : FieldType) × HasType tiny_program h t × (x.class ≡ constant_text t)
  text_of zero x h e (inl w) =
      let name : array_name ≡ x = same_Some array_name x e in
      (strings, subst (λ g. HasType tiny_program g strings) (sym w.1) (of_arguments refl), subst (λ (y : SiteName). y.class ≡ constant_text strings) name refl)
  text_of zero x h e (inr w) = absurd (omega (arith, w.0))
  text_of (suc zero) x h e (inl w) = absurd (omega (arith, w.0))
  text_of (suc zero) x h e (inr w) =
      let name : string_name ≡ x = same_Some string_name x e in
      (string, subst (λ g. HasType tiny_program g string) (sym w.1) (of_argument refl), subst (λ (y : SiteName). y.class ≡ constant_text string) name refl)
  text_of (suc (suc n)) x h e w = absurd cc

  pub least_sites : AreSiteNames tiny_program s site_names
  least_sites = record {
    count = two_sites;
    places = λ n x info e is. place_of n.0 x info e is;
    texts = λ n x h e number. text_of n.0 x h e (which n h number);
  }
