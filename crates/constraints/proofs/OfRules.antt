-- The constraints of a program, by its statements and its root.
use Rattle.std.proofs.Common.{◌≡◌, ◌⊎◌, List, [], map, length, Contains, inl, inr, refl, sym, ap, subst, ◌∙◌, arith}
use Rattle.std.specs.Prelude.{◌↔◌}
use Rattle.std.proofs.lemmas.List.Elements.{All-contains}
use Rattle.slicer_ids.specs.Sets.{IsOrderedListOf}
use Rattle.slicer_ids.specs.declared.ids.MethodId.{MethodId}
use Rattle.slicer_ids.specs.declared.ids.Statement.{Statement}
use Rattle.worklists.specs.Growth.{Grows, FromOne}
use Rattle.class_form.proofs.Indices.{index_in, there_at}
use Rattle.dep_form.specs.declared.rules.Rule.{Rule}
use Rattle.dep_form.specs.declared.rules.Constraint.{Constraint}
use Rattle.dep_form.specs.declared.rules.Var.{Var}
use Rattle.dep_form.specs.declared.system.System.{System}
use Rattle.program_form.specs.Programs.{Program}
use Rattle.constraint_form.specs.Asked.{IsReadProgram}
use Rattle.constraint_form.specs.Variables.{Meaning}
use Rattle.constraint_form.specs.Rules.{IsRaisedAs}
use Rattle.constraint_form.proofs.Instructions.{in_range}
use Rattle.variable_tables.specs.Growth.{GrowsInOrder}
use Rattle.variable_tables.proofs.InOrder.{grows_then, grows_same, from_nothing, chosen_all}
use Rattle.variable_tables.proofs.Listing.{map_at}
use Rattle.constraint_rules.specs.Settings.{IsPlaced, place_of}
use Rattle.constraint_rules.specs.Statements.{IsRuleAt, IsRootRule, IsRuleOf, OfCopies, OfHeap, OfFresh, OfCalls, OfThrows}
use Rattle.constraint_rules.specs.declared.tables.Reachable.{Reachable}
use Rattle.constraints.specs.Places.{PlaceBefore, IsStatement}
use Rattle.constraints.specs.Bodies.{MethodRises, IsOneOf, IsConstraintAt, AreAllPlaces}

-- ---- lists that grew

pub grown_members : {A : Type 0} (P : A → Type 0) (old new : List A) → old ≡ [] → Grows old new P → (x : A) → Contains new x ↔ P x
grown_members {A} P old new none g x = (
  λ c. elim (g.only x c) [ inl o ↦ let no : Contains [] x = subst (λ (ys : List A). Contains ys x) none o in absurd (omega (arith, no.1)) | inr h ↦ h ],
  λ h. g.all x h,
)

pub ordered_then : {A : Type 0} (B : A → A → Type 0) (xs ys : List A) (P Q R : A → Type 0) → IsOrderedListOf B xs P → GrowsInOrder B xs ys Q → ((a b : A) → P a → Q b → B a b)
    → ((a : A) → R a → P a ⊎ Q a) → ((a : A) → P a ⊎ Q a → R a) → IsOrderedListOf B ys R
ordered_then {A} B xs ys P Q R listed g cross to from =
    let begun : GrowsInOrder B [] xs P = (xs, refl, record { each = listed.each; apart = λ k d lt n. n; order = listed.order; whole = λ a p. inl (listed.whole a p) }) in
    chosen_all B ys R (from_nothing B (λ a. ⊥) [] ys R refl (grows_then B (λ a. ⊥) [] xs ys P Q R begun g cross to from))

-- ---- rules as constraints

abbrev pub IsMadeFrom : MethodId → Rule → Constraint → Type 0
IsMadeFrom m r c = record { method = m; rule = r } ≡ c

pub one_method : (m : MethodId) (q r : Rule) (a b : Constraint) → Unit {0} → IsMadeFrom m q a → IsMadeFrom m r b → MethodRises a b
one_method m q r a b tt e f = omega (arith, ap (λ (c : Constraint). c.method.0) e, ap (λ (c : Constraint). c.method.0) f)

pub from_rules : (m : MethodId) (rules : List Rule) (c : Constraint) → FromOne (IsMadeFrom m) rules c → IsOneOf m rules c
from_rules m rules c (r, among, e) = (sym (ap (λ (z : Constraint). z.method) e), subst (λ (z : Constraint). Contains rules z.rule) e among)

pub to_rules : (m : MethodId) (rules : List Rule) (c : Constraint) → IsOneOf m rules c → FromOne (IsMadeFrom m) rules c
to_rules m rules c (e, among) = (c.rule, among, ap (λ (z : MethodId). record { method = z; rule = c.rule }) (sym e))

pub rules_said : (m : MethodId) (rules known : List Rule) (R : Rule → Type 0) (old new : List Constraint) → rules ≡ known → ((r : Rule) → Contains known r ↔ R r)
    → GrowsInOrder MethodRises old new (IsOneOf m rules) → GrowsInOrder MethodRises old new (λ c. (c.method ≡ m) × R c.rule)
rules_said m rules known R old new e exact g =
    grows_same MethodRises (λ c. ⊥) old new (IsOneOf m rules) (λ c. (c.method ≡ m) × R c.rule) (λ c. ⊥)
    (λ c h. (h.0, (exact c.rule).0 (subst (λ (rs : List Rule). Contains rs c.rule) e h.1)))
    (λ c h. (h.0, subst (λ (rs : List Rule). Contains rs c.rule) (sym e) ((exact c.rule).1 h.1))) (λ c h no. no) (λ c h no. no) g

pub places_rise : (p : Program) (s : System) (names : List Meaning) (y z : Reachable) (a b : Constraint) → PlaceBefore y z → IsConstraintAt p s names y a → IsConstraintAt p s names z b → MethodRises a b
places_rise p s names y z a b (inl lt) h k = omega (arith, lt, ap (λ (m : MethodId). m.0) h.0, ap (λ (m : MethodId). m.0) k.0)
places_rise p s names y z a b (inr same) h k = omega (arith, ap (λ (m : MethodId). m.0) same.0, ap (λ (m : MethodId). m.0) h.0, ap (λ (m : MethodId). m.0) k.0)

-- ---- a constraint of a statement is of one where an instruction stands

module _ (p : Program) (s : System) (names : List Meaning) (t : Statement) where
  raised_stands : (x : Var) → IsRaisedAs p s names t x → IsStatement p t
  raised_stands x (inl (o, n)) = (o.0, o.1, o.2, tt)
  raised_stands x (inr (o, n)) = (o.0, o.1, o.2, tt)

  copies_stand : (r : Rule) → OfCopies p s names t r → IsStatement p t
  copies_stand r (inl (o, h)) = (o.0, o.1, o.2, tt)
  copies_stand r (inr (inl (o, h))) = (o.0, o.1, o.2, tt)
  copies_stand r (inr (inr (inl (o, h)))) = (o.0, o.1, o.2, tt)
  copies_stand r (inr (inr (inr (inl (o, h))))) = (o.0, o.1, o.2, tt)
  copies_stand r (inr (inr (inr (inr (i, (x, y, (d, o, n), to, e)))))) = (o.0, o.1, o.2, tt)

  heap_stands : (r : Rule) → OfHeap p s names t r → IsStatement p t
  heap_stands r (inl (o, h)) = (o.0, o.1, o.2, tt)
  heap_stands r (inr (inl (o, h))) = (o.0, o.1, o.2, tt)
  heap_stands r (inr (inr (inl (o, h)))) = (o.0, o.1, o.2, tt)
  heap_stands r (inr (inr (inr (inl (o, h))))) = (o.0, o.1, o.2, tt)
  heap_stands r (inr (inr (inr (inr (o, h))))) = (o.0, o.1, o.2, tt)

  fresh_stands : (r : Rule) → OfFresh p s names t r → IsStatement p t
  fresh_stands r (inl (o, h)) = o
  fresh_stands r (inr (inl (o, h))) = (o.0, o.1, o.2, tt)
  fresh_stands r (inr (inr (inl (o, h)))) = o
  fresh_stands r (inr (inr (inr (o, h)))) = (o.0, o.1, o.2, tt)

  calls_stand : (r : Rule) → OfCalls p s names t r → IsStatement p t
  calls_stand r (inl (o, h)) = (o.0, o.1, o.2, tt)
  calls_stand r (inr (inl (o, h))) = (o.0, o.1, o.2, tt)
  calls_stand r (inr (inr (o, h))) = (o.0, o.1, o.2, tt)

  throws_stand : (r : Rule) → OfThrows p s names t r → IsStatement p t
  throws_stand r (inl (handler, keep, covered, filter, (x, y, from, to, e))) = raised_stands x from
  throws_stand r (inr (leave, (x, y, from, to, e))) = raised_stands x from

  pub rule_stands : (r : Rule) → IsRuleAt p s names t r → IsStatement p t
  rule_stands r (inl h) = copies_stand r h
  rule_stands r (inr (inl h)) = heap_stands r h
  rule_stands r (inr (inr (inl h))) = fresh_stands r h
  rule_stands r (inr (inr (inr (inl h)))) = calls_stand r h
  rule_stands r (inr (inr (inr (inr h)))) = throws_stand r h

-- ---- all constraints

pub place_there : (places : List Reachable) (t : Statement) → Contains (map place_of places) t → (x : Reachable) × Contains places x × (place_of x ≡ t)
place_there places t c =
    let (i, at) = index_in (map place_of places) t c in
    let (x, there, same) = map_at place_of places i t at in
    (x, there_at places i x there, same)

module _ (p : Program) (asked : IsReadProgram p) (s : System) (names : List Meaning) (places : List Reachable) (all : AreAllPlaces p places) (root : MethodId) (number : root.0 ≡ length p.methods)
    (rules known : List Rule) (same : rules ≡ known) (exact : (r : Rule) → Contains known r ↔ IsRootRule p s r) where
  abbrev OfPlaces : Constraint → Type 0
  OfPlaces = FromOne (IsConstraintAt p s names) places

  abbrev OfProgram : Constraint → Type 0
  OfProgram c = IsRuleOf p s names c.method c.rule

  root_last : (a b : Constraint) → OfPlaces a → IsOneOf root rules b → MethodRises a b
  root_last a b (x, among, (e, h)) (f, k) =
      let placed = All-contains (IsPlaced p) places x all.each among in
      let lt = in_range p asked (place_of x) (λ op. Unit {0}) (x.body.now, x.instr.now, placed.at, tt) in
      omega (arith, lt, ap (λ (m : MethodId). m.0) e, ap (λ (m : MethodId). m.0) f, number)

  to_either : (c : Constraint) → OfProgram c → OfPlaces c ⊎ IsOneOf root rules c
  to_either c (inl (is_root, rule)) =
      inr (ap (λ n. record { 0 = n }) (is_root ∙ sym number), subst (λ (rs : List Rule). Contains rs c.rule) (sym same) ((exact c.rule).1 rule))
  to_either c (inr (t, e, rule)) =
      let (x, among, at) = place_there places t (all.whole t (rule_stands p s names t c.rule rule)) in
      inl (x, among, (sym e ∙ ap (λ (z : Statement). z.method) (sym at), subst (λ z. IsRuleAt p s names z c.rule) (sym at) rule))

  from_either : (c : Constraint) → OfPlaces c ⊎ IsOneOf root rules c → OfProgram c
  from_either c (inl (x, among, (e, rule))) = inr (place_of x, sym e, rule)
  from_either c (inr (e, among)) = inl (ap (λ (m : MethodId). m.0) e ∙ number, (exact c.rule).0 (subst (λ (rs : List Rule). Contains rs c.rule) same among))

  pub constraints_listed : (old new : List Constraint) → IsOrderedListOf MethodRises old OfPlaces → GrowsInOrder MethodRises old new (IsOneOf root rules) → IsOrderedListOf MethodRises new OfProgram
  constraints_listed old new listed g = ordered_then MethodRises old new OfPlaces (IsOneOf root rules) OfProgram listed g root_last to_either from_either
