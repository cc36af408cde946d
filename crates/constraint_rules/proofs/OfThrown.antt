-- What is thrown, and the handlers that take it.
use Rattle.std.proofs.Common.{◌≡◌, ◌⊎◌, ◌<◌, ◌≤◌, ℕ, Bool, true, false, List, Contains, Option, Some, None, inl, inr, refl, sym, ap, subst, ◌∙◌, arith}
use Rattle.std.specs.Prelude.{◌↔◌, IsTrue, MatchOption, slice_get}
use Rattle.std.proofs.lemmas.Option.{same_Some}
use Rattle.slicer_ids.specs.declared.ids.ClassId.{ClassId}
use Rattle.slicer_ids.specs.declared.ids.Statement.{Statement}
use Rattle.slicer_ids.specs.declared.name.Name.{Name}
use Rattle.worklists.specs.Growth.{Grows, FromOne}
use Rattle.worklists.proofs.Growing.{Grows-none, Grows-same}
use Rattle.class_form.specs.Pools.{class_at}
use Rattle.class_form.specs.Opcodes.{IsCall, IsThrow}
use Rattle.class_form.specs.Classes.{Declared, HasCode, IsNamed, IsOutside, IsDeclared, IsClass}
use Rattle.class_form.specs.declared.class_file.Attribute.{Attribute}
use Rattle.class_form.specs.declared.class_file.ClassFile.{ClassFile}
use Rattle.class_form.specs.declared.class_file.CodeBody.{CodeBody}
use Rattle.class_form.specs.declared.class_file.Content.TheVariants.{Code, Other}
use Rattle.class_form.specs.declared.class_file.Handler.{Handler}
use Rattle.class_form.specs.declared.class_file.Member.{Member}
use Rattle.dep_form.specs.declared.rules.Var.{Var}
use Rattle.dep_form.specs.declared.rules.Rule.{Rule}
use Rattle.dep_form.specs.declared.system.System.{System}
use Rattle.program_form.specs.Programs.{Program, CodeOf, MethodOf}
use Rattle.program_form.specs.Statements.{HasOpcode, IsCovered, MayLeave, Catches}
use Rattle.program_form.specs.Facts.{ExceptionOf, ThrownBy, CaughtAt}
use Rattle.program_form.specs.Systems.{VariableNumber}
use Rattle.program_form.proofs.Visits.{one_class}
use Rattle.constraint_form.specs.Variables.{Meaning, OperandNumber}
use Rattle.constraint_form.specs.Rules.{IsRaisedAs, IsFilter, IsHandlerFilter}
use Rattle.constraint_form.proofs.Instructions.{one_class_file}
use Rattle.constraint_rules.specs.One.{IsOne, IsFound}
use Rattle.constraint_rules.specs.Forms.{CopyOf}
use Rattle.constraint_rules.specs.Handlers.{Covers, IsCatchAll, IsCaughtBy, IsCaughtIn, IsAllCaughtIn}
use Rattle.constraint_rules.specs.Settings.{IsSetting, IsPlaced, place_of}
use Rattle.constraint_rules.specs.Statements.{Catching, Leaving}
use Rattle.constraint_rules.specs.declared.tables.Tables.{Tables}
use Rattle.constraint_rules.specs.declared.tables.Reachable.{Reachable}
use Rattle.constraint_rules.proofs.Ones.{none_of, some_of, one_same}
use Rattle.constraint_rules.proofs.OfKind.{kind_at, kind_here}
use Rattle.constraint_rules.proofs.OfNames.{filters, one_filter}
use Rattle.constraint_rules.proofs.FormParts.{copy_one, kept_grown}
use Rattle.constraint_rules.proofs.Growths.{one_grown}

module _ (x : Reachable) (p : Program) (placed : IsPlaced p x) where
  -- the code of the method is that of the member
  code_here : (c : CodeBody) → CodeOf p x.body.now.method c → HasCode x.member.now c
  code_here c (d, y, n, u, (at, (k, is, (there, named, described))), code) =
      let (e, name, bytes, (first, (j, has, (here, named_too, described_too)))) = placed.member in
      let declared : d ≡ e = same_Some d e (sym at ∙ first) in
      let file : k ≡ j = same_Some k j (sym (subst (λ (z : Declared). IsClass p.classes z.class k) declared is) ∙ has) in
      let slot : slice_get j.methods e.index ≡ Some y = subst (λ (z : Declared). slice_get j.methods z.index ≡ Some y) declared (subst (λ (z : ClassFile). slice_get z.methods d.index ≡ Some y) file there) in
      subst (λ (z : Member). HasCode z c) (same_Some y x.member.now (sym slot ∙ here)) code

  code_there : (c : CodeBody) → HasCode x.member.now c → CodeOf p x.body.now.method c
  code_there c code = let (e, name, bytes, method) = placed.member in (e, x.member.now, name, bytes, method, code)

  -- handlers that cover the statement, as they stand in the code
  pub covered : (h : Handler) → IsCovered p (place_of x) h → (a : Attribute) × Contains x.member.now.attributes a × ((c : CodeBody) × (a.content ≡ Code c) × Contains c.handlers h × Covers x.point.now.pc h)
  covered h (c, code, among, low, high) = let (a, has, is) = code_here c code in (a, has, (c, is, among, (low, high)))

  pub covering : (h : Handler) (a : Attribute) (c : CodeBody) → Contains x.member.now.attributes a → a.content ≡ Code c → Contains c.handlers h → Covers x.point.now.pc h → IsCovered p (place_of x) h
  covering h a c has is among covers = (c, code_there c (a, has, is), among, covers.0, covers.1)

  -- whether what is thrown may leave
  pub stays : (a : Attribute) → Contains x.member.now.attributes a → IsAllCaughtIn x.point.now.pc a → MayLeave p (place_of x) → ⊥
  stays a has (c, is, h, among, (all, covers)) may = may h (covering h a c has is among covers) all

  pub leaves : ((a : Attribute) → Contains x.member.now.attributes a → IsAllCaughtIn x.point.now.pc a → ⊥) → MayLeave p (place_of x)
  leaves never h is_covered all = let (a, has, (c, is, among, covers)) = covered h is_covered in never a has (c, is, h, among, (all, covers))

module _ (t : Tables) (x : Reachable) (p : Program) (s : System) (names : List Meaning) (set : IsSetting t p s names) (placed : IsPlaced p x) where
  pub thrown_one : (o : Option Var) → IsThrow x.instr.now.op → IsOne (OperandNumber p s names (place_of x) 0) o → IsOne (IsRaisedAs p s names (place_of x)) o
  thrown_one o is one = one_same (OperandNumber p s names (place_of x) 0) (IsRaisedAs p s names (place_of x)) o (λ v h. inl (kind_here t x p s names set placed IsThrow is, h)) from one
    where
      from : (v : Var) → IsRaisedAs p s names (place_of x) v → OperandNumber p s names (place_of x) 0 v
      from v (inl h) = h.1
      from v (inr h) = let call = kind_at t x p s names set placed IsCall h.0 in absurd (omega (arith, call.1, is))

  pub called_one : (o : Option Var) → (IsThrow x.instr.now.op → ⊥) → IsCall x.instr.now.op → IsOne (λ v. VariableNumber p s (ExceptionOf (place_of x)) v) o → IsOne (IsRaisedAs p s names (place_of x)) o
  called_one o never is one = one_same (λ v. VariableNumber p s (ExceptionOf (place_of x)) v) (IsRaisedAs p s names (place_of x)) o (λ v h. inr (kind_here t x p s names set placed IsCall is, h)) from one
    where
      from : (v : Var) → IsRaisedAs p s names (place_of x) v → VariableNumber p s (ExceptionOf (place_of x)) v
      from v (inl h) = absurd (never (kind_at t x p s names set placed IsThrow h.0))
      from v (inr h) = h.1

  pub none_raised : (IsThrow x.instr.now.op → ⊥) → (IsCall x.instr.now.op → ⊥) → IsOne (IsRaisedAs p s names (place_of x)) None
  none_raised never nor = none_of (IsRaisedAs p s names (place_of x)) from
    where
      from : (v : Var) → IsRaisedAs p s names (place_of x) v → ⊥
      from v (inl h) = never (kind_at t x p s names set placed IsThrow h.0)
      from v (inr h) = nor (kind_at t x p s names set placed IsCall h.0)

  -- the class that a handler names
  catches_here : (h : Handler) (text : List ℕ) → class_at x.file.now.pool h.catch_type ≡ Some text → Catches p (place_of x) h text
  catches_here h text e = (placed.file.0, x.file.now, placed.file.1, e)

  catch_here : (h : Handler) (text : List ℕ) → Catches p (place_of x) h text → class_at x.file.now.pool h.catch_type ≡ Some text
  catch_here h text (d, g, from, has) =
      let file = one_class_file p set.of.read x.body.now.method d placed.file.0 g x.file.now from placed.file.1 in
      subst (λ (k : ClassFile). class_at k.pool h.catch_type ≡ Some text) file.1 has

  pub all_kept : (h : Handler) → h.catch_type ≡ 0 → IsOne (IsHandlerFilter p (place_of x) h) (Some None)
  all_kept h zero = some_of (IsHandlerFilter p (place_of x) h) None (inl (zero, refl)) only
    where
      only : (keep : Option ClassId) → IsHandlerFilter p (place_of x) h keep → None ≡ keep
      only keep (inl (e, same)) = sym same
      only keep (inr (text, catches, filter)) =
          let at : None ≡ Some text = subst (λ n. class_at x.file.now.pool n ≡ Some text) zero (catch_here h text catches) in absurd (cc at)

  pub class_kept : (h : Handler) (text : List ℕ) (o : Option ClassId) → (h.catch_type ≡ 0 → ⊥) → class_at x.file.now.pool h.catch_type ≡ Some text
      → MatchOption o (IsOutside t.h.now text) (λ c. IsNamed t.h.now text c.0) → IsOne (IsHandlerFilter p (place_of x) h) (Some o)
  class_kept h text o never at found = some_of (IsHandlerFilter p (place_of x) h) o (inr (text, catches_here h text at, filters t p s names set text o found)) only
    where
      only : (keep : Option ClassId) → IsHandlerFilter p (place_of x) h keep → o ≡ keep
      only keep (inl (e, same)) = absurd (never e)
      only keep (inr (other, catches, filter)) =
          let same : other ≡ text = same_Some other text (sym (catch_here h other catches) ∙ at) in
          one_filter t p s names set text o keep (filters t p s names set text o found) (subst (λ z. IsFilter p z keep) same filter)

  pub none_kept : (h : Handler) → (h.catch_type ≡ 0 → ⊥) → class_at x.file.now.pool h.catch_type ≡ None → IsOne (IsHandlerFilter p (place_of x) h) None
  none_kept h never at = none_of (IsHandlerFilter p (place_of x) h) no
    where
      no : (keep : Option ClassId) → IsHandlerFilter p (place_of x) h keep → ⊥
      no keep (inl (e, same)) = never e
      no keep (inr (text, catches, filter)) = let e : None ≡ Some text = sym at ∙ catch_here h text catches in cc e

  pub catching_grown : (old new : List Rule) → Grows old new (FromOne (IsCaughtIn p s names (place_of x)) x.member.now.attributes) → Grows old new (Catching p s names (place_of x))
  catching_grown old new g = Grows-same old new (FromOne (IsCaughtIn p s names (place_of x)) x.member.now.attributes) (Catching p s names (place_of x)) to from g
    where
      to : (r : Rule) → FromOne (IsCaughtIn p s names (place_of x)) x.member.now.attributes r → Catching p s names (place_of x) r
      to r (a, has, (c, is, h, among, covers, (keep, filter, copy))) = (h, keep, covering x p placed h a c has is among covers, filter, copy)

      from : (r : Rule) → Catching p s names (place_of x) r → FromOne (IsCaughtIn p s names (place_of x)) x.member.now.attributes r
      from r (h, keep, is_covered, filter, copy) = let (a, has, (c, is, among, covers)) = covered x p placed h is_covered in (a, has, (c, is, h, among, covers, (keep, filter, copy)))

-- what one handler catches
pub caught_grown : (old new : List Rule) (K : Option ClassId → Type 0) (F T : Var → Type 0) (keep : Option ClassId) (f u : Option Var) (o : Option Rule)
    → IsOne K (Some keep) → IsOne F f → IsOne T u → IsOne (CopyOf (IsFound f) (IsFound u) keep) o → Grows old new (IsFound o)
    → Grows old new (λ r. (k : Option ClassId) × K k × CopyOf F T k r)
caught_grown old new K F T keep f u o kept from to one g = kept_grown K F T keep old new kept (one_grown (CopyOf F T keep) o old new (copy_one F T keep f u o from to one) g)

one_code : (a : Attribute) (c d : CodeBody) → a.content ≡ Code c → a.content ≡ Code d → c ≡ d
one_code a c d e f = let g : Code c ≡ Code d = sym e ∙ f in cc g

-- the handlers of an attribute
pub in_code : (p : Program) (s : System) (names : List Meaning) (t : Statement) (a : Attribute) (c : CodeBody) (old new : List Rule) → a.content ≡ Code c
    → Grows old new (FromOne (λ (h : Handler) (r : Rule). Covers t.pc h × IsCaughtBy p s names t h r) c.handlers) → Grows old new (IsCaughtIn p s names t a)
in_code p s names t a c old new is g = Grows-same old new (FromOne (λ (h : Handler) (r : Rule). Covers t.pc h × IsCaughtBy p s names t h r) c.handlers) (IsCaughtIn p s names t a)
    (λ r (h, among, (covers, caught)). (c, is, h, among, covers, caught))
    (λ r (d, has, h, among, covers, caught). (h, subst (λ (z : CodeBody). Contains z.handlers h) (one_code a d c has is) among, (covers, caught))) g

pub not_in_code : (p : Program) (s : System) (names : List Meaning) (t : Statement) (a : Attribute) (text : Name) (xs : List Rule) → a.content ≡ Other text → Grows xs xs (IsCaughtIn p s names t a)
not_in_code p s names t a text xs is = Grows-none xs (IsCaughtIn p s names t a) (λ r (d, has, h, among, covers, caught). let e : Other text ≡ Code d = sym is ∙ has in cc e)

-- whether a handler of an attribute catches all
pub all_in_code : (a : Attribute) (c : CodeBody) (pc : ℕ) (b : Bool) → a.content ≡ Code c → IsTrue b ↔ ((h : Handler) × Contains c.handlers h × IsCatchAll pc h) → IsTrue b ↔ IsAllCaughtIn pc a
all_in_code a c pc b is found = (
  λ yes. let (h, among, all) = found.0 yes in (c, is, h, among, all),
  λ (d, has, h, among, all). found.1 (h, subst (λ (z : CodeBody). Contains z.handlers h) (one_code a d c has is) among, all),
)

pub all_not_in_code : (a : Attribute) (text : Name) (pc : ℕ) → a.content ≡ Other text → IsTrue false ↔ IsAllCaughtIn pc a
all_not_in_code a text pc is = (λ yes. absurd (cc yes), λ (d, has, h, among, all). absurd (let e : Other text ≡ Code d = sym is ∙ has in cc e))
