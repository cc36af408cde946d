-- Fields of all objects, and sites, by number.
use Rattle.std.proofs.Common.{◌≡◌, ◌<◌, ◌≤◌, ◌+◌, ◌-◌, ℕ, zero, suc, List, length, Option, Some, None, refl, sym, ap, subst, ◌∙◌, arith}
use Rattle.std.specs.Prelude.{◌↔◌}
use Rattle.slicer_ids.specs.declared.ids.FieldId.{FieldId}
use Rattle.slicer_ids.specs.declared.ids.SiteId.{SiteId}
use Rattle.slicer_ids.specs.declared.ids.Statement.{Statement}
use Rattle.worklists.specs.Growth.{Grows}
use Rattle.worklists.proofs.Growing.{Grows-same, FromBelow}
use Rattle.dep_form.specs.declared.rules.Rule.{Rule}
use Rattle.dep_form.specs.declared.rules.Rule.TheVariants.{Hold}
use Rattle.program_form.specs.Programs.{Program}
use Rattle.program_form.specs.Sites.{Made}
use Rattle.program_form.specs.Systems.{SiteNumber}
use Rattle.site_tables.specs.Tables.{AreNumbersOf}
use Rattle.constraint_rules.specs.One.{IsOne}
use Rattle.constraint_rules.specs.Statements.{IsNest}
use Rattle.constraint_rules.proofs.Ones.{none_of, some_of, one_same}

pub one_equal : (g : FieldId) (n : ℕ) → n ≡ g.0 → IsOne (λ f. f ≡ g) (Some (record { 0 = n }))
one_equal g n e = some_of (λ f. f ≡ g) (record { 0 = n }) (ap (λ k. record { 0 = k }) e) (λ f h. ap (λ k. record { 0 = k }) e ∙ sym h)

-- the first of some sites
pub first_none : (first count : ℕ) → count ≡ 0 → IsOne (λ (n : SiteId). (0 < count) × (n.0 ≡ first)) None
first_none first count e = none_of (λ (n : SiteId). (0 < count) × (n.0 ≡ first)) (λ n h. omega (arith, h.0, e))

pub first_some : (first count : ℕ) → 0 < count → IsOne (λ (n : SiteId). (0 < count) × (n.0 ≡ first)) (Some (record { 0 = first }))
first_some first count lt = some_of (λ (n : SiteId). (0 < count) × (n.0 ≡ first)) (record { 0 = first }) (lt, refl) (λ n h. ap (λ k. record { 0 = k }) (sym h.1))

pub first_site_of : (p : Program) (t : Statement) (first count : ℕ) (o : Option SiteId) → AreNumbersOf p t first count → IsOne (λ (n : SiteId). (0 < count) × (n.0 ≡ first)) o
    → IsOne (λ n. SiteNumber p n (Made t 0)) o
first_site_of p t first count o are one = one_same (λ (n : SiteId). (0 < count) × (n.0 ≡ first)) (λ n. SiteNumber p n (Made t 0)) o
    (λ n h. (are n 0).1 (h.0, omega (arith, h.1))) (λ n h. let k = (are n 0).0 h in (k.0, omega (arith, k.1))) one

pub positive : (n : ℕ) → (n ≡ 0 → ⊥) → 0 < n
positive zero never = absurd (never refl)
positive (suc n) never = omega arith

-- each of some sites holds the next one
abbrev pub IsHold : ℕ → ℕ → Rule → Type 0
IsHold first k r = r ≡ Hold (record { 0 = first + k }) (record { 0 = first + suc k })

abbrev pub Holds : ℕ → ℕ → Rule → Type 0
Holds first count r = (k : ℕ) × (suc k < count) × IsHold first k r

pub holds_grown : (first count n : ℕ) (old new : List Rule) → n ≡ count - 1 → Grows old new (FromBelow (IsHold first) n) → Grows old new (Holds first count)
holds_grown first count n old new e g = Grows-same old new (FromBelow (IsHold first) n) (Holds first count) (λ r (k, lt, h). (k, omega (arith, lt, e), h)) (λ r (k, lt, h). (k, omega (arith, lt, e), h)) g

pub nesting_grown : (p : Program) (t : Statement) (first count : ℕ) (old new : List Rule) → AreNumbersOf p t first count → Grows old new (Holds first count)
    → Grows old new (IsNest p t)
nesting_grown p t first count old new are g = Grows-same old new (Holds first count) (IsNest p t) to from g
  where
    to : (r : Rule) → Holds first count r → IsNest p t r
    to r (k, lt, e) = (k, record { 0 = first + k }, record { 0 = first + suc k }, (are (record { 0 = first + k }) k).1 (omega (arith, lt), refl), (are (record { 0 = first + suc k }) (suc k)).1 (lt, refl), e)

    same : (n : SiteId) (m : ℕ) → n.0 ≡ m → n ≡ record { 0 = m }
    same n m e = ap (λ z. record { 0 = z }) e

    from : (r : Rule) → IsNest p t r → Holds first count r
    from r (k, a, b, outer, inner, e) =
        let x = (are a k).0 outer in
        let y = (are b (suc k)).0 inner in
        (k, y.0, e ∙ ap (λ z. Hold z b) (same a (first + k) x.1) ∙ ap (λ z. Hold (record { 0 = first + k }) z) (same b (first + suc k) y.1))

pub hold_grown : (first k outer inner : ℕ) (old new : List Rule) → outer ≡ first + k → inner ≡ outer + 1 → Grows old new (λ r. r ≡ Hold (record { 0 = outer }) (record { 0 = inner }))
    → Grows old new (IsHold first k)
hold_grown first k outer inner old new e f g =
    let h : inner ≡ first + suc k = omega (arith, e, f) in
    let same : Hold (record { 0 = outer }) (record { 0 = inner }) ≡ Hold (record { 0 = first + k }) (record { 0 = first + suc k }) =
    ap (λ n. Hold (record { 0 = n }) (record { 0 = inner })) e ∙ ap (λ n. Hold (record { 0 = first + k }) (record { 0 = n })) h in
    Grows-same old new (λ r. r ≡ Hold (record { 0 = outer }) (record { 0 = inner })) (IsHold first k) (λ r x. x ∙ same) (λ r x. x ∙ sym same) g
