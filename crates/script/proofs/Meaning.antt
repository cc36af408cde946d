-- Words give one command, or break one rule.
use Rattle.std.proofs.Common.{◌≡◌, ◌≢◌, ℕ, List, [], ◌∷◌, length, refl, sym, ap, ◌∙◌, subst, inl, inr, arith, Ok, Err}
use Rattle.std.specs.Prelude.{Result, codes, All, map}
use Rattle.script.specs.Words.{IsBlank, HasWords}
use Rattle.script.specs.Operands.{with_slash, IsClassName, IsNumber, IsPlace}
use Rattle.script.specs.Commands.{Takes, seed, seed_line, expand, explain, Gives, gives_seed, gives_seed_line, gives_expand, gives_explain}
use Rattle.script.specs.Steps.{HasOtherCount, GivesPlace, Finishes}
use Rattle.script.specs.declared.command.Place.{Place}
use Rattle.script.specs.declared.command.Command.{Command}
use Rattle.script.specs.declared.command.Command.TheVariants.{Seed, SeedLine, Expand, Explain}
use Rattle.script.specs.declared.command.LineError.{LineError}
use Rattle.script.specs.declared.command.LineError.TheVariants.{NoMemory, TooLong, Unknown, Arity, BadNumber}
use Rattle.script.proofs.Counting.{first_some, first_none, words_some}
use Rattle.script.proofs.Standing.{stands_one, stands_some}
use Rattle.script.proofs.Digits.{number_one}

-- some place with this number
pub place_some : (c n d p : List ℕ) (k : ℕ) → IsNumber p k → (place : Place) × IsPlace c n d p place
place_some c n d p k h =
    let cs = stands_some c in let ns = stands_some n in let ds = stands_some d in (
      record { class = map with_slash cs.0; name = ns.0; descriptor = ds.0; pc = k },
      record { of_class = (cs.0, cs.1, refl); of_name = ns.1; of_descriptor = ds.1; at_pc = h },
    )

pub class_name_one : (word x y : List ℕ) → IsClassName word x → IsClassName word y → x ≡ y
class_name_one word x y h k = h.2 ∙ ap (map with_slash) (stands_one word h.0 k.0 h.1 k.1) ∙ sym k.2

unfoldable place_at : List ℕ → List ℕ → List ℕ → ℕ → Place
place_at c n d p = record { class = c; name = n; descriptor = d; pc = p }

same_place : (c n d : List ℕ) (p : ℕ) (c' n' d' : List ℕ) (p' : ℕ) → c ≡ c' → n ≡ n' → d ≡ d' → p ≡ p' → place_at c n d p ≡ place_at c' n' d' p'
same_place c n d p c' n' d' p' e f g h = cc

pub place_one : (c n d p : List ℕ) (a b : Place) → IsPlace c n d p a → IsPlace c n d p b → a ≡ b
unfolding place_at
place_one c n d p a b h k =
    let cs = class_name_one c a.class b.class h.of_class k.of_class in
    let ns = stands_one n a.name b.name h.of_name k.of_name in
    let ds = stands_one d a.descriptor b.descriptor h.of_descriptor k.of_descriptor in
    let ps = number_one p a.pc b.pc h.at_pc k.at_pc in
    same_place a.class a.name a.descriptor a.pc b.class b.name b.descriptor b.pc cs ns ds ps

pub seed_error : (line : List ℕ) (e : LineError) → GivesPlace line (Err e) → Finishes (codes "seed") line (Err e)
seed_error line NoMemory h =
    let p = place_some h.0 h.1 h.2 h.3 h.4 h.6 in
    (h.0 ∷ h.1 ∷ h.2 ∷ h.3 ∷ [], Seed p.0, h.5, gives_seed p.1, λ e. omega (arith, ap length e))
seed_error line TooLong h = h
seed_error line Unknown h = h
seed_error line Arity h = (h.0, 4, 3 ∷ [], h.1, seed, h.2)
seed_error line BadNumber h =
    (h.0 ∷ h.1 ∷ h.2 ∷ h.3 ∷ [], 4, 3 ∷ [], 3, h.3, h.4, seed, refl, (0, omega arith, refl), refl, h.5)

pub expand_error : (line : List ℕ) (e : LineError) → GivesPlace line (Err e) → Finishes (codes "expand") line (Err e)
expand_error line NoMemory h =
    let p = place_some h.0 h.1 h.2 h.3 h.4 h.6 in
    (h.0 ∷ h.1 ∷ h.2 ∷ h.3 ∷ [], Expand p.0, h.5, gives_expand p.1, λ e. omega (arith, ap length e))
expand_error line TooLong h = h
expand_error line Unknown h = h
expand_error line Arity h = (h.0, 4, 3 ∷ [], h.1, expand, h.2)
expand_error line BadNumber h =
    (h.0 ∷ h.1 ∷ h.2 ∷ h.3 ∷ [], 4, 3 ∷ [], 3, h.3, h.4, expand, refl, (0, omega arith, refl), refl, h.5)

pub seed_ok : (line : List ℕ) (p : Place) → GivesPlace line (Ok p) → Finishes (codes "seed") line (Ok (Seed p))
seed_ok line p h = (h.0 ∷ h.1 ∷ h.2 ∷ h.3 ∷ [], h.4, gives_seed h.5)

pub expand_ok : (line : List ℕ) (p : Place) → GivesPlace line (Ok p) → Finishes (codes "expand") line (Ok (Expand p))
expand_ok line p h = (h.0 ∷ h.1 ∷ h.2 ∷ h.3 ∷ [], h.4, gives_expand h.5)

-- a command without operands
pub bare_finishes : (name line : List ℕ) (c : Command) (r : Result Command LineError) → Takes name 0 [] → Gives name [] c
    → (All IsBlank line → r ≡ Ok c) → ((All IsBlank line → ⊥) → r ≡ Err Arity) → Finishes name line r
bare_finishes name line c r t g alone followed = elim (first_some line) [
  | inl all ↦ subst (Finishes name line) (sym (alone all)) ([], (line, refl, all), g)
  | inr f ↦
      let ne = first_none line f.0 f.1 f.2 in
      let ws = words_some line in
      subst (Finishes name line) (sym (followed ne)) (ws.0, 0, [], ws.1, t, λ e. none ws.0 ws.1 ne e)
]
  where
    none : (ws : List (List ℕ)) → HasWords line ws → (All IsBlank line → ⊥) → length ws ≢ 0
    none [] k ne e = ne (subst (All IsBlank) (sym k.1) k.2)
    none (w ∷ ws) k ne e = omega arith

-- what follows `seedline`
pub seed_line_count : (line : List ℕ) → HasOtherCount line 2 → Finishes (codes "seedline") line (Err Arity)
seed_line_count line h = (h.0, 2, 1 ∷ [], h.1, seed_line, h.2)

pub seed_line_number : (line c l : List ℕ) → HasWords line (c ∷ l ∷ []) → ((k : ℕ) → IsNumber l k → ⊥) → Finishes (codes "seedline") line (Err BadNumber)
seed_line_number line c l h b = (c ∷ l ∷ [], 2, 1 ∷ [], 1, l, h, seed_line, refl, (0, omega arith, refl), refl, b)

pub seed_line_ok : (line c l name : List ℕ) (k : ℕ) → HasWords line (c ∷ l ∷ []) → IsClassName c name → IsNumber l k → Finishes (codes "seedline") line (Ok (SeedLine name k))
seed_line_ok line c l name k h i j = (c ∷ l ∷ [], h, gives_seed_line i j)

pub seed_line_memory : (line c l : List ℕ) (k : ℕ) → HasWords line (c ∷ l ∷ []) → IsNumber l k → Finishes (codes "seedline") line (Err NoMemory)
seed_line_memory line c l k h j =
    let cs = stands_some c in
    (c ∷ l ∷ [], SeedLine (map with_slash cs.0) k, h, gives_seed_line (cs.0, cs.1, refl) j, λ e. omega (arith, ap length e))

-- what follows `explain`
pub explain_count : (line : List ℕ) → HasOtherCount line 8 → Finishes (codes "explain") line (Err Arity)
explain_count line h = (h.0, 8, 3 ∷ 7 ∷ [], h.1, explain, h.2)

pub explain_first : (line c n d p c' n' d' p' : List ℕ) → HasWords line (c ∷ n ∷ d ∷ p ∷ c' ∷ n' ∷ d' ∷ p' ∷ []) → ((k : ℕ) → IsNumber p k → ⊥) → Finishes (codes "explain") line (Err BadNumber)
explain_first line c n d p c' n' d' p' h b = (c ∷ n ∷ d ∷ p ∷ c' ∷ n' ∷ d' ∷ p' ∷ [], 8, 3 ∷ 7 ∷ [], 3, p, h, explain, refl, (0, omega arith, refl), refl, b)

pub explain_second : (line c n d p c' n' d' p' : List ℕ) → HasWords line (c ∷ n ∷ d ∷ p ∷ c' ∷ n' ∷ d' ∷ p' ∷ []) → ((k : ℕ) → IsNumber p' k → ⊥) → Finishes (codes "explain") line (Err BadNumber)
explain_second line c n d p c' n' d' p' h b = (c ∷ n ∷ d ∷ p ∷ c' ∷ n' ∷ d' ∷ p' ∷ [], 8, 3 ∷ 7 ∷ [], 7, p', h, explain, refl, (1, omega arith, refl), refl, b)

pub explain_ok : (line c n d p c' n' d' p' : List ℕ) (a b : Place) → HasWords line (c ∷ n ∷ d ∷ p ∷ c' ∷ n' ∷ d' ∷ p' ∷ []) → IsPlace c n d p a → IsPlace c' n' d' p' b → Finishes (codes "explain") line (Ok (Explain a b))
explain_ok line c n d p c' n' d' p' a b h i j = (c ∷ n ∷ d ∷ p ∷ c' ∷ n' ∷ d' ∷ p' ∷ [], h, gives_explain i j)

pub explain_memory : (line c n d p c' n' d' p' : List ℕ) (k l : ℕ) → HasWords line (c ∷ n ∷ d ∷ p ∷ c' ∷ n' ∷ d' ∷ p' ∷ []) → IsNumber p k → IsNumber p' l → Finishes (codes "explain") line (Err NoMemory)
explain_memory line c n d p c' n' d' p' k l h i j =
    let a = place_some c n d p k i in
    let b = place_some c' n' d' p' l j in
    (c ∷ n ∷ d ∷ p ∷ c' ∷ n' ∷ d' ∷ p' ∷ [], Explain a.0 b.0, h, gives_explain a.1 b.1, λ e. omega (arith, ap length e))
