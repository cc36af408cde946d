-- Marks at places.
use Rattle.std.proofs.Common.{◌≡◌, ◌↔◌, ℕ, zero, suc, ◌+◌, ◌<◌, ◌≤◌, Bool, true, false, List, [], ◌∷◌, ◌++◌, length, get_or, set, take, drop, replicate, All, Contains, inl, inr, refl, sym, ap, ◌∙◌, subst, arith}
use Rattle.std.proofs.lemmas.Bool.{cases_eq, cases_lt, false≢true}
use Rattle.std.proofs.lemmas.List.{get_or-set_same, get_or-set_other, get_or-replicate, length-replicate, get_or_past, take_more, take_all, map-append}
use Rattle.std.proofs.lemmas.List.Elements.{Contains-push, Contains-push_cases, Contains-append_left, All-push}
use Rattle.class_form.specs.declared.body.Instr.{Instr}
use Rattle.class_form.specs.declared.code_error.CodeError.TheVariants.{Broken}
use Rattle.bytecode.specs.Starts.{pcs, IsMarked, JumpsWell, MissesFirst}

-- nothing is marked at first
pub none_marked : (n pc : ℕ) → IsMarked (replicate n false) pc → ⊥
none_marked n pc m =
    elim (cases_lt pc n) [
      | inl lt ↦ false≢true (sym (get_or-replicate n pc false false lt) ∙ m)
      | inr le ↦ false≢true (sym (get_or_past (replicate n false) pc false (omega (arith, length-replicate n false))) ∙ m)
    ]

-- one more place marked
pub mark : (marks : List Bool) (ys : List ℕ) (q : ℕ) → q < length marks → ((pc : ℕ) → IsMarked marks pc ↔ Contains ys pc)
    → (pc : ℕ) → IsMarked (set marks q true) pc ↔ Contains (ys ++ q ∷ []) pc
mark marks ys q lt e pc = (there, back)
  where
    there : IsMarked (set marks q true) pc → Contains (ys ++ q ∷ []) pc
    there m = elim (cases_eq pc q) [
      | inl same ↦ subst (Contains (ys ++ q ∷ [])) (sym same) (Contains-push ys q)
      | inr other ↦ Contains-append_left ys (q ∷ []) pc ((e pc).0 (sym (get_or-set_other marks q pc true false other) ∙ m))
    ]

    old : Contains ys pc → IsMarked (set marks q true) pc
    old h = elim (cases_eq pc q) [
      | inl same ↦ subst (IsMarked (set marks q true)) (sym same) (get_or-set_same marks q true false lt)
      | inr other ↦ get_or-set_other marks q pc true false other ∙ (e pc).1 h
    ]

    back : Contains (ys ++ q ∷ []) pc → IsMarked (set marks q true) pc
    back h = elim (Contains-push_cases ys q pc h) [
      | inl before ↦ old before
      | inr same ↦ subst (IsMarked (set marks q true)) same (get_or-set_same marks q true false lt)
    ]

-- the first so many instructions, and one more
pub pcs_more : (xs : List Instr) (n : ℕ) (i : Instr) → n < length xs → i ≡ get_or xs n i → pcs (take (n + 1) xs) ≡ pcs (take n xs) ++ i.pc ∷ []
pcs_more xs n i lt is = ap pcs (take_more xs n i lt ∙ ap (λ x. take n xs ++ x ∷ []) (sym is)) ∙ map-append (λ (i : Instr). i.pc) (take n xs) (i ∷ [])

pub marked_more : (xs : List Instr) (marks : List Bool) (n : ℕ) (i : Instr) → n < length xs → i ≡ get_or xs n i → i.pc < length marks
    → ((pc : ℕ) → IsMarked marks pc ↔ Contains (pcs (take n xs)) pc)
    → (pc : ℕ) → IsMarked (set marks i.pc true) pc ↔ Contains (pcs (take (n + 1) xs)) pc
marked_more xs marks n i lt is within e pc = rw (pcs_more xs n i lt is) (mark marks (pcs (take n xs)) i.pc within e pc)

-- all of the first so many elements, and of one more
pub all_more : {X : Type 0} (P : X → Type 0) (xs : List X) (n : ℕ) (x : X) → n < length xs → x ≡ get_or xs n x → All P (take n xs) → P x → All P (take (n + 1) xs)
all_more P xs n x lt is all here = subst (All P) (sym (take_more xs n x lt ∙ ap (λ y. take n xs ++ y ∷ []) (sym is))) (All-push P (take n xs) x all here)

pub all_at_end : {X : Type 0} (P : X → Type 0) (xs : List X) (n : ℕ) → length xs ≤ n → All P (take n xs) → All P xs
all_at_end P xs n le all = subst (All P) (take_all n xs le) all

-- a list at one of its elements
pub split_at : {X : Type 0} (xs : List X) (n : ℕ) (d : X) → n < length xs → xs ≡ take n xs ++ get_or xs n d ∷ drop (suc n) xs
split_at [] n d lt = absurd (omega arith)
split_at (x ∷ xs) zero d lt = refl
split_at (x ∷ xs) (suc n) d lt = ap (λ ys. x ∷ ys) (split_at xs n d (omega arith))

-- places that are marked are where instructions begin
pub jumps_well : (marks : List Bool) (xs : List Instr) (i : Instr) → ((pc : ℕ) → IsMarked marks pc ↔ Contains (pcs xs) pc)
    → All (IsMarked marks) i.targets → JumpsWell (pcs xs) i
jumps_well marks xs i e all = λ k d lt. (e (get_or i.targets k d)).0 (all k d lt)

pub misses_first : (marks : List Bool) (xs : List Instr) (n : ℕ) (i : Instr) → ((pc : ℕ) → IsMarked marks pc ↔ Contains (pcs xs) pc)
    → n < length xs → i ≡ get_or xs n i → All (JumpsWell (pcs xs)) (take n xs)
    → (place : ℕ) × Contains i.targets place × (IsMarked marks place → ⊥) → MissesFirst (pcs xs) xs (Broken 5 i.pc)
misses_first marks xs n i e lt is before m = (
  take n xs,
  i,
  drop (suc n) xs,
  split_at xs n i lt ∙ ap (λ x. take n xs ++ x ∷ drop (suc n) xs) (sym is),
  before,
  (m.0, m.1, λ h. m.2 ((e m.0).1 h)),
  refl,
)
