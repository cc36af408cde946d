-- A search by marks and a list of work.
use Rattle.std.proofs.Common.{◌≡◌, ℕ, ◌+◌, ◌<◌, ◌⊎◌, inl, inr, Bool, true, false, cond, List, [], ◌∷◌, ◌++◌, length, set, get_or, All, Contains, refl, sym, subst, ◌∙◌, ap, arith, get_or-set_same, get_or-set_other, replicate, length-set, length-append}
use Rattle.std.specs.Prelude.{count_by, not}
use Rattle.std.proofs.lemmas.Bool.{cases_eq, cases_lt, false≢true}
use Rattle.std.proofs.lemmas.List.{get_or_past, get_or-replicate, length-replicate}
use Rattle.std.proofs.lemmas.List.Sums.{sum_by-set}
use Rattle.std.proofs.lemmas.List.Elements.{All-contains, Contains-append_left, Contains-push, Contains-push_cases}
use Rattle.std.specs.Option.{option_map_or}
use Rattle.std.specs.Global.{Vec}
use Rattle.std.proofs.lemmas.Option.{slice_get_read}
use Rattle.std.proofs.lemmas.Grind.{get_or_default_zero}
use Rattle.digraph.specs.Graphs.{targets, IsGraph, is_marked, IsMarked}
use Rattle.slicer_ids.specs.Walks.{Leads, stay, more}

-- what holds while the work goes on; the edges of a busy node are being followed
pub record Searches (E : ℕ → ℕ → Type 0) (start size : ℕ) (busy : ℕ → Type 0) (marks : List Bool) (work : List ℕ) : Type 0 where
  pub len : length marks ≡ size
  pub sound : (n : ℕ) → IsMarked marks n → Leads E start n
  pub waits : (n : ℕ) → Contains work n → IsMarked marks n
  pub begun : IsMarked marks start
  pub closed : (a b : ℕ) → IsMarked marks a → E a b → IsMarked marks b ⊎ Contains work a ⊎ busy a

abbrev pub added : List Bool → List ℕ → ℕ → List ℕ
added marks work n = cond (is_marked marks n) work (work ++ n ∷ [])

pub marked_cases : (marks : List Bool) (n a : ℕ) → IsMarked (set marks n true) a → IsMarked marks a ⊎ (a ≡ n)
marked_cases marks n a h =
    elim (cases_eq a n) [
      | inl e ↦ inr e
      | inr ne ↦ inl (sym (get_or-set_other marks n a true false ne) ∙ h)
    ]

pub marked_now : (marks : List Bool) (n : ℕ) → n < length marks → IsMarked (set marks n true) n
marked_now marks n lt = get_or-set_same marks n true false lt

pub marked_within : (marks : List Bool) (n : ℕ) → IsMarked marks n → n < length marks
marked_within marks n h = elim (cases_lt n (length marks)) [ inl lt ↦ lt | inr le ↦ absurd (false≢true (sym (get_or_past marks n false le) ∙ h)) ]

pub marked_stays : (marks : List Bool) (n a : ℕ) → IsMarked marks a → IsMarked (set marks n true) a
marked_stays marks n a h =
    elim (cases_eq a n) [
      | inl e ↦ rw e (get_or-set_same marks n true false (marked_within marks n (subst (λ (k : ℕ). IsMarked marks k) e h)))
      | inr ne ↦ get_or-set_other marks n a true false ne ∙ h
    ]

pub stays_waiting : (marks : List Bool) (work : List ℕ) (n a : ℕ) → Contains work a → Contains (added marks work n) a
stays_waiting marks work n a h = elim (is_marked marks n) as (λ b. Contains (cond b work (work ++ n ∷ [])) a) [ true ↦ h | false ↦ Contains-append_left work (n ∷ []) a h ]

pub waits_or_was : (marks : List Bool) (work : List ℕ) (n : ℕ) → IsMarked marks n ⊎ Contains (added marks work n) n
waits_or_was marks work n = elim (is_marked marks n) as (λ b. (b ≡ true) ⊎ Contains (cond b work (work ++ n ∷ [])) n) [ true ↦ inl refl | false ↦ inr (Contains-push work n) ]

waiting_cases : (marks : List Bool) (work : List ℕ) (n a : ℕ) → Contains (added marks work n) a → Contains work a ⊎ (n ≡ a)
waiting_cases marks work n a = elim (is_marked marks n) as (λ b. Contains (cond b work (work ++ n ∷ [])) a → Contains work a ⊎ (n ≡ a)) [ true ↦ λ h. inl h | false ↦ λ h. Contains-push_cases work n a h ]

-- to mark a node that is reached keeps all of it
pub marks_one : (E : ℕ → ℕ → Type 0) (start size : ℕ) (busy : ℕ → Type 0) (marks : List Bool) (work : List ℕ) (n : ℕ) → n < length marks → Leads E start n
    → Searches E start size busy marks work → Searches E start size busy (set marks n true) (added marks work n)
marks_one E start size busy marks work n lt r s = record {
  len = length-set marks n true ∙ s.len;
  sound = λ a h. elim (marked_cases marks n a h) [ inl m ↦ s.sound a m | inr e ↦ rw e r ];
  waits = λ a h. elim (waiting_cases marks work n a h) [ inl w ↦ marked_stays marks n a (s.waits a w) | inr e ↦ rw (← e) (get_or-set_same marks n true false lt) ];
  begun = marked_stays marks n start s.begun;
  closed = λ a b m e. elim (marked_cases marks n a m) [ inl was ↦ kept a b was e | inr is ↦ elim (waits_or_was marks work n) [ inl was ↦ kept a b (rw is was) e | inr w ↦ inr (inl (rw is w)) ] ];
}
  where
    kept : (a b : ℕ) → IsMarked marks a → E a b → IsMarked (set marks n true) b ⊎ Contains (added marks work n) a ⊎ busy a
    kept a b m e = elim (s.closed a b m e) [ inl h ↦ inl (marked_stays marks n b h) | inr h ↦ inr (elim h [ inl w ↦ inl (stays_waiting marks work n a w) | inr y ↦ inr y ]) ]

-- and the same sum of unmarked and waiting nodes
cost_by : (m : Bool) (before after : ℕ) (work : List ℕ) (n : ℕ) → after + cond (not m) 1 0 ≡ before + 0 → after + length (cond m work (work ++ n ∷ [])) ≡ before + length work
cost_by true before after work n e = omega arith
cost_by false before after work n e = omega (arith, length-append work (n ∷ []))

pub costs_one : (marks : List Bool) (work : List ℕ) (n : ℕ) → n < length marks → count_by not (set marks n true) + length (added marks work n) ≡ count_by not marks + length work
costs_one marks work n lt = cost_by (is_marked marks n) (count_by not marks) (count_by not (set marks n true)) work n (sum_by-set (λ x. cond (not x) 1 0) marks n true false lt)

-- a node is taken up
pub takes_up : (E : ℕ → ℕ → Type 0) (start size : ℕ) (marks : List Bool) (work rest : List ℕ) (n : ℕ) → work ≡ rest ++ n ∷ []
    → Searches E start size (λ _. ⊥) marks work → Searches E start size (λ a. a ≡ n) marks rest × IsMarked marks n
takes_up E start size marks work rest n e s = (
  record {
    len = s.len;
    sound = s.sound;
    waits = λ a h. s.waits a (subst (λ (w : List ℕ). Contains w a) (sym e) (Contains-append_left rest (n ∷ []) a h));
    begun = s.begun;
    closed = λ a b m d. elim (s.closed a b m d) [ inl h ↦ inl h | inr h ↦ elim h [ inl w ↦ elim (Contains-push_cases rest n a (subst (λ (w : List ℕ). Contains w a) e w)) [ inl w ↦ inr (inl w) | inr e ↦ inr (inr (sym e)) ] | inr h ↦ absurd h ] ];
  },
  s.waits n (subst (λ (w : List ℕ). Contains w n) (sym e) (Contains-push rest n)),
)

pub taken_within : (E : ℕ → ℕ → Type 0) (start size : ℕ) (marks : List Bool) (work rest : List ℕ) (n : ℕ) → work ≡ rest ++ n ∷ [] → Searches E start size (λ _. ⊥) marks work → n < size
taken_within E start size marks work rest n e s = omega (arith, marked_within marks n (takes_up E start size marks work rest n e s).1, s.len)

-- all its edges were followed
pub puts_down : (E : ℕ → ℕ → Type 0) (start size : ℕ) (marks : List Bool) (work : List ℕ) (n : ℕ) → ((b : ℕ) → E n b → IsMarked marks b)
    → Searches E start size (λ a. a ≡ n) marks work → Searches E start size (λ _. ⊥) marks work
puts_down E start size marks work n all s = record {
  len = s.len;
  sound = s.sound;
  waits = s.waits;
  begun = s.begun;
  closed = λ a b m e. elim (s.closed a b m e) [ inl h ↦ inl h | inr h ↦ elim h [ inl w ↦ inr (inl w) | inr is ↦ inl (all b (subst (λ (k : ℕ). E k b) is e)) ] ];
}

-- nothing waits: each node that is reached has its mark
pub reaches_marked : (E : ℕ → ℕ → Type 0) (start size : ℕ) (marks : List Bool) (work : List ℕ) → length work ≡ 0 → Searches E start size (λ _. ⊥) marks work → (n : ℕ) → Leads E start n → IsMarked marks n
reaches_marked E start size marks work none s n stay = s.begun
reaches_marked E start size marks work none s n (more {b} r e) = elim (s.closed b n (reaches_marked E start size marks work none s b r) e) [ inl m ↦ m | inr h ↦ elim h [ inl w ↦ absurd (omega (arith, w.1)) | inr h ↦ absurd h ] ]

-- the search begins
pub begins : (E : ℕ → ℕ → Type 0) (start size : ℕ) → start < size → Searches E start size (λ _. ⊥) (set (replicate size false) start true) (added (replicate size false) [] start)
begins E start size lt = record {
  len = length-set (replicate size false) start true ∙ length-replicate size false;
  sound = λ a h. elim (marked_cases (replicate size false) start a h) [ inl m ↦ absurd (unmarked size a m) | inr e ↦ rw e stay ];
  waits = λ a h. elim (waiting_cases (replicate size false) [] start a h) [ inl w ↦ absurd (omega (arith, w.1)) | inr e ↦ rw (← e) now ];
  begun = now;
  closed = λ a b m e. elim (marked_cases (replicate size false) start a m) [ inl m ↦ absurd (unmarked size a m) | inr is ↦ elim (waits_or_was (replicate size false) [] start) [ inl m ↦ absurd (unmarked size start m) | inr w ↦ inr (inl (rw is w)) ] ];
}
  where
    unmarked : (size a : ℕ) → IsMarked (replicate size false) a → ⊥
    unmarked size a h = elim (cases_lt a size) [ inl lt ↦ absurd (false≢true (sym (get_or-replicate size a false false lt) ∙ h)) | inr le ↦ absurd (false≢true (sym (get_or_past (replicate size false) a false (omega (arith, length-replicate size false))) ∙ h)) ]

    now : IsMarked (set (replicate size false) start true) start
    now = get_or-set_same (replicate size false) start true false (omega (arith, length-replicate size false))

-- the edges of a node are its row's
pub targets_row : (g : List (Vec ℕ)) (n : ℕ) (row : Vec ℕ) → n < length g → row ≡ get_or g n row → targets g n ≡ row.items
targets_row g n row lt e = ap (λ o. option_map_or (λ (r : Vec ℕ). r.items) o []) (slice_get_read g (length g) n row refl lt e)

pub Contains-at : (row : List ℕ) (P : ℕ → Type 0) → ((k : ℕ) → k < length row → P (get_or row k 0)) → (b : ℕ) → Contains row b → P b
Contains-at row P all b h = subst P (sym (get_or_default_zero row h.0 b h.1) ∙ h.2) (all h.0 h.1)

pub target_within : (g : List (Vec ℕ)) (n b : ℕ) (row : Vec ℕ) → IsGraph g → n < length g → row ≡ get_or g n row → Contains row.items b → b < length g
target_within g n b row h lt e edge = All-contains (λ b. b < length g) row.items b (subst (λ (r : Vec ℕ). All (λ b. b < length g) r.items) (sym e) (h n row lt)) edge
