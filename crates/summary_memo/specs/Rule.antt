-- What a seat knows, the rule of the words and of all that seats know, and what each step tells.
use Rattle.std.specs.Prelude.{◌≡◌, ◌≢◌, ◌⊎◌, ◌+◌, ◌*◌, ◌/◌, ◌%◌, ◌<◌, ℕ, suc, List, [], ◌∷◌, ◌++◌, Contains, length, slice_index, Some, None}
use Rattle.std.specs.Int.{bit_at}
use mathlib.Core.Option.{some}
use lib.ListN.{get_elem?}
use Rattle.atomic_table.specs.Table.{State, Me, Step}
use Rattle.slicer_ids.specs.declared.ids.ExitId.{ExitId}
use Rattle.slicer_ids.specs.declared.ids.Mode.{Mode}
use Rattle.dep_form.specs.declared.facts.Facts.{Facts}
use Rattle.dep_form.specs.Summaries.{Summary, IsMask}
use Rattle.summary_memo.specs.declared.view.View.{View}
use Rattle.tabulate.specs.declared.table.Table.{Table}
use Rattle.tabulate.specs.Tables.{HasExit}
use Rattle.summary_memo.specs.Places.{gate_of, data_of, width, memo_words}

-- the first seat knows which facts the rows are of
abbrev pub fresh : Facts → View
fresh f = record { about = Some f; bits = []; gates = [] }

-- what a seat is left with that was joined to another
abbrev pub spent : View
spent = record { about = None; bits = []; gates = [] }

-- what two seats know together
abbrev pub both : View → View → View
both v w = record { about = v.about; bits = v.bits ++ w.bits; gates = v.gates ++ w.gates }

-- the seat saw or set this bit of this word
abbrev pub KnowsBit : View → ℕ → ℕ → Type 0
KnowsBit v word b = (m : ℕ) × Contains v.bits (word, m) × (bit_at m b ≡ 1)

-- the seat saw the row shut, or shut it
abbrev pub KnowsShut : View → Facts → ExitId → Mode → Type 0
KnowsShut v f e mode = (n : ℕ) × Contains v.gates (gate_of f e mode, n) × (n ≢ 0)

-- the seat knows every bit of the summary set
abbrev pub KnowsAll : View → Facts → ExitId → Mode → Type 0
KnowsAll v f e mode = (i : ℕ) → Summary f mode e i → KnowsBit v (data_of f e mode (i / 64)) (i % 64)

-- the second view knows all that the first knew
pub record Knows (v w : View) : Type 0 where
  pub about : w.about ≡ v.about
  pub bits : (x : ℕ × ℕ) → Contains v.bits x → Contains w.bits x
  pub gates : (x : ℕ × ℕ) → Contains v.gates x → Contains w.gates x

-- the second view is the first and what one look at a gate found
abbrev pub LooksOnce : View → Facts → ExitId → Mode → ℕ → View → Type 0
LooksOnce v f e mode found w = w ≡ record v { gates = v.gates ++ (gate_of f e mode, found) ∷ [] }

-- a look at the row's gate found it open, and what was known then is known still
abbrev pub FoundOpen : View → Facts → ExitId → Mode → View → Type 0
FoundOpen v f e mode w = (u : View) × LooksOnce v f e mode 0 u × Knows u w

-- what a view knows is so
pub record IsTold (f : Facts) (words : List ℕ) (v : View) : Type 0 where
  pub about : v.about ≢ None → v.about ≡ Some f
  pub bits : (w b : ℕ) → KnowsBit v w b → bit_at (slice_index words w) b ≡ 1
  pub shut : (w n : ℕ) → Contains v.gates (w, n) → n ≢ 0 → slice_index words w ≢ 0

-- word 0 stays 0, each data word is within the summary, a row that is shut has all of it, and what each view knows is so
pub record IsKept (f : Facts) (s : State (Unit {0}) View) : Type 0 where
  pub sized : length s.words ≡ suc (memo_words f)
  pub zeroth : slice_index s.words 0 ≡ 0
  pub within : (e : ExitId) (mode : Mode) (k b : ℕ) → e.0 < length f.exits → k < width f e → b < 64
      → bit_at (slice_index s.words (data_of f e mode k)) b ≡ 1 → Summary f mode e (64 * k + b)
  pub whole : (e : ExitId) (mode : Mode) (i : ℕ) → e.0 < length f.exits → slice_index s.words (gate_of f e mode) ≢ 0
      → Summary f mode e i → bit_at (slice_index s.words (data_of f e mode (i / 64))) (i % 64) ≡ 1
  pub views : (id : ℕ) (v : View) → get_elem? s.views id ≡ some v → IsTold f s.words v

abbrev Sat : Type 0
Sat = Me (Unit {0}) View

-- a gate was loaded, and is shut where it was known shut
abbrev pub Looked : Step (Unit {0}) → Sat → ℕ → Sat → Type 0
Looked st m found n =
    (n ≡ (record m.0 { gates = m.0.gates ++ (st.word, found) ∷ [] }, m.1))
    × ((was : ℕ) → Contains m.0.gates (st.word, was) → was ≢ 0 → found ≢ 0)

-- a data word was loaded: its bits are known set, and where its row is known shut it is the summary
abbrev pub Masked : Step (Unit {0}) → Sat → ℕ → Sat → Type 0
Masked st m found n =
    (n ≡ (record m.0 { bits = m.0.bits ++ (st.word, found) ∷ [] }, m.1))
    × ((f : Facts) (e : ExitId) (mode : Mode) (k : ℕ) → m.0.about ≡ Some f → st.word ≡ data_of f e mode k → e.0 < length f.exits
    → k < width f e → KnowsShut m.0 f e mode → IsMask f mode e k found)

-- these bits were added to a data word
abbrev pub Offered : Step (Unit {0}) → Sat → ℕ → Sat → Type 0
Offered st m found n = n ≡ (record m.0 { bits = m.0.bits ++ (st.word, st.first) ∷ [] }, m.1)

-- a gate was shut
abbrev pub Shutted : Step (Unit {0}) → Sat → ℕ → Sat → Type 0
Shutted st m found n = n ≡ (record m.0 { gates = m.0.gates ++ (st.word, 1) ∷ [] }, m.1)

-- each of these exits has a row in the table, or the view knows its row shut
pub record AreThere (v : View) (f : Facts) (mode : Mode) (exits : List ExitId) (t : Table) : Type 0 where
  pub each : (d : ExitId) → Contains exits d → HasExit t d ⊎ KnowsShut v f d mode
