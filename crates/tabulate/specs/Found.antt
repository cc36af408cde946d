-- What was found, by method. A pair is a node and the number of an exit of its method.
use Rattle.std.specs.Prelude.{◌≡◌, ◌≢◌, ◌⊎◌, ℕ, ◌+◌, ◌*◌, ◌<◌, ◌≤◌, Bool, true, false, List, [], length, Contains, slice_get, slice_index_or}
use Rattle.std.specs.Option.{option_map_or}
use Rattle.std.specs.List.{sum_by}
use Rattle.slicer_ids.specs.declared.ids.NodeId.{NodeId}
use Rattle.bit_rows.specs.Words.{IsIn, AreWords, ones_of}
use Rattle.bit_rows.specs.Adds.{Adds}
use Rattle.dep_form.specs.declared.facts.Facts.{Facts}
use Rattle.tabulate.specs.declared.found.Found.{Found}
use Rattle.tabulate.specs.Frames.{node, count, method_of, width, size, row, at}

abbrev pub got_of : List Found → ℕ → List ℕ
got_of ts m = option_map_or (λ t. t.got.items) (slice_get ts m) []

abbrev pub todo_of : List Found → ℕ → List ℕ
todo_of ts m = option_map_or (λ t. t.todo.items) (slice_get ts m) []

abbrev pub waits_of : List Found → ℕ → List Bool
waits_of ts m = option_map_or (λ t. t.waits.items) (slice_get ts m) []

-- the bit of a pair
abbrev pub IsBit : Facts → (ℕ → List ℕ) → ℕ × ℕ → Type 0
IsBit p words q = (q.0 < count p) × (q.1 < 64 * width p (method_of p q.0)) × IsIn (words (method_of p q.0)) (64 * at p q.0 + q.1)

-- the pair was found; the pair was found and waits
abbrev pub Got : Facts → List Found → ℕ × ℕ → Type 0
Got p ts q = IsBit p (got_of ts) q

abbrev pub Todo : Facts → List Found → ℕ × ℕ → Type 0
Todo p ts q = IsBit p (todo_of ts) q

abbrev pub is_waiting : Facts → List Found → ℕ → Bool
is_waiting p ts n = slice_index_or (waits_of ts (method_of p n)) (row p n) false

-- there is room for the rows of the method
abbrev pub IsOpen : Facts → List Found → ℕ → Type 0
IsOpen p ts m = length (waits_of ts m) ≡ size p m

-- how many pairs were found
abbrev pub total : List Found → ℕ
total ts = sum_by (λ t. ones_of t.got.items) ts

pub record AreFound (p : Facts) (ts : List Found) : Type 0 where
  pub len : length ts ≡ length p.inputs
  pub got : (m : ℕ) → length (got_of ts m) ≡ length (waits_of ts m) * width p m
  pub todo : (m : ℕ) → length (todo_of ts m) ≡ length (waits_of ts m) * width p m
  pub words : (m : ℕ) → AreWords (got_of ts m)
  pub shape : (m : ℕ) → (length (waits_of ts m) ≡ 0) ⊎ IsOpen p ts m
  pub waiting : (q : ℕ × ℕ) → Todo p ts q → is_waiting p ts q.0 ≡ true

-- each node with a flag stands in the queue, and the methods of those in the queue are open
pub record IsQueue (p : Facts) (ts : List Found) (queue : List NodeId) : Type 0 where
  pub queued : (n : ℕ) → n < count p → is_waiting p ts n ≡ true → Contains queue (node n)
  pub opened : (n : ℕ) → Contains queue (node n) → (n < count p) × IsOpen p ts (method_of p n)

-- before and after pairs were added that follow by R
pub record Goes (p : Facts) (ts ts' : List Found) (q q' : List NodeId) (steps steps' : ℕ) (R : (ℕ × ℕ → Type 0) → ℕ × ℕ → Type 0) : Type 0 where
  pub found : AreFound p ts'
  pub queue : IsQueue p ts' q'
  pub adds : Adds (Got p ts) (Todo p ts) (Got p ts') (Todo p ts') R
  pub lens : (m : ℕ) → length (waits_of ts' m) ≡ length (waits_of ts m)
  pub work : length q' + steps ≤ length q + steps'
  pub on : steps ≤ steps'

-- the same pairs, with more room
pub record IsSame (p : Facts) (ts ts' : List Found) : Type 0 where
  pub got : (q : ℕ × ℕ) → Got p ts q → Got p ts' q
  pub got_back : (q : ℕ × ℕ) → Got p ts' q → Got p ts q
  pub todo : (q : ℕ × ℕ) → Todo p ts q → Todo p ts' q
  pub todo_back : (q : ℕ × ℕ) → Todo p ts' q → Todo p ts q
  pub waiting : (n : ℕ) → is_waiting p ts' n ≡ true → is_waiting p ts n ≡ true
  pub stays : (m : ℕ) → IsOpen p ts m → IsOpen p ts' m

-- what waits at a node is taken out
pub record Takes (p : Facts) (ts ts' : List Found) (n : ℕ) (delta : List ℕ) : Type 0 where
  pub got : (q : ℕ × ℕ) → Got p ts q → Got p ts' q
  pub back : (q : ℕ × ℕ) → Got p ts' q → Got p ts q
  pub less : (q : ℕ × ℕ) → Todo p ts' q → Todo p ts q
  pub split : (q : ℕ × ℕ) → Todo p ts q → Todo p ts' q ⊎ ((q.0 ≡ n) × IsIn delta q.1)
  pub found : (x : ℕ) → IsIn delta x → Todo p ts (n, x)
  pub gone : (x : ℕ) → Todo p ts' (n, x) → ⊥
  pub len : length delta ≡ width p (method_of p n)
  pub waiting : (k : ℕ) → k < count p → is_waiting p ts' k ≡ true → (is_waiting p ts k ≡ true) × (k ≢ n)
  pub lens : (m : ℕ) → length (waits_of ts' m) ≡ length (waits_of ts m)

abbrev pub IsBlank : Found → Type 0
IsBlank t = (length t.got.items ≡ 0) × (length t.todo.items ≡ 0) × (length t.waits.items ≡ 0)
