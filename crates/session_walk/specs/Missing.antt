-- How much of what the facts have a session has not.
use Rattle.std.specs.Prelude.{◌+◌, ℕ, zero, suc, Bool, nat_eq, not, ◌&&◌, if◌then◌else◌, length}
use Rattle.std.specs.List.{list_any}
use Rattle.std.specs.Option.{is_some}
use Rattle.slicer_ids.specs.declared.ids.Mode.{Mode}
use Rattle.dep_form.specs.declared.facts.Facts.{Facts}
use Rattle.graph_store.specs.declared.pass.GraphPass.{GraphPass}
use Rattle.graph_store.specs.Store.{gives}
use Rattle.summary_memo.specs.declared.view.View.{View}
use Rattle.summary_memo.specs.Places.{gate_of}

-- how many of the first n don't pass the test
abbrev pub missing : (ℕ → Bool) → ℕ → ℕ
missing has zero = 0
missing has (suc n) = (if has n then 0 else 1) + missing has n

-- the pass gives a graph for the method
abbrev pub has_graph : GraphPass → ℕ → Bool
has_graph p m = is_some (gives p m)

-- the gate of this word was found shut
abbrev pub is_gate : ℕ → ℕ × ℕ → Bool
is_gate g x = nat_eq x.0 g && not (nat_eq x.1 0)

-- the view knows the gate of the row shut
abbrev pub has_row : Facts → Mode → View → ℕ → Bool
has_row f mode v e = list_any (is_gate (gate_of f (record { 0 = e }) mode)) v.gates

-- graphs of methods, and rows of exits in a mode
abbrev pub all_missing : Facts → Mode → GraphPass → View → ℕ
all_missing f mode p v = missing (has_graph p) (length f.inputs) + missing (has_row f mode v) (length f.exits)
