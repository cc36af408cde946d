-- Where the words of each row lie: first all rows of mode thin, then all of mode full, each row its gate and then its data words.
use Rattle.std.specs.Prelude.{◌+◌, ◌/◌, ◌&&◌, if◌then◌else◌, ℕ, zero, suc, List, [], ◌∷◌, map, length, slice_index, Option, Some, None, nat_le, nat_lt}
use Rattle.slicer_ids.specs.declared.ids.NodeId.{NodeId}
use Rattle.slicer_ids.specs.declared.ids.ExitId.{ExitId}
use Rattle.slicer_ids.specs.declared.ids.Mode.{Mode}
use Rattle.slicer_ids.specs.declared.ids.Mode.TheVariants.{Thin, Full}
use Rattle.dep_form.specs.declared.input.MethodInput.{MethodInput}
use Rattle.dep_form.specs.declared.facts.Facts.{Facts}
use Rattle.dep_form.specs.Inputs.{formal_count}

-- how many formals the method has that the node is of
abbrev pub formals_at : List (Option MethodInput) → NodeId → ℕ
formals_at [] n = 0
formals_at (None ∷ inputs) n = formals_at inputs n
formals_at (Some i ∷ inputs) n =
    if nat_le i.first.0 n.0 && nat_lt n.0 (i.first.0 + length i.nodes) then formal_count i else formals_at inputs n

-- how many words of 64 bits hold a bit for each of so many formals
abbrev pub words_for : ℕ → ℕ
words_for formals = (formals + 63) / 64

-- how many data words the row of each exit has
abbrev pub widths : Facts → List ℕ
widths f = map (λ n. words_for (formals_at f.inputs n)) f.exits

abbrev pub width : Facts → ExitId → ℕ
width f e = slice_index (widths f) e.0

-- how many words so many rows of these widths have, their gates among them
abbrev pub before : List ℕ → ℕ → ℕ
before [] k = 0
before (w ∷ ws) zero = 0
before (w ∷ ws) (suc k) = suc w + before ws k

-- how many words the rows of one mode have
abbrev pub mode_words : Facts → ℕ
mode_words f = before (widths f) (length f.exits)

-- where the rows of a mode begin: word 0 stands before all rows
abbrev pub begin_of : Facts → Mode → ℕ
begin_of f Thin = 1
begin_of f Full = 1 + mode_words f

abbrev pub gate_of : Facts → ExitId → Mode → ℕ
gate_of f e mode = begin_of f mode + before (widths f) e.0

-- where data word k of a row lies
abbrev pub data_of : Facts → ExitId → Mode → ℕ → ℕ
data_of f e mode k = suc (gate_of f e mode + k)

-- how many words the rows have, word 0 not counted
abbrev pub memo_words : Facts → ℕ
memo_words f = mode_words f + mode_words f
