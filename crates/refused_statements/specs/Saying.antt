-- What a statement is told by. Private: no public clause cites this.
use Rattle.std.specs.Prelude.{◌≡◌, ℕ, List, Option, Some, slice_get}
use Rattle.dep_form.specs.declared.texts.MethodText.{MethodText}
use Rattle.acceptance.specs.Statements.{statement_text, statement_refusal}
use Rattle.call_graph.specs.declared.refusals.Refused.{Refused}

-- the lines have this one at the pc
abbrev pub IsLineIn : List (ℕ × Option ℕ) → ℕ → Option ℕ → Type 0
IsLineIn lines pc line = (k : ℕ) × (x : ℕ × Option ℕ) × (slice_get lines k ≡ Some x) × (x.0 ≡ pc) × (x.1 ≡ line)

-- the line is that on the statement, by the texts of its method and the name of its class
abbrev pub IsSaidOf : Refused → MethodText → List ℕ → List ℕ → Type 0
IsSaidOf r t class line =
    (l : Option ℕ) × IsLineIn t.lines r.place.pc l × (line ≡ statement_refusal r.kind (statement_text class t.name t.descriptor r.place.pc l))

-- .. by those of all methods and classes
abbrev pub IsSaidBy : List MethodText → List (List ℕ) → Refused → List ℕ → Type 0
IsSaidBy texts names r line =
    (t : MethodText) × (class : List ℕ) × (slice_get texts r.place.method.0 ≡ Some t) × (slice_get names t.class.0 ≡ Some class) × IsSaidOf r t class line
