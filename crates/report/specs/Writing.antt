-- What a call that writes a text to a sink does, by the meanings of sinks.
use Rattle.std.specs.Prelude.{◌≡◌, ◌<◌, ◌≤◌, ℕ, Bool, true, List, Option, Result, Err, length, take, OnOk, OnErr}
use Rattle.edge_io.specs.Faults.{Rose}
use Rattle.edge_io.specs.Reads.{appended}
use Rattle.edge_io.specs.declared.sink.SinkError.{SinkError}
use Rattle.edge_io.specs.declared.sink.SinkError.TheVariants.{Fault}

-- the whole text was appended, or a proper prefix of it where the sink refused; a fault only where the count of faults rose, and never of
-- a steady sink
pub record Wrote {K : Type 0} (written : K → Option (List ℕ)) (label : K → List ℕ) (faults : K → ℕ) (steady : K → Bool) (text : List ℕ)
    (result : Result (Unit {0}) SinkError) (old new : K) : Type 0 where
  pub whole : OnOk result (written new ≡ appended text (written old))
  pub part : OnErr result ((k : ℕ) × (k < length text) × (written new ≡ appended (take k text) (written old)))
  pub same_label : label new ≡ label old
  pub count : faults old ≤ faults new
  pub fault : result ≡ Err Fault → Rose (faults old) (faults new)
  pub same_steady : steady new ≡ steady old
  pub still : steady old ≡ true → faults new ≡ faults old
  pub sure : steady old ≡ true → result ≡ Err Fault → ⊥
