use Rattle.std.proofs.Common.{sym, ◌∙◌}
use Rattle.std.proofs.lemmas.Slice.Eq.{bytes_eq-Decides}
use Rattle.gates.proofs.host.written_to.Goals as goal

pub returns-in-Some : goal.returns-in-Some
returns-in-Some c =
    record {
      of = c.in-Some.sink;
      is = c.in-Some.is;
      named = sym c.label.ensures ∙ (bytes_eq-Decides c.label.result.now c.as_bytes.result.now).0 (sym c.if-eq.ensures) ∙ c.as_bytes.ensures.value;
      holds = sym c.bytes.ensures;
    }
