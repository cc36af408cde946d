use Rattle.std.proofs.Common.{◌≡◌, ℕ, List, IfOk, string_bytes, sym, subst}
use Rattle.sessions.specs.declared.desk.Outcome.{Outcome}
use Rattle.run_form.specs.Said.{session_line}
use Rattle.serving.specs.Attended.{ending_of}
use Rattle.serving.proofs.SessionLines.{done_line, read_line, write_line, memory_line}
use Rattle.serving.proofs.saying.summary.Goals as goal

pub returns-in-Done : goal.returns-in-Done
returns-in-Done c =
    subst (λ (o : Outcome). IfOk c.format.result (λ s. string_bytes s ≡ session_line c.args.number (ending_of o))) (sym c.in-Done.is)
    (subst (λ (t : List ℕ). IfOk c.format.result (λ s. string_bytes s ≡ t)) (done_line c.args.number c.in-Done.n) c.format.ensures.ok)

pub returns-in-ReadFault : goal.returns-in-ReadFault
returns-in-ReadFault c =
    subst (λ (o : Outcome). IfOk c.format-in-ReadFault.result (λ s. string_bytes s ≡ session_line c.args.number (ending_of o))) (sym c.in-ReadFault.is)
    (subst (λ (t : List ℕ). IfOk c.format-in-ReadFault.result (λ s. string_bytes s ≡ t)) (read_line c.args.number c.in-ReadFault.n) c.format-in-ReadFault.ensures.ok)

pub returns-in-WriteFault : goal.returns-in-WriteFault
returns-in-WriteFault c =
    subst (λ (o : Outcome). IfOk c.format-in-WriteFault.result (λ s. string_bytes s ≡ session_line c.args.number (ending_of o))) (sym c.in-WriteFault.is)
    (subst (λ (t : List ℕ). IfOk c.format-in-WriteFault.result (λ s. string_bytes s ≡ t)) (write_line c.args.number c.in-WriteFault.n) c.format-in-WriteFault.ensures.ok)

pub returns-in-NoMemory : goal.returns-in-NoMemory
returns-in-NoMemory c =
    subst (λ (o : Outcome). IfOk c.format-in-NoMemory.result (λ s. string_bytes s ≡ session_line c.args.number (ending_of o))) (sym c.in-NoMemory.is)
    (subst (λ (t : List ℕ). IfOk c.format-in-NoMemory.result (λ s. string_bytes s ≡ t)) (memory_line c.args.number c.in-NoMemory.n) c.format-in-NoMemory.ensures.ok)
