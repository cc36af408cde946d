-- The line on a session, as its parts are printed one after another.
use Rattle.std.proofs.Common.{◌≡◌, ◌++◌, ◌∷◌, [], ℕ, List, append_assoc}
use Rattle.std.specs.Prelude.{codes}
use Rattle.std.specs.Fmt.{decimal}
use Rattle.run_form.specs.Said.{Done, ReadFault, WriteFault, NoMemory, session_line}

parts : (a b c d e f g : List ℕ) → a ++ (b ++ ((c ++ d) ++ (e ++ (f ++ g)))) ≡ a ++ b ++ c ++ (d ++ e ++ f) ++ g
parts a b c d e f g = simp append_assoc

pub done_line : (k n : ℕ) → codes "session " ++ (decimal k ++ (codes " done " ++ (decimal n ++ codes " replies\n"))) ≡ session_line k (Done n)
done_line k n = parts (codes "session ") (decimal k) (codes " ") (codes "done ") (decimal n) (codes " replies") (10 ∷ [])

pub read_line : (k n : ℕ) → codes "session " ++ (decimal k ++ (codes " read fault after " ++ (decimal n ++ codes " replies\n"))) ≡ session_line k (ReadFault n)
read_line k n = parts (codes "session ") (decimal k) (codes " ") (codes "read fault after ") (decimal n) (codes " replies") (10 ∷ [])

pub write_line : (k n : ℕ) → codes "session " ++ (decimal k ++ (codes " write fault after " ++ (decimal n ++ codes " replies\n"))) ≡ session_line k (WriteFault n)
write_line k n = parts (codes "session ") (decimal k) (codes " ") (codes "write fault after ") (decimal n) (codes " replies") (10 ∷ [])

pub memory_line : (k n : ℕ) → codes "session " ++ (decimal k ++ (codes " no memory after " ++ (decimal n ++ codes " replies\n"))) ≡ session_line k (NoMemory n)
memory_line k n = parts (codes "session ") (decimal k) (codes " ") (codes "no memory after ") (decimal n) (codes " replies") (10 ∷ [])
