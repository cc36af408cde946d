-- What a run says: one line on a refusal or a fault, or one on each session.
use Rattle.std.specs.Prelude.{◌++◌, ◌∷◌, ℕ, suc, List, [], codes}
use Rattle.std.specs.Fmt.{decimal}

-- a text with the end of its line
abbrev pub line : List ℕ → List ℕ
line text = text ++ 10 ∷ []

abbrev pub usage_line : List ℕ
usage_line = line (codes "usage: slicer [--main NAME] FOLDER SCRIPT...")

abbrev pub host_fault_line : List ℕ
host_fault_line = line (codes "host fault")

-- how a session ended, after so many whole replies
pub data Ending : Type 0 where
  Done : (replies : ℕ) → Ending
  ReadFault : (replies : ℕ) → Ending
  WriteFault : (replies : ℕ) → Ending
  NoMemory : (replies : ℕ) → Ending

abbrev pub ending_text : Ending → List ℕ
ending_text (Done n) = codes "done " ++ decimal n ++ codes " replies"
ending_text (ReadFault n) = codes "read fault after " ++ decimal n ++ codes " replies"
ending_text (WriteFault n) = codes "write fault after " ++ decimal n ++ codes " replies"
ending_text (NoMemory n) = codes "no memory after " ++ decimal n ++ codes " replies"

-- the line on the session of this number; the first is 1
abbrev pub session_line : ℕ → Ending → List ℕ
session_line k e = line (codes "session " ++ decimal k ++ codes " " ++ ending_text e)

-- the lines on sessions, of which the first has this number
abbrev pub session_lines : ℕ → List Ending → List ℕ
session_lines k [] = []
session_lines k (e ∷ es) = session_line k e ++ session_lines (suc k) es
