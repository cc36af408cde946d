use Rattle.std.proofs.Common.{◌≡◌, ℕ, zero, suc, ◌+◌, ◌<◌, ◌≤◌, Bool, true, nat_lt, nat_le, List, [], ◌∷◌, ◌&&◌, if◌then◌else◌, ◌∙◌, sym, subst, ap, zero-add, get_or, refl, arith, add-zero}
use Rattle.std.proofs.lemmas.Bool.Decides.{nat_tests}
use Rattle.class_form.specs.Table.{opcode_of, opcode_in, table, undefined, Line}
use Rattle.class_form.specs.declared.opcode.Opcode.{Opcode}
use Rattle.class_form.specs.declared.opcode.TheConstants.{OPCODES}
use Rattle.class_form.proofs.opcode.Opcode.of.Goals as goal

-- what the table says of so many opcodes from one on
from : ℕ → ℕ → List Opcode
from zero op = []
from (suc n) op = opcode_of op ∷ from n (suc op)

from_at : (n op k : ℕ) (d : Opcode) → k < n → get_or (from n op) k d ≡ opcode_of (op + k)
unfolding from
from_at zero op k d lt = absurd (omega arith)
from_at (suc n) op zero d lt = rw add-zero refl
from_at (suc n) op (suc k) d lt = let e : suc op + k ≡ op + suc k = omega arith in rw (← e) (from_at n (suc op) k d (omega arith))

all_rows : OPCODES ≡ from 202 0
unfolding from opcode_of
all_rows = refl

row_at : (op : ℕ) (d : Opcode) → op < 202 → get_or OPCODES op d ≡ opcode_of op
row_at op d lt = subst (λ xs. get_or xs op d ≡ opcode_of op) (sym all_rows) (from_at 202 0 op d lt ∙ ap opcode_of (zero-add op))

-- no line goes past the last opcode
abbrev ends_by : ℕ → List Line → Bool
ends_by n [] = true
ends_by n (l ∷ ls) = nat_lt l.last n && ends_by n ls

here : (n first last op : ℕ) (rest : Bool) (a b : Opcode) → n ≤ op → (nat_lt last n && rest) ≡ true → (if nat_le first op && nat_le op last then a else b) ≡ b
here n first last op rest a b le t = grind (arith, nat_tests)

below : (n last : ℕ) (rest : Bool) → (nat_lt last n && rest) ≡ true → rest ≡ true
below n last rest t = grind (arith, nat_tests)

past : (n : ℕ) (ls : List Line) (op : ℕ) → n ≤ op → ends_by n ls ≡ true → opcode_in ls op ≡ undefined
past n [] op le t = refl
past n (l ∷ ls) op le t = here n l.first l.last op (ends_by n ls) l.opcode _ le t ∙ past n ls op le (below n l.last (ends_by n ls) t)

pub returns : goal.returns
returns c = row_at _ _ (omega arith)

pub returns-then-op-ge202 : goal.returns-then-op-ge202
unfolding opcode_of
returns-then-op-ge202 c = sym (past 202 table c.args.op (omega arith) refl)
