use Rattle.std.proofs.Common.{◌≡◌, ℕ, Bool, true, false, List, [], length, arith, ap, sym, ◌∙◌}
use Rattle.std.specs.Prelude.{nat_eq}
use Rattle.std.proofs.lemmas.Bool.Decides.{nat_tests}
use Rattle.std.proofs.lemmas.List.{nil_from_length}
use Rattle.sessions.proofs.nodes.is_none.Goals as goal

is_zero : {n : ℕ} (b : Bool) → b ≡ nat_eq n 0 → b ≡ true → n ≡ 0
is_zero b e t = grind (arith, nat_tests)

not_zero : {n : ℕ} (b : Bool) → b ≡ nat_eq n 0 → b ≡ false → n ≡ 0 → ⊥
not_zero b e t z = grind (arith, nat_tests)

pub returns-clause-yes : goal.returns-clause-yes
returns-clause-yes c = λ t. nil_from_length _ (is_zero c.is_empty.result c.is_empty.ensures t)

pub returns-clause-no : goal.returns-clause-no
returns-clause-no c = λ t e. not_zero c.is_empty.result c.is_empty.ensures t (ap length e)
