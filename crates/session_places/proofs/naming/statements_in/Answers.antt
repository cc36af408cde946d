use Rattle.std.proofs.Common.{◌≡◌, ℕ, Bool, true, length, arith, subst}
use Rattle.std.specs.Prelude.{nat_eq}
use Rattle.std.proofs.lemmas.Bool.Decides.{nat_tests}
use Rattle.std.proofs.lemmas.List.{nil_from_length}
use Rattle.dep_form.specs.LookUps.{AreAtLine}
use Rattle.session_form.specs.Places.{no_such_line}
use Rattle.session_places.proofs.naming.statements_in.Goals as goal

is_zero : {n : ℕ} (b : Bool) → b ≡ nat_eq n 0 → b ≡ true → n ≡ 0
is_zero b e t = grind (arith, nat_tests)

pub returns-then-is_empty : goal.returns-then-is_empty
returns-then-is_empty c =
    no_such_line c.args.class c.requires
    (subst (AreAtLine c.args.f.now c.args.class c.args.line) (nil_from_length _ (is_zero c.is_empty.result c.is_empty.ensures c.if-is_empty.true)) c.at_line-statements.ensures)
