-- Facts of a result that are told apart, together.
use Rattle.std.proofs.Common.{Result, Ok, Err}
use Rattle.std.specs.Prelude.{IfOk}

pub three_ok : {A E : Type 0} (r : Result A E) (P Q R S : A → Type 0) → ((x : A) → P x → Q x → R x → S x) → IfOk r P → IfOk r Q → IfOk r R → IfOk r S
three_ok (Ok x) P Q R S f p q r = f x p q r
three_ok (Err e) P Q R S f p q r = tt

pub two_ok : {A E : Type 0} (r : Result A E) (P Q R : A → Type 0) → ((x : A) → P x → Q x → R x) → IfOk r P → IfOk r Q → IfOk r R
two_ok (Ok x) P Q R f p q = f x p q
two_ok (Err e) P Q R f p q = tt
