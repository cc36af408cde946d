-- The one thing of which a fact holds.
use Rattle.std.proofs.Common.{◌≡◌, Option, Some, None, sym, ap, subst}
use Rattle.std.proofs.lemmas.Option.{same_Some}
use Rattle.constraint_rules.specs.One.{IsOne}

pub none_of : {A : Type 0} (P : A → Type 0) → ((x : A) → P x → ⊥) → IsOne P None
none_of P never = λ x. (λ h. absurd (never x h), λ e. absurd (cc e))

pub some_of : {A : Type 0} (P : A → Type 0) (a : A) → P a → ((x : A) → P x → a ≡ x) → IsOne P (Some a)
some_of P a is only = λ x. (λ h. ap (λ z. Some z) (only x h), λ e. subst P (same_Some a x e) is)

pub one_same : {A : Type 0} (P Q : A → Type 0) (o : Option A) → ((x : A) → P x → Q x) → ((x : A) → Q x → P x) → IsOne P o → IsOne Q o
one_same P Q o to from one = λ x. (λ q. (one x).0 (from x q), λ e. to x ((one x).1 e))
