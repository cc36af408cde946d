-- What a look-up that lends says.
use Rattle.std.proofs.Common.{◌≡◌, Option, Some, None, sym, ap, ◌∙◌}
use Rattle.std.specs.Prelude.{option_map}
use Rattle.std.proofs.lemmas.Option.{same_Some}

module _ {B A : Type 0} (now : B → A) (o : Option B) where
  pub some_is : (b : B) (r : Option A) → o ≡ Some b → option_map now o ≡ r → r ≡ Some (now b)
  some_is b r is e = sym e ∙ ap (λ (z : Option B). option_map now z) is

  pub none_is : {P : Type 0} (r : Option A) (a : A) → o ≡ None → option_map now o ≡ r → r ≡ Some a → P
  none_is {P} r a is e at = let f : None ≡ Some a = ap (λ (z : Option B). option_map now z) (sym is) ∙ e ∙ at in absurd (cc f)

  -- what is found is what stands there
  pub one_found : (b : B) (r : Option A) (a : A) → o ≡ Some b → option_map now o ≡ r → r ≡ Some a → now b ≡ a
  one_found b r a is e at = same_Some (now b) a (sym (some_is b r is e) ∙ at)
