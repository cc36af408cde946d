-- Lists of constraints that grow by one item.
use Rattle.std.proofs.Common.{◌≡◌, ◌⊎◌, List, [], ◌∷◌, ◌++◌, Contains, Option, Some, None, inl, inr, refl, sym, ap, subst}
use Rattle.std.proofs.lemmas.List.Elements.{Contains-push, Contains-push_cases}
use Rattle.std.proofs.lemmas.Option.{same_Some}
use Rattle.worklists.specs.Growth.{Grows, FromOne}
use Rattle.worklists.proofs.Growing.{Grows-none, Grows-same, Grows-then}
use Rattle.constraint_rules.specs.One.{IsOne, IsFound}

pub one_more : {A : Type 0} (old new : List A) (a : A) → new ≡ old ++ a ∷ [] → Grows old new (λ x. x ≡ a)
one_more old new a e = record {
  front = (a ∷ [], e);
  all = λ x same. subst (Contains new) (sym same) (subst (λ zs. Contains zs a) (sym e) (Contains-push old a));
  only = λ x c. elim (Contains-push_cases old a x (subst (λ zs. Contains zs x) e c)) [ inl o ↦ inl o | inr is ↦ inr (sym is) ];
}

pub found_more : {A : Type 0} (old new : List A) (a : A) → Grows old new (λ x. x ≡ a) → Grows old new (IsFound (Some a))
found_more old new a g = Grows-same old new (λ x. x ≡ a) (IsFound (Some a)) (λ x e. ap (λ z. Some z) (sym e)) (λ x e. sym (same_Some a x e)) g

pub none_found : {A : Type 0} (xs : List A) → Grows xs xs (IsFound None)
none_found xs = Grows-none xs (IsFound None) (λ x e. cc e)

-- .. by the one thing of which P holds
pub one_grown : {A : Type 0} (P : A → Type 0) (o : Option A) (old new : List A) → IsOne P o → Grows old new (IsFound o) → Grows old new P
one_grown P o old new one g = Grows-same old new (IsFound o) P (λ x e. (one x).1 e) (λ x h. (one x).0 h) g

-- .. by one set after another
pub both_grown : {A : Type 0} (P Q : A → Type 0) (old mid new : List A) → Grows old mid P → Grows mid new Q → Grows old new (λ x. P x ⊎ Q x)
both_grown P Q old mid new g h = Grows-then old mid new P Q (λ x. P x ⊎ Q x) (λ x r. r) (λ x r. r) g h
