-- Lists in order that grow at their end.
use Rattle.std.proofs.Common.{◌≡◌, ℕ, ◌<◌, ◌+◌, List, [], ◌∷◌, ◌++◌, length, take, get_or, Contains, ◌⊎◌, inl, inr, subst, sym, arith}
use Rattle.std.specs.Prelude.{AllPairs}
use Rattle.std.proofs.lemmas.List.{take_more}
use Rattle.std.proofs.lemmas.List.Elements.{All-push, All-weaker, Contains-push, Contains-append_left, Contains-push_cases}
use Rattle.std.proofs.lemmas.List.Quantifiers.{all_pairs_push}
use Rattle.slicer_ids.specs.Sets.{IsOrderedListOf}

module _ {A : Type 0} (B : A → A → Type 0) where
  -- one member more, which comes after those before
  pub pushed : (xs : List A) (x : A) (P Q : A → Type 0) → IsOrderedListOf B xs P → ((y : A) → P y → B y x) → ((y : A) → P y → Q y) → Q x → ((y : A) → Q y → P y ⊎ (x ≡ y))
      → IsOrderedListOf B (xs ++ x ∷ []) Q
  pushed xs x P Q h before old new only =
      record {
        each = All-push Q xs x (All-weaker P Q old xs h.each) new;
        order = all_pairs_push B xs x h.order (λ k d lt. before (get_or xs k d) (h.each k d lt));
        whole = λ y q. elim (only y q) [
          | inl p ↦ Contains-append_left xs (x ∷ []) y (h.whole y p)
          | inr e ↦ subst (λ (z : A). Contains (xs ++ x ∷ []) z) e (Contains-push xs x)
        ];
      }

  -- the same members, said otherwise
  pub reworded : (xs : List A) (P Q : A → Type 0) → ((y : A) → P y → Q y) → ((y : A) → Q y → P y) → IsOrderedListOf B xs P → IsOrderedListOf B xs Q
  reworded xs P Q to from h = record { each = All-weaker P Q to xs h.each; order = h.order; whole = λ y q. h.whole y (from y q) }

  -- a set without members
  pub without : (xs : List A) (P : A → Type 0) → xs ≡ [] → ((y : A) → P y → ⊥) → IsOrderedListOf B xs P
  without xs P nil none =
      subst (λ (ys : List A). IsOrderedListOf B ys P) (sym nil) (record {
        each = λ k d lt. absurd (omega (arith, lt));
        order = λ i j d lt within. absurd (omega (arith, within));
        whole = λ y p. absurd (none y p);
      })
