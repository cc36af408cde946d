-- Items that each fit behind those before them.
use Rattle.std.proofs.Common.{◌≡◌, ℕ, zero, suc, ◌+◌, ◌<◌, List, [], ◌∷◌, ◌++◌, length, get_or, refl, sym, ap, subst, ◌∙◌, append_assoc, length-append, get_or-append-add, arith}
use Rattle.std.specs.List.{AllByRecursion}
use Rattle.std.specs.Prelude.{All, AllPairs}
use Rattle.std.proofs.lemmas.List.{append-nil}
use Rattle.std.proofs.lemmas.List.Elements.{All-from_recursion, recursion_from_All}
use Rattle.std.proofs.lemmas.List.Quantifiers.{all_pairs_push}
use Rattle.std.proofs.Math.ListN.{get_or-append}
use Rattle.byte_form.proofs.Agree.{Chain}

module _ {A : Type 0} (P : List A → A → Type 0) where
  chain_each : (Q : A → Type 0) → ((before : List A) (x : A) → P before x → Q x) → (xs before : List A) → Chain P before xs → AllByRecursion Q xs
  chain_each Q to [] before h = tt
  chain_each Q to (x ∷ xs) before h = (to before x h.0, chain_each Q to xs (before ++ x ∷ []) h.1)

  -- each fits by itself
  pub chain_all : (Q : A → Type 0) → ((before : List A) (x : A) → P before x → Q x) → (xs : List A) → Chain P [] xs → All Q xs
  chain_all Q to xs h = All-from_recursion Q xs (chain_each Q to xs [] h)

  chain_pairs_from : (R : A → A → Type 0) → ((before : List A) (x : A) → P before x → All (λ b. R b x) before) → (xs before : List A) → AllPairs R before → Chain P before xs → AllPairs R (before ++ xs)
  chain_pairs_from R to [] before first h = subst (AllPairs R) (sym (append-nil before)) first
  chain_pairs_from R to (x ∷ xs) before first h =
      let more = all_pairs_push R before x first (λ k d lt. to before x h.0 k d lt) in
      subst (AllPairs R) (append_assoc before (x ∷ []) xs) (chain_pairs_from R to xs (before ++ x ∷ []) more h.1)

  -- each fits with all before
  pub chain_pairs : (R : A → A → Type 0) → ((before : List A) (x : A) → P before x → All (λ b. R b x) before) → (xs : List A) → Chain P [] xs → AllPairs R xs
  chain_pairs R to xs h = chain_pairs_from R to xs [] (λ i j d lt within. absurd (omega arith)) h

  pairs_before : (R : A → A → Type 0) (before xs : List A) (x : A) → AllPairs R (before ++ x ∷ xs) → All (λ b. R b x) before
  pairs_before R before xs x h k d lt =
      let at_k : get_or (before ++ x ∷ xs) k d ≡ get_or before k d = get_or-append before (x ∷ xs) d k lt in
      let at_x : get_or (before ++ x ∷ xs) (length before + 0) d ≡ x = get_or-append-add before (x ∷ xs) 0 d in
      subst (λ b. R b x) at_k (subst (R (get_or (before ++ x ∷ xs) k d)) at_x (h k (length before + 0) d (omega arith) (omega (arith, length-append before (x ∷ xs)))))

  all_chain_from : (Q : A → Type 0) (R : A → A → Type 0) → ((before : List A) (x : A) → Q x → All (λ b. R b x) before → P before x) → (xs before : List A) → AllByRecursion Q xs → AllPairs R (before ++ xs) → Chain P before xs
  all_chain_from Q R to [] before each pairs = tt
  all_chain_from Q R to (x ∷ xs) before each pairs =
      (to before x each.0 (pairs_before R before xs x pairs), all_chain_from Q R to xs (before ++ x ∷ []) each.1 (subst (AllPairs R) (sym (append_assoc before (x ∷ []) xs)) pairs))

  pub all_chain : (Q : A → Type 0) (R : A → A → Type 0) → ((before : List A) (x : A) → Q x → All (λ b. R b x) before → P before x) → (xs : List A) → All Q xs → AllPairs R xs → Chain P [] xs
  all_chain Q R to xs each pairs = all_chain_from Q R to xs [] (recursion_from_All Q xs each) pairs

-- nothing is asked of what stands before
pub plain_chain : {A : Type 0} (Q : A → Type 0) (xs : List A) → All Q xs → Chain (λ _. Q) [] xs
plain_chain Q xs h = all_chain (λ _. Q) Q (λ _ _. Unit {0}) (λ before x q r. q) xs h (λ i j d lt within. tt)

pub plain_all : {A : Type 0} (Q : A → Type 0) (xs : List A) → Chain (λ _. Q) [] xs → All Q xs
plain_all Q xs h = chain_all (λ _. Q) Q (λ before x q. q) xs h
