-- Sinks that are closed one after another.
use Rattle.std.proofs.Common.{◌≡◌, ◌≢◌, ◌⊎◌, ◌++◌, ◌∷◌, [], ℕ, Bool, true, List, Option, Some, None, IfSome, inl, inr, length, slice_get, refl, sym, ap, subst, ◌∙◌, arith}
use Rattle.std.specs.Option.{option_map}
use Rattle.std.specs.FinMap as map_of
use Rattle.edge_io.specs.Files.{Files, HasFile, IsFile, KeepsOthers, file_set}
use Rattle.serving.specs.Ends.{AreApart, IsClosed, AreClosed, AreClosedOrKept}
use Rattle.serving.proofs.MadeOutputs.{set_there}
use Rattle.serving.proofs.Places.{snoc_cases, snoc_last, snoc_old, within}

-- what a host says of a close, by one word
pub closed_is : {K : Type 0} (written : K → Option (List ℕ)) (label : K → List ℕ) (s : K) (old new : Option Files) → IfSome (written s) (λ w. new ≡ option_map (λ m. file_set m (label s) w) old)
    → KeepsOthers (label s) old new → IsClosed written label s old new
closed_is written label s None new made others = tt
closed_is written label s (Some m) None made others = absurd others
closed_is written label s (Some m) (Some n) made others = (n, refl, others, by (written s) made)
  where
    by : (o : Option (List ℕ)) → IfSome o (λ w. Some n ≡ option_map (λ m. file_set m (label s) w) (Some m)) → IfSome o (λ w. HasFile n (label s) w)
    by None e = tt
    by (Some w) e = let same : n ≡ file_set m (label s) w = cc in subst (λ k. HasFile k (label s) w) (sym same) (set_there m (label s) w)

module _ {K : Type 0} (written : K → Option (List ℕ)) (label : K → List ℕ) where
  -- the next sink's label is none of those before it
  last_apart : (ys : List K) (s : K) → AreApart written label (ys ++ s ∷ []) → (k : ℕ) (t : K) → slice_get ys k ≡ Some t → label t ≢ label s
  last_apart ys s apart k t at e =
      let same = apart k (length ys) t s (snoc_old ys s k t at) (snoc_last ys s) e in
      let less = within ys k t at in
      omega (arith, same, less)

  module _ (m a : Files) (ys : List K) (s : K) (apart : AreApart written label (ys ++ s ∷ [])) where
    -- nothing was changed by the next close
    pub kept_same : AreClosedOrKept written label m ys a → AreClosedOrKept written label m (ys ++ s ∷ []) a
    kept_same h = record {
      others = λ path away. h.others path (λ k t at. away k t (snoc_old ys s k t at));
      there = λ k t bytes at w. by k t bytes w (snoc_cases ys s k t at);
    }
      where
        by : (k : ℕ) (t : K) (bytes : List ℕ) → written t ≡ Some bytes → (slice_get ys k ≡ Some t) ⊎ (s ≡ t) → (HasFile a (label t) bytes) ⊎ (map_of.get a (label t) ≡ map_of.get m (label t))
        by k t bytes w (inl at) = h.there k t bytes at w
        by k t bytes w (inr e) = inr (h.others (label t) (λ j u at f. last_apart ys s apart j u at (sym f ∙ ap label (sym e))))

    module _ (b : Files) (others : (path : List ℕ) → path ≢ label s → map_of.get b path ≡ map_of.get a path) (has : IfSome (written s) (λ w. HasFile b (label s) w)) where
      here : (t : K) (bytes : List ℕ) → written t ≡ Some bytes → s ≡ t → HasFile b (label t) bytes
      here t bytes w e = subst (λ u. HasFile b (label u) bytes) e (subst (λ (o : Option (List ℕ)). IfSome o (λ (v : List ℕ). HasFile b (label s) v)) (ap written e ∙ w) has)

      pub kept_more : AreClosedOrKept written label m ys a → AreClosedOrKept written label m (ys ++ s ∷ []) b
      kept_more h = record {
        others = λ path away. others path (away (length ys) s (snoc_last ys s)) ∙ h.others path (λ k t at. away k t (snoc_old ys s k t at));
        there = λ k t bytes at w. by k t bytes w (snoc_cases ys s k t at);
      }
        where
          by : (k : ℕ) (t : K) (bytes : List ℕ) → written t ≡ Some bytes → (slice_get ys k ≡ Some t) ⊎ (s ≡ t) → (HasFile b (label t) bytes) ⊎ (map_of.get b (label t) ≡ map_of.get m (label t))
          by k t bytes w (inr e) = inl (here t bytes w e)
          by k t bytes w (inl at) = old (h.there k t bytes at w)
            where
              same : map_of.get b (label t) ≡ map_of.get a (label t)
              same = others (label t) (last_apart ys s apart k t at)

              old : (HasFile a (label t) bytes) ⊎ (map_of.get a (label t) ≡ map_of.get m (label t)) → (HasFile b (label t) bytes) ⊎ (map_of.get b (label t) ≡ map_of.get m (label t))
              old (inl f) = inl (same ∙ f)
              old (inr e) = inr (same ∙ e)

      pub closed_more : AreClosed written label m ys a → AreClosed written label m (ys ++ s ∷ []) b
      closed_more h = record {
        others = λ path away. others path (away (length ys) s (snoc_last ys s)) ∙ h.others path (λ k t at. away k t (snoc_old ys s k t at));
        there = λ k t bytes at w. by k t bytes w (snoc_cases ys s k t at);
      }
        where
          by : (k : ℕ) (t : K) (bytes : List ℕ) → written t ≡ Some bytes → (slice_get ys k ≡ Some t) ⊎ (s ≡ t) → HasFile b (label t) bytes
          by k t bytes w (inr e) = here t bytes w e
          by k t bytes w (inl at) = others (label t) (last_apart ys s apart k t at) ∙ h.there k t bytes at w

  -- the sinks so far were closed, or some closes failed
  abbrev pub ClosedSoFar : Option Files → Option Files → List K → Bool → Type 0
  ClosedSoFar files now ys all = IfSome files (λ m. (after : Files) × (now ≡ Some after) × AreClosedOrKept written label m ys after × (all ≡ true → AreClosed written label m ys after))

  pub closed_none : (files now : Option Files) (all : Bool) → now ≡ files → ClosedSoFar files now [] all
  closed_none None now all e = tt
  closed_none (Some m) now all e = (
    m,
    e,
    record { others = λ path away. refl; there = λ k t bytes at w. absurd (omega (arith, within [] k t at)) },
    λ a. record { others = λ path away. refl; there = λ k t bytes at w. absurd (omega (arith, within [] k t at)) },
  )

  pub closed_next : (files now next : Option Files) (ys : List K) (s : K) (all all' : Bool) → AreApart written label (ys ++ s ∷ []) → ClosedSoFar files now ys all
      → (all' ≡ true → all ≡ true) → (all' ≡ true → IsClosed written label s now next) → (IsClosed written label s now next ⊎ (next ≡ now)) → ClosedSoFar files next (ys ++ s ∷ []) all'
  closed_next None now next ys s all all' apart so before closed kept = tt
  closed_next (Some m) now next ys s all all' apart (a, is, h, w) before closed kept = by kept
    where
      told : IsClosed written label s now next → IsClosed written label s (Some a) next
      told k = subst (λ (o : Option Files). IsClosed written label s o next) is k

      both : (b : Files) → next ≡ Some b → ((path : List ℕ) → path ≢ label s → map_of.get b path ≡ map_of.get a path) → IfSome (written s) (λ v. HasFile b (label s) v) → ClosedSoFar (Some m) next (ys ++ s ∷ []) all'
      both b e others has = (b, e, kept_more m a ys s apart b others has h, λ yes'. closed_more m a ys s apart b others has (w (before yes')))

      by : IsClosed written label s now next ⊎ (next ≡ now) → ClosedSoFar (Some m) next (ys ++ s ∷ []) all'
      by (inl k) = let c = told k in both c.0 c.1 c.2 c.3
      by (inr e) = (
        a,
        e ∙ is,
        kept_same m a ys s apart h,
        λ yes'. let c = told (closed yes') in
            let same : c.0 ≡ a = cc in
            closed_more m a ys s apart a (subst (λ (b : Files). (path : List ℕ) → path ≢ label s → map_of.get b path ≡ map_of.get a path) same c.2)
            (subst (λ (b : Files). IfSome (written s) (λ (v : List ℕ). HasFile b (label s) v)) same c.3) (w (before yes')),
      )

  -- the label of the next sink is a file still, where it was one
  pub file_still : (files now : Option Files) (ys : List K) (s : K) (all : Bool) → AreApart written label (ys ++ s ∷ []) → ClosedSoFar files now ys all
      → IfSome files (λ m. IsFile m (label s) → IfSome now (λ a. IsFile a (label s)))
  file_still None now ys s all apart so = tt
  file_still (Some m) now ys s all apart (a, is, h, w) = λ f.
      subst (λ (o : Option Files). IfSome o (λ (a : Files). IsFile a (label s))) (sym is) (f.0, h.others (label s) (λ k t at e. last_apart ys s apart k t at (sym e)) ∙ f.1)
