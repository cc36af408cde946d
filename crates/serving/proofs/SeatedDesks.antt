-- Desks that are opened one after another.
use Rattle.std.proofs.Common.{◌≡◌, ◌⊎◌, ◌<◌, ◌≤◌, ◌+◌, ◌++◌, ◌∷◌, [], ℕ, zero, suc, Bool, true, nat_eq, List, All, inl, inr, length, map, take, length-append, refl, sym, ap, subst, ◌∙◌, append_assoc, append-nil, arith}
use Rattle.std.specs.List.{zip}
use Rattle.std.proofs.lemmas.Bool.{eqb-true}
use Rattle.std.proofs.lemmas.List.{take_all}
use Rattle.sessions.specs.declared.shared.Shared.{Shared}
use Rattle.sessions.specs.declared.desk.Desk.{Desk}
use Rattle.sessions.specs.Desks.{IsFresh}
use Rattle.serving.specs.Seated.{source_at, sink_at, AreSeated, IsNext}

pub map_snoc : {A B : Type 0} (f : A → B) (xs : List A) (x : A) → map f (xs ++ x ∷ []) ≡ map f xs ++ f x ∷ []
map_snoc f [] x = refl
map_snoc f (y ∷ xs) x = ap (λ ys. f y ∷ ys) (map_snoc f xs x)

pub map_length : {A B : Type 0} (f : A → B) (xs : List A) → length (map f xs) ≡ length xs
map_length f [] = refl
map_length f (y ∷ xs) = ap suc (map_length f xs)

all_snoc : {A : Type 0} (P : A → Type 0) (xs : List A) (x : A) → All P xs → P x → All P (xs ++ x ∷ [])
all_snoc P [] x all p zero d lt = p
all_snoc P [] x all p (suc k) d lt = absurd (omega (arith, lt))
all_snoc P (y ∷ xs) x all p zero d lt = all 0 d (omega arith)
all_snoc P (y ∷ xs) x all p (suc k) d lt = all_snoc P xs x (λ i e less. all (suc i) e (omega (arith, less))) p k d (omega (arith, lt))

take_snoc : {A : Type 0} (xs : List A) (n : ℕ) (x : A) → n ≤ length xs → take n (xs ++ x ∷ []) ≡ take n xs
take_snoc xs zero x le = refl
take_snoc [] (suc n) x le = absurd (omega (arith, le))
take_snoc (y ∷ xs) (suc n) x le = ap (λ ys. y ∷ ys) (take_snoc xs n x (omega (arith, le)))

-- ---- pairs of a source and a sink

abbrev pub first_of : {A B : Type 0} → A × B → A
first_of p = p.0

abbrev pub second_of : {A B : Type 0} → A × B → B
second_of p = p.1

zip_firsts : {A B : Type 0} (xs : List A) (ys : List B) → length xs ≡ length ys → map first_of (zip xs ys) ≡ xs
zip_firsts [] ys e = refl
zip_firsts (x ∷ xs) [] e = absurd (omega (arith, e))
zip_firsts (x ∷ xs) (y ∷ ys) e = ap (λ zs. x ∷ zs) (zip_firsts xs ys (omega (arith, e)))

zip_seconds : {A B : Type 0} (xs : List A) (ys : List B) → length xs ≡ length ys → map second_of (zip xs ys) ≡ ys
zip_seconds [] [] e = refl
zip_seconds [] (y ∷ ys) e = absurd (omega (arith, e))
zip_seconds (x ∷ xs) [] e = absurd (omega (arith, e))
zip_seconds (x ∷ xs) (y ∷ ys) e = ap (λ zs. y ∷ zs) (zip_seconds xs ys (omega (arith, e)))

pub zip_length : {A B : Type 0} (xs : List A) (ys : List B) → length xs ≡ length ys → length (zip xs ys) ≡ length ys
zip_length [] [] e = refl
zip_length [] (y ∷ ys) e = absurd (omega (arith, e))
zip_length (x ∷ xs) [] e = absurd (omega (arith, e))
zip_length (x ∷ xs) (y ∷ ys) e = ap suc (zip_length xs ys (omega (arith, e)))

-- the pairs, each taken apart and put together
same_pairs : {A B : Type 0} (ps : List (A × B)) → map (λ (p : A × B). (p.0, p.1)) ps ≡ ps
same_pairs [] = refl
same_pairs (p ∷ ps) = ap (λ qs. p ∷ qs) (same_pairs ps)

-- ---- desks

pub is_nil : {A : Type 0} (xs : List A) (n : ℕ) (b : Bool) → b ≡ nat_eq n 0 → b ≡ true → n ≡ length xs → xs ≡ []
is_nil [] n b e t many = refl
is_nil (x ∷ xs) n b e t many = absurd (let z : n ≡ 0 = eqb-true n 0 (sym e ∙ t) in omega (arith, z, many))

-- the desks and what is kept back are as many as the sinks
pub seated_many : {S K : Type 0} (sh : Shared) (sources : List S) (sinks : List K) (desks : List (Desk S K)) (back : List K) → AreSeated sh sources sinks desks back → length desks + length back ≡ length sinks
seated_many sh sources sinks desks back h = omega (arith, map_length sink_at desks, length-append (map sink_at desks) back, ap length h.sinks_of)

module _ {S K : Type 0} (sh : Shared) (sources : List S) (sinks : List K) (source : S) (sink : K) (desks desks' : List (Desk S K)) (back back' : List K) where
  pub seated_next : AreSeated sh sources sinks desks back → length sources ≡ length sinks → IsNext sh source sink desks back desks' back' → AreSeated sh (sources ++ source ∷ []) (sinks ++ sink ∷ []) desks' back'
  seated_next h pairs (inr (kept, same)) =
      let few : length desks ≤ length sources = omega (arith, seated_many sh sources sinks desks back h, pairs) in
      record {
        fresh = subst (All (IsFresh sh)) (sym same) h.fresh;
        sources_of = ap (map source_at) same ∙ (h.sources_of ∙ (sym (take_snoc sources (length desks) source few) ∙ ap (λ (ds : List (Desk S K)). take (length ds) (sources ++ source ∷ [])) (sym same)));
        sinks_of = ap (λ (ds : List (Desk S K)). map sink_at ds ++ back') same
            ∙ (ap (λ (bs : List K). map sink_at desks ++ bs) kept ∙ (sym (append_assoc (map sink_at desks) back (sink ∷ [])) ∙ ap (λ (ks : List K). ks ++ sink ∷ []) h.sinks_of));
      }
  seated_next h pairs (inl (d, empty, none', added, fresh, of_source, of_sink)) =
      let many : length desks ≡ length sources = omega (arith, seated_many sh sources sinks desks back h, pairs, ap length empty) in
      let before : map source_at desks ≡ sources = h.sources_of ∙ take_all (length desks) sources (omega (arith, many)) in
      let whole : length (desks ++ d ∷ []) ≡ length (sources ++ source ∷ []) = omega (arith, many, length-append desks (d ∷ []), length-append sources (source ∷ [])) in
      record {
        fresh = subst (All (IsFresh sh)) (sym added) (all_snoc (IsFresh sh) desks d h.fresh fresh);
        sources_of = ap (map source_at) added
            ∙ (map_snoc source_at desks d ∙ (ap (λ (ss : List S). ss ++ d.source ∷ []) before ∙ (ap (λ (s : S). sources ++ s ∷ []) of_source
            ∙ (sym (take_all (length (desks ++ d ∷ [])) (sources ++ source ∷ []) (omega (arith, whole))) ∙ ap (λ (ds : List (Desk S K)). take (length ds) (sources ++ source ∷ [])) (sym added)))));
        sinks_of = ap (λ (ds : List (Desk S K)). map sink_at ds ++ back') added
            ∙ (ap (λ (bs : List K). map sink_at (desks ++ d ∷ []) ++ bs) none' ∙ (append-nil (map sink_at (desks ++ d ∷ [])) ∙ (map_snoc sink_at desks d
            ∙ (ap (λ (k : K). map sink_at desks ++ k ∷ []) of_sink ∙ ap (λ (ks : List K). ks ++ sink ∷ []) (sym (append-nil (map sink_at desks)) ∙ (ap (λ (bs : List K). map sink_at desks ++ bs) (sym empty) ∙ h.sinks_of))))));
      }

-- no desk yet
pub seated_none : {S K : Type 0} (sh : Shared) (desks : List (Desk S K)) (back : List K) → desks ≡ [] → back ≡ [] → AreSeated sh [] [] desks back
seated_none {S} {K} sh desks back e f = record {
  fresh = subst (All (IsFresh sh)) (sym e) (λ k d lt. absurd (omega (arith, lt)));
  sources_of = ap (map source_at) e ∙ ap (λ (ds : List (Desk S K)). take (length ds) []) (sym e);
  sinks_of = ap (λ (ds : List (Desk S K)). map sink_at ds ++ back) e ∙ f;
}

module _ {S K : Type 0} (sh : Shared) (pairs : List (S × K)) (desks desks' : List (Desk S K)) (back back' : List K) (so : AreSeated sh (map first_of pairs) (map second_of pairs) desks back) where
  -- so far there are as many desks and sinks kept back as pairs
  pub pairs_many : length desks + length back ≡ length pairs
  pairs_many = omega (arith, map_length sink_at desks, length-append (map sink_at desks) back, ap length so.sinks_of, map_length second_of pairs)

  -- one pair more
  pub pair_next : (p : S × K) → IsNext sh p.0 p.1 desks back desks' back' → AreSeated sh (map first_of (pairs ++ p ∷ [])) (map second_of (pairs ++ p ∷ [])) desks' back'
  pair_next p next =
      subst (λ (ss : List S). AreSeated sh ss (map second_of (pairs ++ p ∷ [])) desks' back') (sym (map_snoc first_of pairs p))
      (subst (λ (ks : List K). AreSeated sh (map first_of pairs ++ p.0 ∷ []) ks desks' back') (sym (map_snoc second_of pairs p))
      (seated_next sh (map first_of pairs) (map second_of pairs) p.0 p.1 desks desks' back back' so (map_length first_of pairs ∙ sym (map_length second_of pairs)) next))

  -- all pairs of two lists
  pub pairs_all : (sources : List S) (sinks : List K) → length sources ≡ length sinks → map (λ (p : S × K). (p.0, p.1)) pairs ≡ zip sources sinks → AreSeated sh sources sinks desks back
  pairs_all sources sinks many e =
      let is : pairs ≡ zip sources sinks = sym (same_pairs pairs) ∙ e in
      subst (λ (ss : List S). AreSeated sh ss sinks desks back) (ap (map first_of) is ∙ zip_firsts sources sinks many)
      (subst (λ (ks : List K). AreSeated sh (map first_of pairs) ks desks back) (ap (map second_of) is ∙ zip_seconds sources sinks many) so)
