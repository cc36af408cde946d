-- Each folder has a walk.
use Rattle.std.proofs.Common.{◌≡◌, ◌⊎◌, ◌<◌, ◌+◌, ◌++◌, ℕ, zero, suc, true, List, [], ◌∷◌, length, map, Option, Some, None, Contains, All, refl, sym, ap, subst, ◌∙◌, inl, inr, arith}
use Rattle.std.specs.Prelude.{codes, drop, is_some}
use Rattle.std.specs.List.{list_any}
use Rattle.std.specs.FinMap as keys
use Rattle.std.specs.declared.cmp.Ordering.{Ordering}
use Rattle.std.specs.declared.cmp.Ordering.TheVariants.{Less, Equal, Greater}
use Rattle.std.specs.Ordering.{nat_cmp, ordering_reverse, eq_by_cmp, is_eq}
use Rattle.std.specs.Cmp.Lexicographic.{slice_cmp}
use Rattle.std.proofs.lemmas.Bool.{cases_lt, cases_eq}
use Rattle.std.proofs.lemmas.Cmp.{nat_list_cmp_total, tied_itself}
use Rattle.std.proofs.lemmas.List.{length-append}
use Rattle.std.proofs.lemmas.List.Folds.{Any-from_list_any}
use Rattle.slicer_ids.specs.declared.limits.LimitKind.TheVariants.{Depth, Files as FileCount}
use Rattle.slicer_ids.specs.Order.{BytesBefore}
use Rattle.slicer_ids.specs.Sets.{IsOrderedListOf}
use Rattle.edge_io.specs.Files.{Files, inside, HasNoSlash}
use Rattle.edge_io.specs.declared.host.Entry.{Entry}
use Rattle.edge_io.specs.declared.host.Entry.TheVariants.{Folder, File}
use Rattle.folder_form.specs.Walks.{IsClassFileName, HasFolder, IsNameIn, Walked, Found, TooMany, Walks, walks, WalksEach, none, class_file, too_many, other_file, folder_below, ends_below, too_deep}
use Rattle.slicer_ids.proofs.Ordering.{Decided, in_order}

-- ---- names by their bytes
equal_bytes : (a b : List ℕ) → slice_cmp nat_cmp a b ≡ Equal → a ≡ b
equal_bytes a b e = keys.slice_cmp-IsAntisymmetric keys.nat_cmp-IsAntisymmetric a b e

one_first : (a b : List ℕ) → BytesBefore a b ⊎ ((a ≡ b) ⊎ BytesBefore b a)
one_first a b = by_result (slice_cmp nat_cmp a b) refl
  where
    by_result : (r : Ordering) → slice_cmp nat_cmp a b ≡ r → BytesBefore a b ⊎ ((a ≡ b) ⊎ BytesBefore b a)
    by_result Less e = inl e
    by_result Equal e = inr (inl (equal_bytes a b e))
    by_result Greater e = inr (inr (nat_list_cmp_total.antisymm b a ∙ ap ordering_reverse e))

-- ---- whether bytes have a slash, and end in .class
not_in : (b : ℕ) (bytes : List ℕ) → (b ≡ 47 → ⊥) → (Contains bytes 47 → ⊥) → Contains (b ∷ bytes) 47 → ⊥
not_in b bytes other never (zero, lt, e) = other e
not_in b bytes other never (suc k, lt, e) = never (k, omega (arith, lt), e)

has_slash : (bytes : List ℕ) → Decided (Contains bytes 47)
has_slash [] = inr (λ c. absurd (omega (arith, c.1)))
has_slash (b ∷ bytes) = elim (cases_eq b 47) [
  | inl e ↦ inl (0, omega arith, e)
  | inr other ↦ elim (has_slash bytes) [ inl c ↦ inl (suc c.0, omega (arith, c.1), c.2) | inr never ↦ inr (not_in b bytes other never) ]
]

same_bytes : (a b : List ℕ) → Decided (a ≡ b)
same_bytes a b = by_result (slice_cmp nat_cmp a b) refl
  where
    by_result : (r : Ordering) → slice_cmp nat_cmp a b ≡ r → Decided (a ≡ b)
    by_result Less e = inr (λ same. absurd (cc (sym e ∙ ap (λ x. slice_cmp nat_cmp x b) same ∙ tied_itself nat_list_cmp_total b)))
    by_result Equal e = inl (equal_bytes a b e)
    by_result Greater e = inr (λ same. absurd (cc (sym e ∙ ap (λ x. slice_cmp nat_cmp x b) same ∙ tied_itself nat_list_cmp_total b)))

abbrev tail : List ℕ → List ℕ
tail [] = []
tail (x ∷ xs) = xs

no_stem : (x : ℕ) (rest : List ℕ) → (x ∷ rest ≡ codes ".class" → ⊥) → (IsClassFileName rest → ⊥) → IsClassFileName (x ∷ rest) → ⊥
no_stem x rest other never ([], e) = other e
no_stem x rest other never (y ∷ stem, e) = never (stem, ap tail e)

is_class_name : (name : List ℕ) → Decided (IsClassFileName name)
is_class_name [] = inr (λ h. omega (arith, ap (λ (xs : List ℕ). length xs) h.1, length-append h.0 (codes ".class")))
is_class_name (x ∷ rest) = elim (same_bytes (x ∷ rest) (codes ".class")) [
  | inl e ↦ inl ([], e)
  | inr other ↦ elim (is_class_name rest) [ inl h ↦ inl (x ∷ h.0, ap (λ z. x ∷ z) h.1) | inr never ↦ inr (no_stem x rest other never) ]
]

-- ---- the names in a folder
equal_of : (r : Ordering) → is_eq r ≡ true → r ≡ Equal
equal_of Less e = absurd (cc e)
equal_of Equal e = refl
equal_of Greater e = absurd (cc e)

found_in : (q : List ℕ) (ks : List (List ℕ)) → list_any (eq_by_cmp (slice_cmp nat_cmp) q) ks ≡ true → Contains ks q
found_in q ks e =
    let (k, x, lt, at, passes) = Any-from_list_any (eq_by_cmp (slice_cmp nat_cmp) q) ks e in
    let same : x ≡ q = sym (equal_bytes q x (equal_of (slice_cmp nat_cmp q x) passes)) in
    subst (Contains ks) same (k, lt, at)

contains_image : {A B : Type 0} (f : A → B) (xs : List A) (x : A) → Contains xs x → Contains (map f xs) (f x)
contains_image f [] x c = absurd (omega (arith, c.1))
contains_image f (y ∷ xs) x (zero, lt, e) = (0, omega arith, ap f e)
contains_image f (y ∷ xs) x (suc k, lt, e) = let c = contains_image f xs x (k, omega (arith, lt), e) in (suc c.0, omega (arith, c.1), c.2)

name_of : (folder name : List ℕ) → drop (suc (length folder)) (inside folder name) ≡ name
name_of [] name = refl
name_of (x ∷ folder) name = name_of folder name

module _ (m : Files) where
  names_below : List ℕ → List (List ℕ)
  names_below folder = map (drop (suc (length folder))) (keys.keys m)

  there : (folder name : List ℕ) (e : Entry) → keys.get m (inside folder name) ≡ Some e → Contains (names_below folder) name
  unfolding names_below
  there folder name e at =
      let known : keys.contains_key m (inside folder name) ≡ true = ap (λ o. is_some o) at in
      let key = found_in (inside folder name) (keys.keys m) (sym (keys.contains_key-keys m (inside folder name)) ∙ known) in
      subst (Contains (map (drop (suc (length folder))) (keys.keys m))) (name_of folder name) (contains_image (drop (suc (length folder))) (keys.keys m) (inside folder name) key)

  is_below : (folder name : List ℕ) → IsNameIn m folder name → Contains (names_below folder) name
  is_below folder name (inl h) = there folder name h.there.0 h.there.1
  is_below folder name (inr h) = there folder name h.there.0 h.there.1

  is_name : (folder name : List ℕ) → Decided (IsNameIn m folder name)
  is_name folder name = elim (has_slash name) [
    | inl slash ↦ inr (λ h. elim h [ inl f ↦ f.direct slash | inr f ↦ f.direct slash ])
    | inr plain ↦ by_entry plain (keys.get m (inside folder name)) refl
  ]
    where
      by_entry : HasNoSlash name → (o : Option Entry) → keys.get m (inside folder name) ≡ o → Decided (IsNameIn m folder name)
      by_entry plain None e = inr (λ h. elim h [ inl f ↦ absurd (cc (sym e ∙ f.there.1)) | inr f ↦ absurd (cc (sym e ∙ f.there.1)) ])
      by_entry plain (Some Folder) e = inl (inl (record { there = (Folder, e, refl); direct = plain }))
      by_entry plain (Some (File bytes)) e = inl (inr (record { there = (File bytes, e, refl); direct = plain }))

  some_names : (folder : List ℕ) → (names : List (List ℕ)) × IsOrderedListOf BytesBefore names (IsNameIn m folder)
  some_names folder = in_order BytesBefore nat_list_cmp_total.trans one_first (IsNameIn m folder) (names_below folder) (λ name c. is_name folder name) (is_below folder)

  -- ---- the walk, where each folder below has one
  abbrev Below : ℕ → Type 0
  Below depth = depth < 64 → (sub : List ℕ) (before : List (List ℕ)) → (end : Walked) × Walks m (suc depth) sub before end

  module _ (depth : ℕ) (folder : List ℕ) (below : Below depth) where
    abbrev Each : List (List ℕ) → List (List ℕ) → Type 0
    Each names before = (end : Walked) × WalksEach m depth folder names before end

    each : (names : List (List ℕ)) → All (IsNameIn m folder) names → (before : List (List ℕ)) → Each names before
    each [] all before = (Found before, none)
    each (name ∷ names) all before =
        let go : (bs : List (List ℕ)) → Each names bs = each names (λ k d lt. all (suc k) d (omega (arith, lt))) in
        elim (all 0 name (omega arith)) [
          | inl f ↦ elim (cases_lt depth 64) [
            | inl lt ↦ let w = below lt (inside folder name) before in by_end go f lt w.0 w.1
            | inr deep ↦ (TooMany Depth 65, too_deep f (λ lt. omega (arith, deep, lt)))
          ]
          | inr f ↦ elim (is_class_name name) [
            | inl c ↦ elim (cases_lt (length before) 16384) [
              | inl lt ↦ let w = go (before ++ inside folder name ∷ []) in (w.0, class_file f c lt w.1)
              | inr full ↦ (TooMany FileCount 16385, too_many f c (λ lt. omega (arith, full, lt)))
            ]
            | inr other ↦ let w = go before in (w.0, other_file f other w.1)
          ]
        ]
      where
        by_end : {name : List ℕ} {names before : List (List ℕ)} → ((bs : List (List ℕ)) → Each names bs) → HasFolder m folder name → depth < 64
            → (end : Walked) → Walks m (suc depth) (inside folder name) before end → Each (name ∷ names) before
        by_end go f lt (Found more) w = let v = go more in (v.0, folder_below f lt w v.1)
        by_end go f lt (TooMany kind count) w = (TooMany kind count, ends_below f lt w)

  some_walk : (left depth : ℕ) → depth + left ≡ 64 → (folder : List ℕ) (before : List (List ℕ)) → (end : Walked) × Walks m depth folder before end
  some_walk zero depth e folder before =
      let (names, are) = some_names folder in
      let w = each depth folder (λ lt sub bs. absurd (omega (arith, lt, e))) names are.each before in
      (w.0, walks are w.1)
  some_walk (suc left) depth e folder before =
      let (names, are) = some_names folder in
      let w = each depth folder (λ lt sub bs. some_walk left (suc depth) (omega (arith, e)) sub bs) names are.each before in
      (w.0, walks are w.1)

  pub from_here : (folder : List ℕ) → (end : Walked) × Walks m 0 folder [] end
  from_here folder = some_walk 64 0 (omega arith) folder []
