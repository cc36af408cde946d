-- The walk of a folder has one end.
use Rattle.std.proofs.Common.{◌≡◌, ℕ, suc, List, [], ◌∷◌, ◌++◌, refl, sym, ap, subst, ◌∙◌}
use Rattle.std.proofs.lemmas.Option.{same_Some}
use Rattle.slicer_ids.specs.Order.{BytesBefore}
use Rattle.slicer_ids.proofs.Ordered.{one_ordered}
use Rattle.slicer_ids.proofs.Texts.{bytes_asym}
use Rattle.edge_io.specs.Files.{Files, inside, is_folder}
use Rattle.folder_form.specs.Walks.{HasFolder, HasFileNamed, IsNameIn, Walked, Found, TooMany, Walks, walks, WalksEach, none, class_file, too_many, other_file, folder_below, ends_below, too_deep}

found_are : (a b : List (List ℕ)) → Found a ≡ Found b → a ≡ b
found_are a b e = cc e

module _ (m : Files) where
  -- what stands there is a folder or a file
  not_both : (folder name : List ℕ) → HasFolder m folder name → HasFileNamed m folder name → ⊥
  not_both folder name h g =
      let same : h.there.0 ≡ g.there.0 = same_Some h.there.0 g.there.0 (sym h.there.1 ∙ g.there.1) in
      absurd (cc (h.there.2 ∙ ap is_folder same ∙ sym g.there.2))

  mutual
    one_walk : (depth : ℕ) (folder : List ℕ) (before : List (List ℕ)) (a b : Walked) → Walks m depth folder before a → Walks m depth folder before b → a ≡ b
    one_walk depth folder before a b (walks {names} h r) (walks {names = others} g q) =
        let same = one_ordered BytesBefore (IsNameIn m folder) names others (λ x y p o. bytes_asym x y) h g in
        one_each depth folder names before a b r (subst (λ ns. WalksEach m depth folder ns before b) (sym same) q)

    one_each : (depth : ℕ) (folder : List ℕ) (names before : List (List ℕ)) (a b : Walked) → WalksEach m depth folder names before a → WalksEach m depth folder names before b → a ≡ b
    one_each depth folder _ before _ _ none none = refl
    one_each depth folder _ before _ _ (class_file f c n r) (class_file {names} {end = b} g d k q) = one_each depth folder names (before ++ inside folder _ ∷ []) _ b r q
    one_each depth folder _ before _ _ (class_file f c n r) (too_many g d k) = absurd (k n)
    one_each depth folder _ before _ _ (class_file f c n r) (other_file g d q) = absurd (d c)
    one_each depth folder _ before _ _ (class_file {name} f c n r) (folder_below g k q s) = absurd (not_both folder name g f)
    one_each depth folder _ before _ _ (class_file {name} f c n r) (ends_below g k q) = absurd (not_both folder name g f)
    one_each depth folder _ before _ _ (class_file {name} f c n r) (too_deep g k) = absurd (not_both folder name g f)
    one_each depth folder _ before _ _ (too_many f c n) (class_file g d k q) = absurd (n k)
    one_each depth folder _ before _ _ (too_many f c n) (too_many g d k) = refl
    one_each depth folder _ before _ _ (too_many f c n) (other_file g d q) = absurd (d c)
    one_each depth folder _ before _ _ (too_many {name} f c n) (folder_below g k q s) = absurd (not_both folder name g f)
    one_each depth folder _ before _ _ (too_many {name} f c n) (ends_below g k q) = absurd (not_both folder name g f)
    one_each depth folder _ before _ _ (too_many {name} f c n) (too_deep g k) = absurd (not_both folder name g f)
    one_each depth folder _ before _ _ (other_file f c r) (class_file g d k q) = absurd (c d)
    one_each depth folder _ before _ _ (other_file f c r) (too_many g d k) = absurd (c d)
    one_each depth folder _ before a _ (other_file {names} f c r) (other_file {end = b} g d q) = one_each depth folder names before a b r q
    one_each depth folder _ before _ _ (other_file {name} f c r) (folder_below g k q s) = absurd (not_both folder name g f)
    one_each depth folder _ before _ _ (other_file {name} f c r) (ends_below g k q) = absurd (not_both folder name g f)
    one_each depth folder _ before _ _ (other_file {name} f c r) (too_deep g k) = absurd (not_both folder name g f)
    one_each depth folder _ before _ _ (folder_below {name} f n r t) (class_file g d k q) = absurd (not_both folder name f g)
    one_each depth folder _ before _ _ (folder_below {name} f n r t) (too_many g d k) = absurd (not_both folder name f g)
    one_each depth folder _ before _ _ (folder_below {name} f n r t) (other_file g d q) = absurd (not_both folder name f g)
    one_each depth folder _ before a _ (folder_below {name} {names} {more} f n r t) (folder_below {more = others} {end = b} g k q s) =
        let same = found_are more others (one_walk (suc depth) (inside folder name) before (Found more) (Found others) r q) in
        one_each depth folder names more a b t (subst (λ ps. WalksEach m depth folder names ps b) (sym same) s)
    one_each depth folder _ before _ _ (folder_below {name} {more} f n r t) (ends_below {kind} {count} g k q) =
        absurd (cc (one_walk (suc depth) (inside folder name) before (Found more) (TooMany kind count) r q))
    one_each depth folder _ before _ _ (folder_below f n r t) (too_deep g k) = absurd (k n)
    one_each depth folder _ before _ _ (ends_below {name} f n r) (class_file g d k q) = absurd (not_both folder name f g)
    one_each depth folder _ before _ _ (ends_below {name} f n r) (too_many g d k) = absurd (not_both folder name f g)
    one_each depth folder _ before _ _ (ends_below {name} f n r) (other_file g d q) = absurd (not_both folder name f g)
    one_each depth folder _ before _ _ (ends_below {name} {kind} {count} f n r) (folder_below {more} g k q s) =
        absurd (cc (one_walk (suc depth) (inside folder name) before (TooMany kind count) (Found more) r q))
    one_each depth folder _ before _ _ (ends_below {name} {kind} {count} f n r) (ends_below {kind = kind2} {count = count2} g k q) =
        one_walk (suc depth) (inside folder name) before (TooMany kind count) (TooMany kind2 count2) r q
    one_each depth folder _ before _ _ (ends_below f n r) (too_deep g k) = absurd (k n)
    one_each depth folder _ before _ _ (too_deep {name} f n) (class_file g d k q) = absurd (not_both folder name f g)
    one_each depth folder _ before _ _ (too_deep {name} f n) (too_many g d k) = absurd (not_both folder name f g)
    one_each depth folder _ before _ _ (too_deep {name} f n) (other_file g d q) = absurd (not_both folder name f g)
    one_each depth folder _ before _ _ (too_deep f n) (folder_below g k q s) = absurd (n k)
    one_each depth folder _ before _ _ (too_deep f n) (ends_below g k q) = absurd (n k)
    one_each depth folder _ before _ _ (too_deep f n) (too_deep g k) = refl

  pub one_end : (folder : List ℕ) (a b : Walked) → Walks m 0 folder [] a → Walks m 0 folder [] b → a ≡ b
  one_end folder a b h g = one_walk 0 folder [] a b h g
