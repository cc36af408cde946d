-- The reading of files has one end.
use Rattle.std.proofs.Common.{◌≡◌, ◌+◌, ℕ, List, [], ◌∷◌, length, refl, sym, ap, subst, ◌∙◌, arith}
use Rattle.std.proofs.lemmas.Option.{same_Some}
use Rattle.edge_io.specs.Files.{Files, HasFile}
use Rattle.edge_io.specs.declared.host.Entry.{Entry}
use Rattle.edge_io.specs.declared.host.Entry.TheVariants.{Folder, File}
use Rattle.slicer_ids.specs.declared.limits.LimitKind.TheVariants.{TotalBytes}
use Rattle.folder_form.specs.Reading.{Read, Contents, TooLong, Reads, none, file, later, too_long, too_many}

abbrev bytes_in : Entry → List ℕ
bytes_in Folder = []
bytes_in (File bytes) = bytes

one_file : (m : Files) (path a b : List ℕ) → HasFile m path a → HasFile m path b → a ≡ b
one_file m path a b h g = ap bytes_in (same_Some (File a) (File b) (sym h ∙ g))

contents_are : (a b : List (List ℕ)) → Contents a ≡ Contents b → a ≡ b
contents_are a b e = cc e

module _ (m : Files) where
  -- the same files after the same bytes
  moved : (total : ℕ) (paths : List (List ℕ)) (a b : List ℕ) (end : Read) → a ≡ b → Reads m (total + length b) paths end → Reads m (total + length a) paths end
  moved total paths a b end e h = subst (λ z. Reads m (total + length z) paths end) (sym e) h

  pub one_reading : (total : ℕ) (paths : List (List ℕ)) (a b : Read) → Reads m total paths a → Reads m total paths b → a ≡ b
  one_reading total _ _ _ none none = refl
  one_reading total _ _ _ (file {path} {bytes} {paths} {rest} h s t r) (file {bytes = other} {rest = left} g u v q) =
      let e = one_file m path bytes other h g in
      let more = contents_are rest left (one_reading (total + length bytes) paths (Contents rest) (Contents left) r (moved total paths bytes other (Contents left) e q)) in
      ap (λ z. Contents (z ∷ rest)) e ∙ ap (λ z. Contents (other ∷ z)) more
  one_reading total _ _ _ (file {path} {bytes} {paths} {rest} h s t r) (later {bytes = other} {kind} {count} g u v q) =
      absurd (cc (one_reading (total + length bytes) paths (Contents rest) (TooLong kind count) r (moved total paths bytes other (TooLong kind count) (one_file m path bytes other h g) q)))
  one_reading total _ _ _ (file {path} {bytes} h s t r) (too_long {bytes = other} g u) = absurd (omega (arith, s, u, ap length (one_file m path bytes other h g)))
  one_reading total _ _ _ (file {path} {bytes} h s t r) (too_many {bytes = other} g u v) = absurd (omega (arith, t, v, ap length (one_file m path bytes other h g)))
  one_reading total _ _ _ (later {path} {bytes} {paths} {kind} {count} h s t r) (file {bytes = other} {rest = left} g u v q) =
      absurd (cc (one_reading (total + length bytes) paths (TooLong kind count) (Contents left) r (moved total paths bytes other (Contents left) (one_file m path bytes other h g) q)))
  one_reading total _ _ _ (later {path} {bytes} {paths} {kind} {count} h s t r) (later {bytes = other} {kind = kind2} {count = count2} g u v q) =
      one_reading (total + length bytes) paths (TooLong kind count) (TooLong kind2 count2) r (moved total paths bytes other (TooLong kind2 count2) (one_file m path bytes other h g) q)
  one_reading total _ _ _ (later {path} {bytes} h s t r) (too_long {bytes = other} g u) = absurd (omega (arith, s, u, ap length (one_file m path bytes other h g)))
  one_reading total _ _ _ (later {path} {bytes} h s t r) (too_many {bytes = other} g u v) = absurd (omega (arith, t, v, ap length (one_file m path bytes other h g)))
  one_reading total _ _ _ (too_long {path} {bytes} h s) (file {bytes = other} g u v q) = absurd (omega (arith, s, u, ap length (one_file m path bytes other h g)))
  one_reading total _ _ _ (too_long {path} {bytes} h s) (later {bytes = other} g u v q) = absurd (omega (arith, s, u, ap length (one_file m path bytes other h g)))
  one_reading total _ _ _ (too_long h s) (too_long g u) = refl
  one_reading total _ _ _ (too_long {path} {bytes} h s) (too_many {bytes = other} g u v) = absurd (omega (arith, s, u, ap length (one_file m path bytes other h g)))
  one_reading total _ _ _ (too_many {path} {bytes} h s t) (file {bytes = other} g u v q) = absurd (omega (arith, t, v, ap length (one_file m path bytes other h g)))
  one_reading total _ _ _ (too_many {path} {bytes} h s t) (later {bytes = other} g u v q) = absurd (omega (arith, t, v, ap length (one_file m path bytes other h g)))
  one_reading total _ _ _ (too_many {path} {bytes} h s t) (too_long {bytes = other} g u) = absurd (omega (arith, s, u, ap length (one_file m path bytes other h g)))
  one_reading total _ _ _ (too_many {path} {bytes} h s t) (too_many {bytes = other} g u v) = ap (λ z. TooLong TotalBytes (total + length z)) (one_file m path bytes other h g)
