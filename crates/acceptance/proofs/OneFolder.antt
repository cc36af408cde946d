-- A folder has one list of class files, or one file that is refused first.
use Rattle.std.proofs.Common.{◌≡◌, ℕ, List, [], ◌∷◌, ◌++◌, refl, sym, subst, ◌∙◌}
use Rattle.edge_io.specs.Files.{Files, inside}
use Rattle.class_form.specs.declared.class_file.ClassFile.{ClassFile}
use Rattle.class_form.proofs.ClassLaws.{one_value}
use Rattle.folder_form.specs.Walks.{Walked, Found, WalksFolder}
use Rattle.folder_form.specs.Reading.{Read, Contents, ReadsAll}
use Rattle.body_rules.specs.Methods.{IsSound}
use Rattle.body_rules.specs.Refused.{Refuses}
use Rattle.body_rules.proofs.OneLine.{not_refused, one_line}
use Rattle.acceptance.specs.Classes.{HasFiles, AreSound, none, file, IsFirstRefused, here, later, AreClasses}

pub sound_once : (contents : List (List ℕ)) (a b : List ClassFile) → AreSound contents a → AreSound contents b → a ≡ b
sound_once _ _ _ none none = refl
sound_once _ _ _ (file {bytes} {c} {contents} {files} s r) (file {c = d} {files = others} t q) =
    cc (one_value bytes c d s.octets s.spells t.spells, sound_once contents files others r q)

pub sound_not_refused : (folder : List ℕ) (paths contents : List (List ℕ)) (files : List ClassFile) (line : List ℕ) → AreSound contents files → IsFirstRefused folder paths contents line → ⊥
sound_not_refused folder paths _ _ line none refused = elim refused [ ]
sound_not_refused folder _ _ _ line (file {bytes} {c} s r) (here {below} e f) = not_refused below bytes line c s f
sound_not_refused folder _ _ _ line (file {contents} {files} s r) (later {paths} t q) = sound_not_refused folder paths contents files line r q

-- what stands behind a folder's path and a slash is one name
below_once : (folder a b : List ℕ) → inside folder a ≡ inside folder b → a ≡ b
below_once [] a b e = cc e
below_once (x ∷ folder) a b e = below_once folder a b (cc e)

pub refused_once : (folder : List ℕ) (paths contents : List (List ℕ)) (a b : List ℕ) → IsFirstRefused folder paths contents a → IsFirstRefused folder paths contents b → a ≡ b
refused_once folder _ _ a b (here {below} {bytes} e f) (here {below = other} g h) =
    one_line below bytes f (subst (λ z. Refuses z bytes b) (sym (below_once folder below other (sym e ∙ g))) h)
refused_once folder _ _ a b (here {below} {bytes} e f) (later {c} s q) = absurd (not_refused below bytes a c s f)
refused_once folder _ _ a b (later {bytes} {c} s r) (here {below} e f) = absurd (not_refused below bytes b c s f)
refused_once folder _ _ a b (later {paths} {contents} s r) (later t q) = refused_once folder paths contents a b r q

found_is : (a b : List (List ℕ)) → Found a ≡ Found b → a ≡ b
found_is a b e = cc e

contents_is : (a b : List (List ℕ)) → Contents a ≡ Contents b → a ≡ b
contents_is a b e = cc e

module _ (m : Files) (folder : List ℕ)
    (walks : (a b : Walked) → WalksFolder m folder a → WalksFolder m folder b → a ≡ b)
    (reads : (paths : List (List ℕ)) (a b : Read) → ReadsAll m paths a → ReadsAll m paths b → a ≡ b) where
  pub files_once : (paths contents others rest : List (List ℕ)) → HasFiles m folder paths contents → HasFiles m folder others rest → (paths ≡ others) × (contents ≡ rest)
  files_once paths contents others rest h g =
      let same = found_is paths others (walks (Found paths) (Found others) h.walk g.walk) in
      (same, contents_is contents rest (reads paths (Contents contents) (Contents rest) h.reading (subst (λ ps. ReadsAll m ps (Contents rest)) (sym same) g.reading)))

  pub classes_once : (a b : List ClassFile) → AreClasses m folder a → AreClasses m folder b → a ≡ b
  classes_once a b (paths, contents, h, s) (others, rest, g, t) =
      let same = files_once paths contents others rest h g in
      sound_once contents a b s (subst (λ cs. AreSound cs b) (sym same.1) t)

  pub classes_not_refused : (a : List ClassFile) (paths contents : List (List ℕ)) (line : List ℕ) → AreClasses m folder a → HasFiles m folder paths contents → IsFirstRefused folder paths contents line → ⊥
  classes_not_refused a paths contents line (others, rest, g, t) h f =
      let same = files_once paths contents others rest h g in
      sound_not_refused folder paths contents a line (subst (λ cs. AreSound cs a) (sym same.1) t) f

  pub refusal_once : (paths contents others rest : List (List ℕ)) (a b : List ℕ) → HasFiles m folder paths contents → HasFiles m folder others rest
      → IsFirstRefused folder paths contents a → IsFirstRefused folder others rest b → a ≡ b
  refusal_once paths contents others rest a b h g p q =
      let same = files_once paths contents others rest h g in
      refused_once folder paths contents a b p (subst (λ ps. IsFirstRefused folder ps contents b) (sym same.0) (subst (λ cs. IsFirstRefused folder others cs b) (sym same.1) q))
