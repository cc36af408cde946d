-- Files that were read, one after another.
use Rattle.std.proofs.Common.{◌≡◌, ◌<◌, ◌≤◌, ◌+◌, ◌^◌, ℕ, zero, suc, List, [], ◌∷◌, ◌++◌, take, drop, get_or, length, Some, sym, ap, subst, ◌∙◌, append_assoc, length-append, All, arith}
use Rattle.std.specs.Prelude.{slice_get}
use Rattle.std.specs.List.{sum_by}
use Rattle.std.proofs.lemmas.Option.{same_Some, slice_get_within, get_or_from_slice_get}
use Rattle.std.proofs.lemmas.List.Sums.{sum_by-cons}
use Rattle.std.proofs.lemmas.List.{take_more, take_all, drop_at}
use Rattle.std.proofs.lemmas.List.Elements.{All-contains, All-weaker}
use Rattle.edge_io.specs.Files.{inside}
use Rattle.class_form.proofs.Indices.{there_at}
use Rattle.class_form.specs.ClassRules.{IsClassFile}
use Rattle.class_form.specs.Numbers.{IsNamedClass}
use Rattle.class_form.specs.declared.class_file.ClassFile.{ClassFile}
use Rattle.body_rules.specs.Methods.{IsSound}
use Rattle.body_rules.specs.Refused.{Refuses}
use Rattle.read_programs.proofs.Named.{all_named}
use Rattle.folder_reader.specs.Below.{IsBelow}
use Rattle.class_loader.specs.Sound.{IsSoundClass}
use Rattle.acceptance.specs.Classes.{AreSound, IsFirstRefused, none, file}
use Rattle.acceptance.specs.Classes as refused

-- one more sound file
pub more : {xs : List (List ℕ)} {cs : List ClassFile} {bytes : List ℕ} {c : ClassFile} → AreSound xs cs → IsSound bytes c → AreSound (xs ++ bytes ∷ []) (cs ++ c ∷ [])
more none s = file s none
more (file t rest) s = file t (more rest s)

-- the file after those that are sound is the first that is refused
pub first : (folder below bytes line : List ℕ) (paths contents : List (List ℕ)) (classes : List ClassFile) (k : ℕ) → AreSound (take k contents) classes → slice_get paths k ≡ Some (inside folder below)
    → slice_get contents k ≡ Some bytes → Refuses below bytes line → IsFirstRefused folder paths contents line
first folder below bytes line [] contents classes k sound at there refuses = absurd (cc at)
first folder below bytes line (p ∷ paths) [] classes k sound at there refuses = absurd (cc there)
first folder below bytes line (p ∷ paths) (b ∷ contents) classes zero sound at there refuses =
    refused.here (same_Some p (inside folder below) at) (subst (λ bs. Refuses below bs line) (sym (same_Some b bytes there)) refuses)
first folder below bytes line (p ∷ paths) (b ∷ contents) _ (suc k) (file s rest) at there refuses =
    refused.later s (first folder below bytes line paths contents _ k rest at there refuses)

pub no_file : (contents : List (List ℕ)) (classes : List ClassFile) → classes ≡ [] → AreSound (take 0 contents) classes
no_file contents classes e = subst (AreSound []) (sym e) none

pub one_more : (contents : List (List ℕ)) (classes after : List ClassFile) (k : ℕ) (bytes : List ℕ) (c : ClassFile) → AreSound (take k contents) classes → slice_get contents k ≡ Some bytes → IsSound bytes c → after ≡ classes ++ c ∷ []
    → AreSound (take (k + 1) contents) after
one_more contents classes after k bytes c sound there s e =
    let within = slice_get_within contents k bytes there in
    let last : get_or contents k bytes ≡ bytes = get_or_from_slice_get contents k bytes bytes there in
    subst (λ xs. AreSound xs after) (sym (take_more contents k bytes within ∙ ap (λ (b : List ℕ). take k contents ++ b ∷ []) last))
    (subst (AreSound (take k contents ++ bytes ∷ [])) (sym e) (more sound s))

pub all_sound : (contents : List (List ℕ)) (classes : List ClassFile) (k : ℕ) → length contents ≤ k → AreSound (take k contents) classes → AreSound contents classes
all_sound contents classes k over sound = subst (λ xs. AreSound xs classes) (take_all k contents over) sound

-- the path below a folder is what stands after its path and a slash
pub below_is : (folder below path : List ℕ) → path ≡ inside folder below → drop (length folder + 1) path ≡ below
below_is folder below path e =
    ap (drop (length folder + 1)) (e ∙ sym (append_assoc folder (47 ∷ []) below)) ∙ drop_at (folder ++ 47 ∷ []) below (length folder + 1) (length-append folder (47 ∷ []))

pub below_room : (folder below path : List ℕ) → path ≡ inside folder below → length folder + 1 ≤ length path
below_room folder below path e =
    let size = ap (length {A = ℕ}) e ∙ length-append folder (47 ∷ below) in
    omega (arith, size)

pub below_at : (folder : List ℕ) (paths : List (List ℕ)) (k : ℕ) (path : List ℕ) → All (IsBelow folder) paths → slice_get paths k ≡ Some path → IsBelow folder path
below_at folder paths k path all at = All-contains (IsBelow folder) paths path all (there_at paths k path at)

pub small_at : (contents : List (List ℕ)) (k : ℕ) (bytes : List ℕ) → All (λ (bs : List ℕ). length bs < 2 ^ 32) contents → slice_get contents k ≡ Some bytes → length bytes < 2 ^ 32
small_at contents k bytes all at = All-contains (λ (bs : List ℕ). length bs < 2 ^ 32) contents bytes all (there_at contents k bytes at)

all_cons : {A : Type 0} (P : A → Type 0) (x : A) (xs : List A) → P x → All P xs → All P (x ∷ xs)
all_cons P x xs h all zero d lt = h
all_cons P x xs h all (suc k) d lt = all k d (omega (arith, lt))

pub sound_classes : (contents : List (List ℕ)) (files : List ClassFile) → AreSound contents files → All IsSoundClass files
sound_classes _ _ none = λ k d lt. absurd (omega (arith, lt))
sound_classes _ _ (file {c} {contents} {files} s rest) = all_cons IsSoundClass c files (s.spells.0, s.bodies) (sound_classes contents files rest)

pub small_files : (contents : List (List ℕ)) → sum_by length contents ≤ 67108864 → All (λ (bytes : List ℕ). length bytes < 2 ^ 32) contents
small_files [] total = λ k d lt. absurd (omega (arith, lt))
small_files (bytes ∷ contents) total =
    let parts = sum_by-cons length bytes contents in
    all_cons (λ (bs : List ℕ). length bs < 2 ^ 32) bytes contents (omega (arith, parts, total)) (small_files contents (omega (arith, parts, total)))

pub are_named : (contents : List (List ℕ)) (files : List ClassFile) → AreSound contents files → All IsNamedClass files
are_named contents files sound =
    all_named files (All-weaker IsSoundClass IsClassFile (λ k h. h.0) files (sound_classes contents files sound))
