-- Files that agree in a folder accept it with the same programs.
use Rattle.std.proofs.Common.{◌≡◌, ℕ, suc, List, [], ◌∷◌, ◌++◌, ◌+◌, length, get_or, true, false, All, Option, refl, sym, ap, subst, ◌∙◌, inl, inr, append_assoc}
use Rattle.std.proofs.lemmas.List.Elements.{All-nil, All-head, All-tail, All-push}
use Rattle.std.specs.FinMap as map
use Rattle.edge_io.specs.Files.{Files, HasFile, inside, IsEntryOf, IsFolder}
use Rattle.edge_io.specs.declared.host.Item.{Item}
use Rattle.folder_form.specs.Walks.{IsNameIn, Walked, Found, TooMany, Walks, walks, WalksEach}
use Rattle.folder_form.specs.Walks as walk
use Rattle.folder_form.specs.Reading.{Read, Contents, Reads}
use Rattle.folder_form.specs.Reading as reading
use Rattle.folder_reader.specs.Below.{IsBelow, IsAtOrBelow}
use Rattle.program_form.specs.Programs.{Program}
use Rattle.acceptance.specs.Refusals.{Accepts}
use Rattle.slicer_service.specs.Alike.{AgreeIn}

-- what stands below a folder of the folder stands below the folder
deeper : (folder name below : List ℕ) → inside (inside folder name) below ≡ inside folder (name ++ 47 ∷ below)
deeper folder name below = append_assoc folder (47 ∷ name) (47 ∷ below)

found_are : (a b : List (List ℕ)) → Found a ≡ Found b → a ≡ b
found_are a b e = cc e

-- what stands in a folder at or below another one is below that
further : (root folder name : List ℕ) → IsAtOrBelow root folder → IsBelow root (inside folder name)
further root folder name (inl e) = (name, ap (λ (path : List ℕ). inside path name) e)
further root folder name (inr h) = (h.0 ++ 47 ∷ name, ap (λ (path : List ℕ). inside path name) h.1 ∙ deeper root h.0 name)

module _ (m n : Files) where
  -- the same stands at each path below
  abbrev AreSame : List ℕ → Type 0
  AreSame folder = (name : List ℕ) → map.get m (inside folder name) ≡ map.get n (inside folder name)

  same_deeper : (folder name : List ℕ) → AreSame folder → AreSame (inside folder name)
  same_deeper folder name same below =
      ap (λ (path : List ℕ). map.get m path) (deeper folder name below) ∙ same (name ++ 47 ∷ below) ∙ sym (ap (λ (path : List ℕ). map.get n path) (deeper folder name below))

  entry : (folder : List ℕ) (i : Item) → AreSame folder → IsEntryOf m folder i → IsEntryOf n folder i
  entry folder i same h = record { there = (h.there.0, sym (same i.name) ∙ h.there.1, h.there.2); direct = h.direct }

  entry_back : (folder : List ℕ) (i : Item) → AreSame folder → IsEntryOf n folder i → IsEntryOf m folder i
  entry_back folder i same h = record { there = (h.there.0, same i.name ∙ h.there.1, h.there.2); direct = h.direct }

  name_in : (folder name : List ℕ) → AreSame folder → IsNameIn m folder name → IsNameIn n folder name
  name_in folder name same (inl h) = inl (entry folder (record { name = name; folder = true }) same h)
  name_in folder name same (inr h) = inr (entry folder (record { name = name; folder = false }) same h)

  name_back : (folder name : List ℕ) → AreSame folder → IsNameIn n folder name → IsNameIn m folder name
  name_back folder name same (inl h) = inl (entry_back folder (record { name = name; folder = true }) same h)
  name_back folder name same (inr h) = inr (entry_back folder (record { name = name; folder = false }) same h)

  mutual
    walked : (depth : ℕ) (folder : List ℕ) (before : List (List ℕ)) (end : Walked) → AreSame folder → Walks m depth folder before end → Walks n depth folder before end
    walked depth folder before end same (walks {names} h each) =
        walks (record { each = λ k d lt. name_in folder (get_or names k d) same (h.each k d lt); order = h.order; whole = λ name is. h.whole name (name_back folder name same is) })
        (walked_each depth folder names before end same each)

    walked_each : (depth : ℕ) (folder : List ℕ) (names before : List (List ℕ)) (end : Walked) → AreSame folder → WalksEach m depth folder names before end → WalksEach n depth folder names before end
    walked_each depth folder _ before _ same walk.none = walk.none
    walked_each depth folder _ before end same (walk.class_file {name} {names} f c few rest) =
        walk.class_file (entry folder (record { name = name; folder = false }) same f) c few (walked_each depth folder names (before ++ inside folder name ∷ []) end same rest)
    walked_each depth folder _ before _ same (walk.too_many {name} f c many) = walk.too_many (entry folder (record { name = name; folder = false }) same f) c many
    walked_each depth folder _ before end same (walk.other_file {name} {names} f c rest) =
        walk.other_file (entry folder (record { name = name; folder = false }) same f) c (walked_each depth folder names before end same rest)
    walked_each depth folder _ before end same (walk.folder_below {name} {names} {more} f low inner rest) =
        walk.folder_below (entry folder (record { name = name; folder = true }) same f) low
        (walked (suc depth) (inside folder name) before (Found more) (same_deeper folder name same) inner) (walked_each depth folder names more end same rest)
    walked_each depth folder _ before _ same (walk.ends_below {name} {kind} {count} f low inner) =
        walk.ends_below (entry folder (record { name = name; folder = true }) same f) low (walked (suc depth) (inside folder name) before (TooMany kind count) (same_deeper folder name same) inner)
    walked_each depth folder _ before _ same (walk.too_deep {name} f deep) = walk.too_deep (entry folder (record { name = name; folder = true }) same f) deep

  file : (folder path bytes : List ℕ) → AreSame folder → IsBelow folder path → HasFile m path bytes → HasFile n path bytes
  file folder path bytes same below has =
      let at : map.get m path ≡ map.get n path =
      ap (λ (p : List ℕ). map.get m p) below.1 ∙ same below.0 ∙ sym (ap (λ (p : List ℕ). map.get n p) below.1) in
      sym at ∙ has

  -- the files have the same bytes, where they are below the folder
  read : (folder : List ℕ) (total : ℕ) (paths : List (List ℕ)) (end : Read) → AreSame folder → All (IsBelow folder) paths → Reads m total paths end → Reads n total paths end
  read folder total _ _ same below reading.none = reading.none
  read folder total _ _ same below (reading.file {path} {bytes} {paths} {rest} has short few more) =
      reading.file (file folder path bytes same (All-head (IsBelow folder) path paths below) has) short few (read folder (total + length bytes) paths (Contents rest) same (All-tail (IsBelow folder) path paths below) more)
  read folder total _ _ same below (reading.later {path} {bytes} {paths} {kind} {count} has short few more) =
      reading.later (file folder path bytes same (All-head (IsBelow folder) path paths below) has) short few (read folder (total + length bytes) paths (reading.TooLong kind count) same (All-tail (IsBelow folder) path paths below) more)
  read folder total _ _ same below (reading.too_long {path} {bytes} {paths} has long) = reading.too_long (file folder path bytes same (All-head (IsBelow folder) path paths below) has) long
  read folder total _ _ same below (reading.too_many {path} {bytes} {paths} has short many) = reading.too_many (file folder path bytes same (All-head (IsBelow folder) path paths below) has) short many

-- what a walk of a folder finds is below each folder that it is at or below
mutual
  found_below : (m : Files) (root : List ℕ) (depth : ℕ) (folder : List ℕ) (before more : List (List ℕ)) → IsAtOrBelow root folder → All (IsBelow root) before → Walks m depth folder before (Found more) →
      All (IsBelow root) more
  found_below m root depth folder before more at all (walks {names} h each) = each_below m root depth folder names before (Found more) more refl at all each

  each_below : (m : Files) (root : List ℕ) (depth : ℕ) (folder : List ℕ) (names before : List (List ℕ)) (end : Walked) (more : List (List ℕ)) → end ≡ Found more → IsAtOrBelow root folder → All (IsBelow root) before →
      WalksEach m depth folder names before end → All (IsBelow root) more
  each_below m root depth folder _ before _ more e at all walk.none = subst (All (IsBelow root)) (found_are before more e) all
  each_below m root depth folder _ before end more e at all (walk.class_file {name} {names} f c few rest) =
      each_below m root depth folder names (before ++ inside folder name ∷ []) end more e at (All-push (IsBelow root) before (inside folder name) all (further root folder name at)) rest
  each_below m root depth folder _ before _ more e at all (walk.too_many f c many) = absurd (cc e)
  each_below m root depth folder _ before end more e at all (walk.other_file {names} f c rest) = each_below m root depth folder names before end more e at all rest
  each_below m root depth folder _ before end more e at all (walk.folder_below {name} {names} {more = inner_paths} f low inner rest) =
      each_below m root depth folder names inner_paths end more e at
      (found_below m root (suc depth) (inside folder name) before inner_paths (inr (further root folder name at)) all inner) rest
  each_below m root depth folder _ before _ more e at all (walk.ends_below f low inner) = absurd (cc e)
  each_below m root depth folder _ before _ more e at all (walk.too_deep f deep) = absurd (cc e)

-- a folder is accepted with the same program where the files agree in it
pub accepted_too : (m n : Files) (folder : List ℕ) (main : Option (List ℕ)) (p : Program) → AgreeIn folder m n → Accepts m folder main p → Accepts n folder main p
accepted_too m n folder main p same h =
    let files = h.found.2 in
    let paths : List (List ℕ) = h.found.0 in
    let contents : List (List ℕ) = h.found.1 in
    let below : All (IsBelow folder) paths = found_below m folder 0 folder [] paths (inl refl) (All-nil (IsBelow folder)) files.walk.1 in
    let at : IsFolder n folder = sym same.there ∙ files.walk.0 in
    record {
      files = h.files;
      found = (
        paths,
        contents,
        record { walk = (at, walked m n 0 folder [] (Found paths) same.below files.walk.1); reading = read m n folder 0 paths (Contents contents) same.below below files.reading },
        h.found.3,
      );
      program = h.program;
      accepted = h.accepted;
    }

pub agree_back : (m n : Files) (folder : List ℕ) → AgreeIn folder m n → AgreeIn folder n m
agree_back m n folder h = record { there = sym h.there; below = λ name. sym (h.below name) }
