-- The turns of a walk.
use Rattle.std.proofs.Common.{◌≡◌, ◌<◌, ◌+◌, ℕ, suc, Bool, true, false, List, [], ◌∷◌, ◌++◌, map, get_or, drop, length, IfSome, Option, Some, None, inl, inr, refl, sym, ap, subst, ◌∙◌, append_assoc, All, Result, Ok, Err, OnOk, arith}
use Rattle.std.specs.FinMap as map
use Rattle.std.proofs.lemmas.Bool.{false≢true}
use Rattle.std.proofs.lemmas.List.{drop_more}
use Rattle.std.proofs.lemmas.List.Elements.{All-push}
use Rattle.slicer_ids.specs.declared.limits.LimitKind.{LimitKind}
use Rattle.slicer_ids.specs.declared.limits.LimitKind.TheVariants.{Depth, Files as FileCount}
use Rattle.edge_io.specs.declared.host.Item.{Item}
use Rattle.edge_io.specs.declared.host.Entry.{Entry}
use Rattle.edge_io.specs.declared.host.Entry.TheVariants.{Folder, File}
use Rattle.edge_io.specs.Files.{Files, IsFolder, IsEntryOf, inside, is_folder}
use Rattle.folder_form.specs.Walks.{IsClassFileName, HasFolder, HasFileNamed, Walked, Found, TooMany, Walks, walks, WalksEach, none, class_file, too_many, other_file, folder_below, ends_below, too_deep}
use Rattle.folder_reader.specs.Below.{IsBelow, IsAtOrBelow}
use Rattle.folder_reader.specs.Turns.{AreEntries, name_of, WalksTo, GoesOn, EndsAt, Leads, AddsFile, IsFileTooMany}
use Rattle.folder_reader.proofs.Listed.{item}

-- the first entries of a folder were taken, and the walk of the others leads to that of all
abbrev pub OnTheWay : Option Files → ℕ → List ℕ → List Item → ℕ → List (List ℕ) → List (List ℕ) → Type 0
OnTheWay files depth folder items index before after = IfSome files (λ m. Leads m depth folder (map name_of items) before (map name_of (drop index items)) after)

abbrev pub Told : Option Files → List ℕ → List Item → Type 0
Told files folder items = IfSome files (λ m. IsFolder m folder × AreEntries m folder items)

pub at_first : (files : Option Files) (depth : ℕ) (folder : List ℕ) (items : List Item) (before : List (List ℕ)) → OnTheWay files depth folder items 0 before before
at_first None depth folder items before = tt
at_first (Some m) depth folder items before = λ end w. w

module _ (m : Files) (depth : ℕ) (folder : List ℕ) (items : List Item) (index : ℕ) (i : Item) (there : (d : Item) → get_or items index d ≡ i) (within : index < length items) where
  rest_of : map name_of (drop index items) ≡ i.name ∷ map name_of (drop (index + 1) items)
  rest_of = ap (map name_of) (drop_more items index i within) ∙ ap (λ (x : Item). x.name ∷ map name_of (drop (index + 1) items)) (there i)

  entry : AreEntries m folder items → IsEntryOf m folder i
  entry are = subst (IsEntryOf m folder) (there i) (are.entries index i within)

  goes : (before now after : List (List ℕ)) → AreEntries m folder items → Leads m depth folder (map name_of items) before (map name_of (drop index items)) now → GoesOn m depth folder i now after
      → Leads m depth folder (map name_of items) before (map name_of (drop (index + 1) items)) after
  goes before now after are on next = λ end w. on end (subst (λ ns. WalksEach m depth folder ns now end) (sym rest_of) (next (entry are) (map name_of (drop (index + 1) items)) end w))

  ends : (before now : List (List ℕ)) (end : Walked) → IsFolder m folder × AreEntries m folder items → Leads m depth folder (map name_of items) before (map name_of (drop index items)) now → EndsAt m depth folder i now end
      → WalksTo m depth folder before end
  ends before now end told on last =
      (told.0, walks told.1.ordered (on end (subst (λ ns. WalksEach m depth folder ns now end) (sym rest_of) (last (entry told.1) (map name_of (drop (index + 1) items))))))

module _ (files later : Option Files) (depth : ℕ) (folder : List ℕ) (items : List Item) (index : ℕ) (i : Item) (there : (d : Item) → get_or items index d ≡ i) (within : index < length items) (same : later ≡ files) where
  pub turn : (before now after : List (List ℕ)) → Told files folder items → OnTheWay files depth folder items index before now → IfSome later (λ m. GoesOn m depth folder i now after)
      → OnTheWay files depth folder items (index + 1) before after
  turn before now after told on next = by_files files told on (subst (λ (o : Option Files). IfSome o (λ (m : Files). GoesOn m depth folder i now after)) same next)
    where
      by_files : (o : Option Files) → Told o folder items → OnTheWay o depth folder items index before now → IfSome o (λ m. GoesOn m depth folder i now after) → OnTheWay o depth folder items (index + 1) before after
      by_files None t o n = tt
      by_files (Some m) t o n = goes m depth folder items index i there within before now after t.1 o n

  pub ended : (before now : List (List ℕ)) (end : Walked) → Told files folder items → OnTheWay files depth folder items index before now → IfSome later (λ m. EndsAt m depth folder i now end)
      → IfSome files (λ m. WalksTo m depth folder before end)
  ended before now end told on last = by_files files told on (subst (λ (o : Option Files). IfSome o (λ (m : Files). EndsAt m depth folder i now end)) same last)
    where
      by_files : (o : Option Files) → Told o folder items → OnTheWay o depth folder items index before now → IfSome o (λ m. EndsAt m depth folder i now end) → IfSome o (λ m. WalksTo m depth folder before end)
      by_files None t o n = tt
      by_files (Some m) t o n = ends m depth folder items index i there within before now end t o n

  -- an entry that was listed is there
  pub there_is : Told files folder items → IfSome later (λ m. IsEntryOf m folder i → ⊥) → IfSome files (λ m. IsFolder m folder → ⊥)
  there_is told gone = by_files files told (subst (λ (o : Option Files). IfSome o (λ (m : Files). IsEntryOf m folder i → ⊥)) same gone)
    where
      by_files : (o : Option Files) → Told o folder items → IfSome o (λ m. IsEntryOf m folder i → ⊥) → IfSome o (λ m. IsFolder m folder → ⊥)
      by_files None t n = tt
      by_files (Some m) t n = λ _. n (entry m depth folder items index i there within t.1)

-- all entries were taken
pub at_last : (files : Option Files) (depth : ℕ) (folder : List ℕ) (items : List Item) (index : ℕ) (before after : List (List ℕ)) → drop index items ≡ [] → Told files folder items
    → OnTheWay files depth folder items index before after → IfSome files (λ m. WalksTo m depth folder before (Found after))
at_last None depth folder items index before after over told on = tt
at_last (Some m) depth folder items index before after over told on =
    (told.0, walks told.1.ordered (on (Found after) (subst (λ ns. WalksEach m depth folder ns after (Found after)) (sym (ap (map name_of) over)) none)))

-- a file among the entries
file_entry : (m : Files) (folder : List ℕ) (i : Item) → i.folder ≡ false → IsEntryOf m folder i → HasFileNamed m folder i.name
file_entry m folder i plain h = subst (λ (b : Bool). IsEntryOf m folder (item i.name b)) plain h

added : (m : Files) (depth : ℕ) (folder : List ℕ) (i : Item) (before after : List (List ℕ)) → i.folder ≡ false → AddsFile folder i.name before after → GoesOn m depth folder i before after
added m depth folder i before after plain (inl (is, room, e)) = λ h names end w.
    class_file (file_entry m folder i plain h) is room (subst (λ ps. WalksEach m depth folder names ps end) e w)
added m depth folder i before after plain (inr (never, e)) = λ h names end w.
    other_file (file_entry m folder i plain h) never (subst (λ ps. WalksEach m depth folder names ps end) e w)

pub file_added : (files : Option Files) (depth : ℕ) (folder : List ℕ) (i : Item) (before after : List (List ℕ)) → i.folder ≡ false → AddsFile folder i.name before after → IfSome files (λ m. GoesOn m depth folder i before after)
file_added None depth folder i before after plain adds = tt
file_added (Some m) depth folder i before after plain adds = added m depth folder i before after plain adds

one_too_many : (m : Files) (depth : ℕ) (folder : List ℕ) (i : Item) (before : List (List ℕ)) {kind : LimitKind} {count : ℕ} → i.folder ≡ false → IsClassFileName i.name → (length before < 16384 → ⊥) → FileCount ≡ kind → 16385 ≡ count
    → EndsAt m depth folder i before (TooMany kind count)
one_too_many m depth folder i before {kind} {count} plain is full e f =
    subst (λ k. EndsAt m depth folder i before (TooMany k count)) e (subst (λ n. EndsAt m depth folder i before (TooMany FileCount n)) f (λ h names. too_many (file_entry m folder i plain h) is full))

pub file_too_many : (files : Option Files) (depth : ℕ) (folder : List ℕ) (i : Item) (before : List (List ℕ)) (kind : LimitKind) (count : ℕ) → i.folder ≡ false → IsFileTooMany i.name before kind count
    → IfSome files (λ m. EndsAt m depth folder i before (TooMany kind count))
file_too_many None depth folder i before kind count plain full = tt
file_too_many (Some m) depth folder i before kind count plain full = one_too_many m depth folder i before plain full.class_file full.full (sym full.counted.0) (sym full.counted.1)

-- a folder among them
folder_entry : (m : Files) (folder : List ℕ) (i : Item) → i.folder ≡ true → IsEntryOf m folder i → HasFolder m folder i.name
folder_entry m folder i is h = subst (λ (b : Bool). IsEntryOf m folder (item i.name b)) is h

pub deep : (files : Option Files) (depth : ℕ) (folder : List ℕ) (i : Item) (before : List (List ℕ)) (kind : LimitKind) (count : ℕ) → i.folder ≡ true → (depth < 64 → ⊥) → Depth ≡ kind → 65 ≡ count
    → IfSome files (λ m. EndsAt m depth folder i before (TooMany kind count))
deep None depth folder i before kind count is far e f = tt
deep (Some m) depth folder i before kind count is far e f =
    subst (λ k. EndsAt m depth folder i before (TooMany k count)) e (subst (λ n. EndsAt m depth folder i before (TooMany Depth n)) f (λ h names. too_deep (folder_entry m folder i is h) far))

folder_at : (m : Files) (path : List ℕ) (e : Entry) → map.get m path ≡ Some e → true ≡ is_folder e → IsFolder m path
folder_at m path Folder there is = there
folder_at m path (File bytes) there is = absurd (false≢true (sym is))

module _ (depth : ℕ) (folder path : List ℕ) (i : Item) (is : i.folder ≡ true) (near : depth < 64) (at : path ≡ inside folder i.name) where
  at_path : (m : Files) (before : List (List ℕ)) (end : Walked) → WalksTo m (depth + 1) path before end → Walks m (suc depth) (inside folder i.name) before end
  at_path m before end w = subst (λ p. Walks m (suc depth) p before end) at (subst (λ n. Walks m n path before end) (omega arith) w.1)

  pub folder_walked : (files : Option Files) (before after : List (List ℕ)) → IfSome files (λ m. WalksTo m (depth + 1) path before (Found after)) → IfSome files (λ m. GoesOn m depth folder i before after)
  folder_walked None before after w = tt
  folder_walked (Some m) before after w = λ h names end rest. folder_below (folder_entry m folder i is h) near (at_path m before (Found after) w) rest

  pub folder_ends : (files : Option Files) (before : List (List ℕ)) (kind : LimitKind) (count : ℕ) → IfSome files (λ m. WalksTo m (depth + 1) path before (TooMany kind count))
      → IfSome files (λ m. EndsAt m depth folder i before (TooMany kind count))
  folder_ends None before kind count w = tt
  folder_ends (Some m) before kind count w = λ h names. ends_below (folder_entry m folder i is h) near (at_path m before (TooMany kind count) w)

  pub folder_gone : (files : Option Files) → IfSome files (λ m. IsFolder m path → ⊥) → IfSome files (λ m. IsEntryOf m folder i → ⊥)
  folder_gone None gone = tt
  folder_gone (Some m) gone = λ h. gone (subst (IsFolder m) (sym at) (folder_at m (inside folder i.name) h.there.0 h.there.1 (sym is ∙ h.there.2)))

-- what stands in a folder below a root is below the root
pub further_below : (root folder path name : List ℕ) → IsAtOrBelow root folder → path ≡ inside folder name → IsBelow root path
further_below root folder path name (inl e) at = (name, at ∙ ap (λ f. inside f name) e)
further_below root folder path name (inr (b, e)) at = (b ++ 47 ∷ name, at ∙ (ap (λ f. inside f name) e ∙ append_assoc root (47 ∷ b) (47 ∷ name)))

pub all_below : (root folder name : List ℕ) (before after : List (List ℕ)) → IsAtOrBelow root folder → AddsFile folder name before after → All (IsBelow root) before → All (IsBelow root) after
all_below root folder name before after at (inl (is, room, e)) all =
    subst (All (IsBelow root)) (sym e) (All-push (IsBelow root) before (inside folder name) all (further_below root folder (inside folder name) name at refl))
all_below root folder name before after at (inr (never, e)) all = subst (All (IsBelow root)) (sym e) all

-- what holds where a call answers Ok
pub on_ok : {A E : Type 0} {P Q : Type 0} (r : Result A E) → (P → Q) → OnOk r P → OnOk r Q
on_ok (Ok x) f p = f p
on_ok (Err e) f p = tt

-- all paths are below each root that the folder is at or below
abbrev pub StayBelow : List ℕ → List (List ℕ) → List (List ℕ) → Type 0
StayBelow folder before after = (root : List ℕ) → IsAtOrBelow root folder → All (IsBelow root) before → All (IsBelow root) after

pub added_below : {E : Type 0} (folder name : List ℕ) (before after : List (List ℕ)) (r : Result (Unit {0}) E) → OnOk r (AddsFile folder name before after) → OnOk r (StayBelow folder before after)
added_below folder name before after (Ok x) adds = λ root at all. all_below root folder name before after at adds all
added_below folder name before after (Err e) adds = tt

pub walked_below : {E : Type 0} (folder path name : List ℕ) (before after : List (List ℕ)) → path ≡ inside folder name → (r : Result (Unit {0}) E) → OnOk r (StayBelow path before after) → OnOk r (StayBelow folder before after)
walked_below folder path name before after at (Ok x) below = λ root under all. below root (inr (further_below root folder path name under at)) all
walked_below folder path name before after at (Err e) below = tt
