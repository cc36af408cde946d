-- What a walk finds are files.
use Rattle.std.proofs.Common.{◌≡◌, ℕ, suc, false, List, [], ◌∷◌, ◌++◌, All, Some, arith}
use Rattle.std.specs.FinMap as map
use Rattle.std.proofs.lemmas.Bool.{false≢true}
use Rattle.std.proofs.lemmas.List.Elements.{All-push}
use Rattle.edge_io.specs.declared.host.Entry.{Entry}
use Rattle.edge_io.specs.declared.host.Entry.TheVariants.{Folder, File}
use Rattle.edge_io.specs.Files.{Files, IsFile, inside, is_folder}
use Rattle.folder_form.specs.Walks.{Found, Walks, walks, WalksEach, none, class_file, other_file, folder_below}

module _ (m : Files) where
  file_at : (path : List ℕ) (e : Entry) → map.get m path ≡ Some e → false ≡ is_folder e → IsFile m path
  file_at path Folder there plain = absurd (false≢true plain)
  file_at path (File bytes) there plain = (bytes, there)

  mutual
    in_walk : (depth : ℕ) (folder : List ℕ) (before after : List (List ℕ)) → Walks m depth folder before (Found after) → All (IsFile m) before → All (IsFile m) after
    in_walk depth folder before after (walks {names} o r) all = in_each depth folder names before after r all

    in_each : (depth : ℕ) (folder : List ℕ) (names before after : List (List ℕ)) → WalksEach m depth folder names before (Found after) → All (IsFile m) before → All (IsFile m) after
    in_each depth folder _ before _ none all = all
    in_each depth folder _ before after (class_file {name} {names} f is room r) all =
        in_each depth folder names (before ++ inside folder name ∷ []) after r (All-push (IsFile m) before (inside folder name) all (file_at (inside folder name) f.there.0 f.there.1 f.there.2))
    in_each depth folder _ before after (other_file {names} f never r) all = in_each depth folder names before after r all
    in_each depth folder _ before after (folder_below {name} {names} {more} f near w r) all = in_each depth folder names more after r (in_walk (suc depth) (inside folder name) before more w all)

  pub found_files : (folder : List ℕ) (paths : List (List ℕ)) → Walks m 0 folder [] (Found paths) → All (IsFile m) paths
  found_files folder paths w = in_walk 0 folder [] paths w (λ k d lt. absurd (omega (arith, lt)))
