use Rattle.std.proofs.Common.{◌≡◌, ◌≤◌, ℕ, List, length, sym, subst}
use Rattle.std.specs.Prelude.{All, IfOk}
use Rattle.std.specs.List.{sum_by}
use Rattle.class_form.specs.Folders.{IsHierarchyOf}
use Rattle.class_form.specs.declared.class_file.ClassFile.{ClassFile}
use Rattle.folder_reader.specs.Below.{IsBelow}
use Rattle.acceptance.specs.Classes.{AreSound}
use Rattle.folder_loader.specs.Trying.{RefusesSound}
use Rattle.folder_loader.proofs.classes.hierarchy_in.Goals as goal

pub hierarchy_at-requires-clause-below : goal.hierarchy_at-requires-clause-below
hierarchy_at-requires-clause-below c = subst (All (IsBelow c.args.folder.now)) (sym c.as_slice-paths.ensures.value) c.requires.below

pub hierarchy_at-requires-clause-number : goal.hierarchy_at-requires-clause-number
hierarchy_at-requires-clause-number c =
    subst (λ (xs : List (List ℕ)). length c.as_slice-contents.result.now ≡ length xs) (sym c.as_slice-paths.ensures.value)
    (subst (λ (xs : List (List ℕ)). length xs ≡ length c.args.files.now.paths.items) (sym c.as_slice-contents.ensures.value) c.requires.number)

pub hierarchy_at-requires-clause-total : goal.hierarchy_at-requires-clause-total
hierarchy_at-requires-clause-total c = subst (λ (xs : List (List ℕ)). sum_by length xs ≤ 67108864) (sym c.as_slice-contents.ensures.value) c.requires.total

pub returns-clause-tree : goal.returns-clause-tree
returns-clause-tree c =
    subst (λ (xs : List (List ℕ)). IfOk c.hierarchy_at.result (λ h. (files : List ClassFile) × AreSound xs files × IsHierarchyOf files h)) c.as_slice-contents.ensures.value
    c.hierarchy_at.ensures.tree

pub returns-clause-refused : goal.returns-clause-refused
returns-clause-refused c = λ line e.
    subst (λ (ps : List (List ℕ)). RefusesSound c.args.folder.now ps c.args.files.now.contents.items line) c.as_slice-paths.ensures.value
    (subst (λ (xs : List (List ℕ)). RefusesSound c.args.folder.now c.as_slice-paths.result.now xs line) c.as_slice-contents.ensures.value (c.hierarchy_at.ensures.refused line e))
