use Rattle.std.proofs.Common.{◌≡◌, ◌≤◌, ℕ, List, All, length, sym, subst}
use Rattle.std.specs.List.{sum_by}
use Rattle.folder_reader.specs.Below.{IsBelow}
use Rattle.class_loader.proofs.tests.loaded.Goals as goal

pub read_classes-requires-clause-below : goal.read_classes-requires-clause-below
read_classes-requires-clause-below c = subst (All (IsBelow c.args.folder.now)) (sym c.as_slice-paths.ensures.value) c.in-Ok.ensures.below

pub read_classes-requires-clause-number : goal.read_classes-requires-clause-number
read_classes-requires-clause-number c =
    subst (λ (xs : List (List ℕ)). length c.as_slice-contents.result.now ≡ length xs) (sym c.as_slice-paths.ensures.value)
    (subst (λ (xs : List (List ℕ)). length xs ≡ length c.in-Ok.files.paths.items) (sym c.as_slice-contents.ensures.value) c.in-Ok.ensures.number)

pub read_classes-requires-clause-total : goal.read_classes-requires-clause-total
read_classes-requires-clause-total c = subst (λ (xs : List (List ℕ)). sum_by length xs ≤ 67108864) (sym c.as_slice-contents.ensures.value) c.in-Ok.ensures.total
