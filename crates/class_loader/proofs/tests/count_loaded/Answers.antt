use Rattle.std.proofs.Common.{◌≡◌, ◌≤◌, ℕ, List, All, length, sym, subst}
use Rattle.std.specs.List.{sum_by}
use Rattle.folder_reader.specs.Below.{IsBelow}
use Rattle.class_loader.proofs.tests.count_loaded.Goals as goal

pub count_in-requires-clause-below : goal.count_in-requires-clause-below
count_in-requires-clause-below c = subst (All (IsBelow c.args.folder.now)) (sym c.as_slice-paths.ensures.value) c.in-Ok.ensures.below

pub count_in-requires-clause-number : goal.count_in-requires-clause-number
count_in-requires-clause-number c =
    subst (λ (xs : List (List ℕ)). length c.as_slice-contents.result.now ≡ length xs) (sym c.as_slice-paths.ensures.value)
    (subst (λ (xs : List (List ℕ)). length xs ≡ length c.in-Ok.files.paths.items) (sym c.as_slice-contents.ensures.value) c.in-Ok.ensures.number)

pub count_in-requires-clause-total : goal.count_in-requires-clause-total
count_in-requires-clause-total c = subst (λ (xs : List (List ℕ)). sum_by length xs ≤ 67108864) (sym c.as_slice-contents.ensures.value) c.in-Ok.ensures.total
