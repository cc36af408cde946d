use Rattle.std.proofs.Common.{◌≡◌, ◌≤◌, ℕ, List, length, sym, subst}
use Rattle.std.specs.Prelude.{All}
use Rattle.std.specs.List.{sum_by}
use Rattle.folder_reader.specs.Below.{IsBelow}
use Rattle.folder_bench.proofs.file_steps.measure_read.Goals as goal

pub measure_classes-requires-clause-below : goal.measure_classes-requires-clause-below
measure_classes-requires-clause-below c = subst (All (IsBelow c.args.folder.now)) (sym c.as_slice-paths.ensures.value) c.requires.below

pub measure_classes-requires-clause-number : goal.measure_classes-requires-clause-number
measure_classes-requires-clause-number c =
    subst (λ (xs : List (List ℕ)). length c.as_slice-contents.result.now ≡ length xs) (sym c.as_slice-paths.ensures.value)
    (subst (λ (xs : List (List ℕ)). length xs ≡ length c.args.files.now.paths.items) (sym c.as_slice-contents.ensures.value) c.requires.number)

pub measure_classes-requires-clause-total : goal.measure_classes-requires-clause-total
measure_classes-requires-clause-total c = subst (λ (xs : List (List ℕ)). sum_by length xs ≤ 67108864) (sym c.as_slice-contents.ensures.value) c.requires.total
