-- What a refusal counts.
use Rattle.std.proofs.Common.{◌≡◌, ℕ, Result, Ok, Err, ap}
use Rattle.slicer_ids.specs.declared.limits.LimitKind.{LimitKind}
use Rattle.slicer_ids.specs.declared.limits.LimitKind.TheVariants.{Depth}
use Rattle.folder_reader.specs.declared.error.FolderError.{FolderError}
use Rattle.folder_reader.specs.declared.error.FolderError.TheVariants.{NoMemory, Host, TooMany}

abbrev kind_in : FolderError → LimitKind
kind_in NoMemory = Depth
kind_in Host = Depth
kind_in (TooMany kind count) = kind

abbrev count_in : FolderError → ℕ
count_in NoMemory = 0
count_in Host = 0
count_in (TooMany kind count) = count

abbrev error_in : {A : Type 0} → Result A FolderError → FolderError
error_in (Ok x) = Host
error_in (Err e) = e

pub same_kind : {A : Type 0} (a b : LimitKind) (m n : ℕ) → ◌≡◌ {A = Result A FolderError} (Err (TooMany a m)) (Err (TooMany b n)) → a ≡ b
same_kind {A} a b m n e = ap (λ (r : Result A FolderError). kind_in (error_in r)) e

pub same_count : {A : Type 0} (a b : LimitKind) (m n : ℕ) → ◌≡◌ {A = Result A FolderError} (Err (TooMany a m)) (Err (TooMany b n)) → m ≡ n
same_count {A} a b m n e = ap (λ (r : Result A FolderError). count_in (error_in r)) e
