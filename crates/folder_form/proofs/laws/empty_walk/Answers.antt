use Rattle.std.proofs.Common.{[], arith}
use Rattle.folder_form.specs.Walks.{walks, none}
use Rattle.folder_form.proofs.laws.empty_walk.Goals as goal

pub returns : goal.returns
returns c = λ m folder is empty. (is, walks {names = []} (record { each = λ k d lt. absurd (omega (arith, lt)); order = λ i j d lt within. absurd (omega (arith, within)); whole = λ x h. absurd (empty x h) }) none)
