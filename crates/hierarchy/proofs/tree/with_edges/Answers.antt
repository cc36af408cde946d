use Rattle.std.proofs.Common.{◌≡◌, ℕ, List, ◌⊎◌, subst}
use Rattle.class_form.specs.Folders.{IsOwnAncestor, IsLeastName}
use Rattle.hierarchy.specs.declared.tree.TreeError.TheVariants.{NoMemory, Cycle}
use Rattle.hierarchy.proofs.tree.with_edges.Goals as goal

pub returns-in-Err-clause-err : goal.returns-in-Err-clause-err
returns-in-Err-clause-err c =
    subst (λ xs. (c.in-Err.error ≡ NoMemory) ⊎ ((name : List ℕ) × (c.in-Err.error ≡ Cycle name) × IsLeastName (IsOwnAncestor xs) name)) c.as_slice.ensures.value c.in-Err.ensures.err
