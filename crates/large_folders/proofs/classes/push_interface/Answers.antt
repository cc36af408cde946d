use Rattle.large_folders.proofs.Kept.{both_kept, on_any}
use Rattle.large_folders.proofs.classes.push_interface.Goals as goal

pub returns : goal.returns
returns c = on_any c.push_index.result (both_kept _ _ _ _ _ c.in_ok-push_constant.ensures c.in_ok-push_constant-2.ensures c.requires)
