use Rattle.std.proofs.Common.{All, List, sym, subst}
use Rattle.std.specs.Str.{IsUtf8}
use Rattle.edge_io.proofs.Places.{Stored}
use Rattle.edge_io.proofs.memory_host.MemoryHost.new.Goals as goal

pub with_texts-requires : goal.with_texts-requires
with_texts-requires c = subst (λ (s : List Stored). All (λ e. IsUtf8 e.0) s) (sym c.into_vec.ensures) c.requires.texts
