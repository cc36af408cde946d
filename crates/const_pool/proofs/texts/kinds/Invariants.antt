use Rattle.std.proofs.Common.{◌≡◌, take}
use Rattle.std.specs.Prelude.{map}
use Rattle.const_pool.specs.Texts.{kinds_of}
use Rattle.const_pool.proofs.texts.kinds.Given as goal

abbrev pub invariant-loop-constant : goal.invariant-loop-constant
invariant-loop-constant l = l.kinds.items ≡ map kinds_of (take l.constant-index l.constants)
