use Rattle.std.proofs.Common.{◌≡◌, take}
use Rattle.clap.specs.Walk.{texts}
use Rattle.words.proofs.reading.owned.Given as goal

abbrev pub invariant-loop-word : goal.invariant-loop-word
invariant-loop-word l = l.all.items ≡ texts (take l.word-index l.words)
