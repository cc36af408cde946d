use Rattle.std.proofs.Common.{◌≡◌, ◌++◌, map}
use Rattle.class_form.specs.Bytes.{words_at, target_of}
use Rattle.bytecode.specs.Parts.{clamped}
use Rattle.bytecode.proofs.targets.with_keys.Given as goal

abbrev pub invariant-loop-k : goal.invariant-loop-k
invariant-loop-k l = l.all.items ≡ l.initial.all.items ++ map (λ d. clamped (target_of l.pc d)) (words_at l.code l.from l.step l.k)
