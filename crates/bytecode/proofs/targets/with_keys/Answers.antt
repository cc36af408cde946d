use Rattle.std.proofs.Common.{◌≡◌, ◌++◌, ◌∷◌, [], ℕ, ◌+◌, ◌*◌, List, map, append_assoc}
use Rattle.std.proofs.lemmas.List.{map-append}
use Rattle.class_form.specs.Bytes.{words_at, signed_word_at, target_of}
use Rattle.bytecode.specs.Parts.{clamped}
use Rattle.bytecode.proofs.Words.{words_more}
use Rattle.bytecode.proofs.targets.with_keys.Goals as goal

one_more : (pc : ℕ) (code : List ℕ) (from step k distance target : ℕ) (first before after : List ℕ)
    → before ≡ first ++ map (λ d. clamped (target_of pc d)) (words_at code from step k)
    → distance ≡ signed_word_at code (from + step * k) → target ≡ clamped (target_of pc distance) → after ≡ before ++ target ∷ []
    → after ≡ first ++ map (λ d. clamped (target_of pc d)) (words_at code from step (k + 1))
one_more pc code from step k distance target first before after b d t a =
    let f = λ (d : ℕ). clamped (target_of pc d) in
    rw (words_more code from step k, map-append f (words_at code from step k) (signed_word_at code (from + step * k) ∷ []), ← append_assoc first, ← b, ← d, ← t) a

pub loop-k-preserved : goal.loop-k-preserved
loop-k-preserved c = one_more c.args.pc c.args.code.now c.args.from c.args.step c.loop-k.k _ _ c.args.targets.items _ _ c.loop-k.invariant
    c.signed_word_at-distance.ensures c.target_of.ensures c.in_ok-push.ensures.items
