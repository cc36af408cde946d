use Rattle.std.proofs.Common.{arith, length, ◌≡◌, ◌∙◌, ℕ, ap}
use Rattle.std.proofs.lemmas.Grind.{get_or_default_zero}
use Rattle.summary_memo.specs.Places.{before, widths, mode_words}
use Rattle.summary_memo.proofs.Widths.{words_few}
use Rattle.summary_memo.proofs.memo.word_count.Goals as goal

pub overflow_add-result : goal.overflow_add-result
overflow_add-result c =
    let f = c.args.f.now in
    let k : ℕ = length c.items.result.now in
    let all : k ≡ length f.exits = ap length c.items.ensures in
    let words : c.index-words.result.now ≡ mode_words f =
    c.index-words.ensures ∙ get_or_default_zero c.args.starts.now.items k c.index-words.result.now (omega (arith, all, c.requires.count))
    ∙ c.requires.starts k (omega (arith, all)) ∙ ap (before (widths f)) all in
    let few = words_few f (length f.exits) (omega arith) in
    grind (arith, few, words)

pub overflow_add-result-2 : goal.overflow_add-result-2
overflow_add-result-2 c =
    let f = c.args.f.now in
    let k : ℕ = length c.items.result.now in
    let all : k ≡ length f.exits = ap length c.items.ensures in
    let words : c.index-words.result.now ≡ mode_words f =
    c.index-words.ensures ∙ get_or_default_zero c.args.starts.now.items k c.index-words.result.now (omega (arith, all, c.requires.count))
    ∙ c.requires.starts k (omega (arith, all)) ∙ ap (before (widths f)) all in
    let few = words_few f (length f.exits) (omega arith) in
    grind (arith, few, words)
