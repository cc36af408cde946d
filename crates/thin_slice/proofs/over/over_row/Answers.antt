use Rattle.std.proofs.Common.{◌≡◌, ◌<◌, ◌+◌, ◌/◌, ℕ, arith, sym, subst, ◌∙◌}
use Rattle.worklists.proofs.Growing.{Grows-same, Grows-next, FromBelow}
use Rattle.dep_form.specs.declared.facts.Facts.{Facts}
use Rattle.dep_form.specs.Summaries.{IsWidthOf, IsMask}
use Rattle.thin_slice.specs.Marks.{found}
use Rattle.thin_slice.specs.Over.{ByWord, ByPart, ByRow}
use Rattle.thin_slice.proofs.Callees.{width_of, word_is_part, part_is_word, parts_are_row, row_is_parts}
use Rattle.thin_slice.proofs.over.over_row.Goals as goal

pub word-word-requires-clause-within : goal.word-word-requires-clause-within
word-word-requires-clause-within g c =
    let same = g.met.R.KnownRows.later_facts _ _ c.loop-k.invariant.later ∙ c.requires.row_facts in
    let words = (c.args.formals + 63) / 64 in
    let lt : c.loop-k.k < words = omega (arith, c.loop-k-test.true) in
    subst (λ (f : Facts). (x : ℕ) × IsWidthOf f c.args.e x × (c.loop-k.k < x)) (sym same) (words, width_of c.args.f.now c.args.graph.now c.args.formals c.args.e c.requires.callee, lt)

pub loop-k-preserved : goal.loop-k-preserved
loop-k-preserved g c =
    let laws = g.met.R.KnownRows in
    let f = c.args.f.now in
    let k = c.loop-k.k in
    let same = laws.later_facts _ _ c.loop-k.invariant.later ∙ c.requires.row_facts in
    let word = c.word-word.result in
    let mask : IsMask f c.args.mode c.args.e k word = subst (λ (f : Facts). IsMask f c.args.mode c.args.e k word) same c.word-word.ensures.word in
    let old = found c.loop-k.nodes in
    let new = found c.over_word.new.nodes in
    let P = ByPart f c.args.mode c.args.e c.args.c.call c.args.graph.now c.args.formals in
    record {
      nodes = c.over_word.ensures.nodes;
      rows = c.word-word.ensures.sound;
      later = laws.later_trans _ _ _ c.loop-k.invariant.later c.word-word.ensures.later;
      grown = Grows-next P k (found c.args.nodes.now) old new c.loop-k.invariant.grown
          (Grows-same old new (ByWord f c.args.c.call c.args.graph.now c.args.formals k word) (P k)
          (word_is_part f c.args.mode c.args.e c.args.c.call c.args.graph.now c.args.formals k word mask)
          (part_is_word f c.args.mode c.args.e c.args.c.call c.args.graph.now c.args.formals k word mask) c.over_word.ensures.grown);
    }

pub returns-clause-grown : goal.returns-clause-grown
returns-clause-grown g c =
    let f = c.args.f.now in
    let k = c.loop-k.k in
    let end : k ≡ (c.args.formals + 63) / 64 = omega (arith, c.loop-k-test.false, c.loop-k.auto.k-end) in
    let P = ByPart f c.args.mode c.args.e c.args.c.call c.args.graph.now c.args.formals in
    let Q = ByRow f c.args.mode c.args.e c.args.c.call c.args.graph.now c.args.formals in
    Grows-same (found c.args.nodes.now) (found c.loop-k.nodes) (FromBelow P k) Q
    (parts_are_row f c.args.mode c.args.e c.args.c.call c.args.graph.now c.args.formals k)
    (row_is_parts f c.args.mode c.args.e c.args.c.call c.args.graph.now c.args.formals k end) c.loop-k.invariant.grown
