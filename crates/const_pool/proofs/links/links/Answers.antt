use Rattle.std.proofs.Common.{◌∙◌, sym, arith}
use Rattle.const_pool.proofs.Steps.{kinds_stop, texts_stop, links_go_on, links_end, spelled_more}
use Rattle.const_pool.proofs.links.links.Goals as goal

pub returns-then-not-has_kinds : goal.returns-then-not-has_kinds
returns-then-not-has_kinds c = λ s.
    let p = c.args.pool.now in
    let i = c.loop-constant.constant-index in
    sym (c.loop-constant.invariant.same s) ∙ kinds_stop p p.constants i c.loop-constant.at c.constant-item.result (rw c.items-constant-items.ensures at c.loop-constant-test.true) (rw c.items-constant-items.ensures at c.constant-item.is) s (sym c.has_kinds.ensures ∙ c.if-not-has_kinds.true)

pub returns-then-not-has_texts : goal.returns-then-not-has_texts
returns-then-not-has_texts c = λ s.
    let p = c.args.pool.now in
    let i = c.loop-constant.constant-index in
    sym (c.loop-constant.invariant.same s) ∙ texts_stop p p.constants i c.loop-constant.at c.constant-item.result (rw c.items-constant-items.ensures at c.loop-constant-test.true) (rw c.items-constant-items.ensures at c.constant-item.is) s (sym c.has_kinds.ensures ∙ c.if-not-has_kinds.false) (sym c.has_texts.ensures ∙ c.if-not-has_texts.true)

pub loop-constant-preserved : goal.loop-constant-preserved
loop-constant-preserved c =
    let p = c.args.pool.now in
    let i = c.loop-constant.constant-index in
    let lt = rw c.items-constant-items.ensures at c.loop-constant-test.true in
    let is = rw c.items-constant-items.ensures at c.constant-item.is in
    let more = spelled_more p.constants i c.constant-item.result lt is in
    record {
      same = λ s. rw c.spelled_len-at.ensures (sym (links_go_on p p.constants i c.loop-constant.at c.constant-item.result lt is s (sym c.has_kinds.ensures ∙ c.if-not-has_kinds.false) (sym c.has_texts.ensures ∙ c.if-not-has_texts.false)) ∙ c.loop-constant.invariant.same s);
      within = omega (arith, more, c.spelled_len-at.ensures, c.loop-constant.invariant.within);
    }

pub returns : goal.returns
returns c = λ s. sym (c.loop-constant.invariant.same s) ∙ links_end c.args.pool.now c.args.pool.now.constants c.loop-constant.constant-index c.loop-constant.at s (rw c.items-constant-items.ensures at c.loop-constant-test.false)
