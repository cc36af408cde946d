use Rattle.std.proofs.Common.{◌≡◌, ◌<◌, ◌≤◌, ◌+◌, ◌-◌, ℕ, List, [], take, get_or, length, Contains, refl, sym, ap, subst, ◌∙◌, arith}
use Rattle.worklists.specs.Growth.{Grows, FromOne}
use Rattle.worklists.proofs.Growing.{FromBelow, Grows-same, Grows-next, Grows-more}
use Rattle.class_form.specs.declared.class_file.Handler.{Handler}
use Rattle.code_shape.specs.declared.covers.Range.{Range}
use Rattle.code_shape.specs.declared.covers.Cover.{Cover}
use Rattle.code_shape.specs.Covers.{range_of, cover, RangeBefore, CoverBefore, CoversFrom, CoveredBy, IsCovered}
use Rattle.code_shape.proofs.Covered.{none_within, first_le, covers_within, one_range, done_next, covered_is, index_le, part_order, part_members}
use Rattle.code_shape.proofs.covers.put_covers.Goals as goal

pub loop-k-preserved : goal.loop-k-preserved
loop-k-preserved c =
    let first = c.first_from-first.result in
    let h = c.args.handler in
    Grows-next (λ (k : ℕ) (x : Cover). (first ≤ k) × (x ≡ cover k h)) c.loop-k.k c.args.covers.now.items c.loop-k.covers.items c.put_cover.new.covers.items c.loop-k.invariant
    (Grows-same c.loop-k.covers.items c.put_cover.new.covers.items (λ (x : Cover). x ≡ cover c.loop-k.k h) (λ (x : Cover). (first ≤ c.loop-k.k) × (x ≡ cover c.loop-k.k h)) (λ x e. (c.loop-k.auto.k, e)) (λ x e. e.1) c.in_ok-put_cover.ensures)

pub returns : goal.returns
returns c =
    let a = c.first_from-first.ensures in
    let b = c.first_from-last.ensures in
    let lt : c.args.from < c.args.to = omega arith in
    let le = first_le c.args.instrs.now c.args.from c.args.to c.args.handler c.first_from-first.result c.first_from-last.result lt a.within b.within a.before a.after b.before b.after in
    let end : c.loop-k.k ≡ c.first_from-last.result = omega (arith, c.loop-k.auto.k-end le, c.loop-k-test.false) in
    covers_within c.args.instrs.now c.args.from c.args.to c.args.handler c.first_from-first.result c.first_from-last.result lt a.within b.within a.before a.after b.before b.after c.loop-k.k c.args.covers.now.items c.loop-k.covers.items end c.loop-k.invariant
