use Rattle.std.proofs.Common.{◌≡◌, List, [], Contains, refl, sym, subst, inl, inr, arith}
use Rattle.std.proofs.lemmas.List.{take_all}
use Rattle.slicer_ids.specs.declared.ids.NodeId.{NodeId}
use Rattle.worklists.proofs.Growing.{Grows-more}
use Rattle.plain_slice.specs.declared.table.Pair.{Pair}
use Rattle.plain_slice.specs.Tables.{pair}
use Rattle.plain_slice.proofs.slices.pick.Goals as goal

pub loop-one-preserved : goal.loop-one-preserved
loop-one-preserved c =
    Grows-more (λ (p : Pair) (n : NodeId). p ≡ pair n.0 1) c.args.found.now c.loop-one.one-index _ c.new-nodes.result.items c.loop-one.nodes.items c.pick_one.new.nodes.items c.loop-one-test.true c.loop-one.invariant c.in_ok-pick_one.ensures

pub returns : goal.returns
returns c =
    let g = c.loop-one.invariant in
    let found = c.args.found.now in
    let all = take_all c.loop-one.one-index found c.loop-one-test.false in
    λ n. (
      λ h. elim (g.only n h) [
        | inl old ↦ let none : Contains [] n = subst (λ (xs : List NodeId). Contains xs n) c.new-nodes.ensures.items old in absurd (omega (arith, none.1))
        | inr f ↦ subst (λ (p : Pair). Contains found p) f.2 (subst (λ (xs : List Pair). Contains xs f.0) all f.1)
      ],
      λ h. g.all n (pair n.0 1, subst (λ (xs : List Pair). Contains xs (pair n.0 1)) (sym all) h, refl),
    )
