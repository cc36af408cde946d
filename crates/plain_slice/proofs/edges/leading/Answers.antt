use Rattle.std.proofs.Common.{◌≡◌, ◌<◌, ◌+◌, ℕ, List, [], Contains, true, sym, subst, inl, inr, arith}
use Rattle.std.proofs.lemmas.Bool.{cases_lt}
use Rattle.std.proofs.lemmas.Option.{slice_get_within}
use Rattle.worklists.proofs.Growing.{Grows-then}
use Rattle.plain_slice.specs.Edges.{Leads}
use Rattle.plain_slice.proofs.edges.leading.Goals as goal

pub loop-k-preserved : goal.loop-k-preserved
loop-k-preserved c =
    let i = c.loop-k.k in
    let L : ℕ → Type 0 = Leads c.args.pairs.now c.args.formals.now c.args.exit in
    Grows-then c.new-numbers.result.items c.loop-k.numbers.items c.add_formal.new.numbers.items (λ j. (j < i) × L j) (λ j. (c.leads-holds.result ≡ true) × (j ≡ i)) (λ j. (j < i + 1) × L j)
    (λ j h. elim (cases_lt j i) [ inl lt ↦ inl (lt, h.1) | inr ge ↦ let is : j ≡ i = omega arith in inr (c.leads-holds.ensures.1 (subst L is h.1), is) ])
    (λ j h. elim h [ inl p ↦ (omega arith, p.1) | inr q ↦ (omega arith, subst L (sym q.1) (c.leads-holds.ensures.0 q.0)) ])
    c.loop-k.invariant c.in_ok-add_formal.ensures

pub returns : goal.returns
returns c =
    let g = c.loop-k.invariant in
    λ k. (
      λ h. elim (g.only k h) [
        | inl old ↦ let no : Contains [] k = subst (λ (xs : List ℕ). Contains xs k) c.new-numbers.ensures.items old in absurd (omega (arith, no.1))
        | inr p ↦ p.1
      ],
      λ h. g.all k (omega (arith, slice_get_within c.args.formals.now k h.0 h.1, c.loop-k-test.false), h),
    )
