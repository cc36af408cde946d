use Rattle.std.proofs.Common.{◌≡◌, ◌<◌, ◌≤◌, ◌+◌, ℕ, Some, List, length, inl, inr, refl, ap, ◌∙◌, sym, arith}
use Rattle.std.specs.Prelude.{slice_get}
use Rattle.std.specs.List.{slice_range}
use Rattle.std.proofs.lemmas.Bool.{cases_lt}
use Rattle.std.proofs.lemmas.Option.{slice_get_cases}
use Rattle.class_form.proofs.reach.Reach.at.Goals as goal

same_place : (x : ℕ × ℕ) (pc slot : ℕ) → (pc ≤ x.0) × (x.0 ≡ pc → slot ≤ x.1) → (x.0 ≤ pc) × (x.0 ≡ pc → x.1 < slot + 1) → x ≡ (pc, slot)
same_place x pc slot from to =
    let first : x.0 ≡ pc = omega arith in
    let second : x.1 ≡ slot = omega (arith, from.1 first, to.1 first) in
    ap (λ (n : ℕ). (n, x.1)) first ∙ ap (λ (n : ℕ). (pc, n)) second

module _ (places : List (ℕ × ℕ)) (pc slot low high : ℕ) (within : high ≤ length places)
    (before : (k : ℕ) (x : ℕ × ℕ) → k < low → slice_get places k ≡ Some x → (x.0 ≤ pc) × (x.0 ≡ pc → x.1 < slot))
    (after : (k : ℕ) (x : ℕ × ℕ) → low ≤ k → slice_get places k ≡ Some x → (pc ≤ x.0) × (x.0 ≡ pc → slot ≤ x.1))
    (before_next : (k : ℕ) (x : ℕ × ℕ) → k < high → slice_get places k ≡ Some x → (x.0 ≤ pc) × (x.0 ≡ pc → x.1 < slot + 1))
    (after_next : (k : ℕ) (x : ℕ × ℕ) → high ≤ k → slice_get places k ≡ Some x → (pc ≤ x.0) × (x.0 ≡ pc → slot + 1 ≤ x.1)) where
  here : (k : ℕ) → low ≤ k → k < high → slice_get places k ≡ Some (pc, slot)
  here k from to = elim (slice_get_cases places k).1 [
    | inl found ↦ found.2 ∙ ap (λ (x : ℕ × ℕ). Some x) (same_place found.0 pc slot (after k found.0 from found.2) (before_next k found.0 to found.2))
    | inr past ↦ absurd (omega arith)
  ]

  there : (k : ℕ) → slice_get places k ≡ Some (pc, slot) → (low ≤ k) × (k < high)
  there k e = (
    elim (cases_lt k low) [ inl lt ↦ absurd (omega (arith, (before k (pc, slot) lt e).1 refl)) | inr le ↦ le ],
    elim (cases_lt k high) [ inl lt ↦ lt | inr le ↦ absurd (omega (arith, (after_next k (pc, slot) le e).1 refl)) ],
  )

pub returns : goal.returns
returns c =
    let p = c.items-places.ensures in
    let low = c.first_from-low.result in
    let high = c.first_from-high.result in
    let places = c.items-places.result.now in
    let at = λ (k : ℕ). here places c.args.pc c.args.slot low high c.first_from-high.ensures.within c.first_from-low.ensures.before c.first_from-low.ensures.after c.first_from-high.ensures.before c.first_from-high.ensures.after k in
    let only = λ (k : ℕ). there places c.args.pc c.args.slot low high c.first_from-high.ensures.within c.first_from-low.ensures.before c.first_from-low.ensures.after c.first_from-high.ensures.before c.first_from-high.ensures.after k in
    (low, high, ap (λ xs. slice_range xs low high) c.items.ensures, λ k. (λ h. ap (λ xs. slice_get xs k) (sym p) ∙ at k h.0 h.1, λ e. only k (ap (λ xs. slice_get xs k) p ∙ e)))
