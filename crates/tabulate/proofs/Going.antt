-- How such steps are joined.
use Rattle.std.proofs.Common.{ℕ, ◌+◌, ◌<◌, ◌≤◌, List, [], ◌∷◌, ◌++◌, length, get_or, take, ◌⊎◌, inl, inr, refl, sym, subst, ◌∙◌, arith}
use Rattle.std.proofs.lemmas.List.{take_more, take_all}
use Rattle.std.proofs.lemmas.List.Elements.{Contains-append_left, Contains-push, Contains-push_cases}
use Rattle.bit_rows.specs.Adds.{Taken}
use Rattle.bit_rows.proofs.Adding.{Grows, adds_none, adds_then, adds_same}
use Rattle.dep_form.specs.declared.facts.Facts.{Facts}
use Rattle.tabulate.specs.declared.found.Found.{Found}
use Rattle.slicer_ids.specs.declared.ids.NodeId.{NodeId}
use Rattle.tabulate.specs.Frames.{method_of}
use Rattle.tabulate.specs.Found.{Got, Todo, AreFound, IsQueue, Goes, IsSame}
use Rattle.tabulate.specs.Rules.{Rule, FromOne}

pub goes_none : (p : Facts) (ts : List Found) (q : List NodeId) (s : ℕ) (R : Rule) → AreFound p ts → IsQueue p ts q → ((x : ℕ × ℕ) → R (Taken (Got p ts) (Todo p ts)) x → Got p ts x) → Goes p ts ts q q s s R
goes_none p ts q s R t iq all = record { found = t; queue = iq; adds = adds_none (Got p ts) (Todo p ts) R all; lens = λ m. refl; work = omega arith; on = omega arith }

pub goes_same : (p : Facts) (ts ts' : List Found) (q q' : List NodeId) (s s' : ℕ) (P R : Rule) → ((x : ℕ × ℕ) → R (Taken (Got p ts) (Todo p ts)) x → P (Taken (Got p ts) (Todo p ts)) x) → ((x : ℕ × ℕ) → P (Taken (Got p ts) (Todo p ts)) x → R (Taken (Got p ts) (Todo p ts)) x)
    → Goes p ts ts' q q' s s' P → Goes p ts ts' q q' s s' R
goes_same p ts ts' q q' s s' P R to from g = record { found = g.found; queue = g.queue; adds = adds_same (Got p ts) (Todo p ts) (Got p ts') (Todo p ts') P R to from g.adds; lens = g.lens; work = g.work; on = g.on }

pub goes_then : (p : Facts) (ts ts1 ts2 : List Found) (q q1 q2 : List NodeId) (s s1 s2 : ℕ) (P Q R : Rule) → Grows Q
    → ((K : ℕ × ℕ → Type 0) (x : ℕ × ℕ) → R K x → P K x ⊎ Q K x) → ((K : ℕ × ℕ → Type 0) (x : ℕ × ℕ) → P K x ⊎ Q K x → R K x)
    → Goes p ts ts1 q q1 s s1 P → Goes p ts1 ts2 q1 q2 s1 s2 Q → Goes p ts ts2 q q2 s s2 R
goes_then p ts ts1 ts2 q q1 q2 s s1 s2 P Q R mono to from a b = record {
  found = b.found;
  queue = b.queue;
  adds = adds_then (Got p ts) (Todo p ts) (Got p ts1) (Todo p ts1) (Got p ts2) (Todo p ts2) P Q R mono to from a.adds b.adds;
  lens = λ m. b.lens m ∙ a.lens m;
  work = omega (arith, a.work, b.work);
  on = omega (arith, a.on, b.on);
}

-- a loop's step
pub goes_more : {X : Type 0} (R : X → Rule) (xs : List X) (i : ℕ) (d : X) (p : Facts) (ts ts1 ts2 : List Found) (q q1 q2 : List NodeId) (s s1 s2 : ℕ) → Grows (R (get_or xs i d)) → i < length xs
    → Goes p ts ts1 q q1 s s1 (FromOne R (take i xs)) → Goes p ts1 ts2 q1 q2 s1 s2 (R (get_or xs i d)) → Goes p ts ts2 q q2 s s2 (FromOne R (take (i + 1) xs))
goes_more {X} R xs i d p ts ts1 ts2 q q1 q2 s s1 s2 mono lt a b = subst (λ (ys : List X). Goes p ts ts2 q q2 s s2 (FromOne R ys)) (sym (take_more xs i d lt)) (goes_then p ts ts1 ts2 q q1 q2 s s1 s2 (FromOne R (take i xs)) (R (get_or xs i d)) (FromOne R (take i xs ++ get_or xs i d ∷ [])) mono to from a b)
  where
    to : (K : ℕ × ℕ → Type 0) (x : ℕ × ℕ) → FromOne R (take i xs ++ get_or xs i d ∷ []) K x → FromOne R (take i xs) K x ⊎ R (get_or xs i d) K x
    to K x f = elim (Contains-push_cases (take i xs) (get_or xs i d) f.0 f.1) [ inl c ↦ inl (f.0, c, f.2) | inr is ↦ inr (subst (λ y. R y K x) (sym is) f.2) ]

    from : (K : ℕ × ℕ → Type 0) (x : ℕ × ℕ) → FromOne R (take i xs) K x ⊎ R (get_or xs i d) K x → FromOne R (take i xs ++ get_or xs i d ∷ []) K x
    from K x (inl f) = (f.0, Contains-append_left (take i xs) (get_or xs i d ∷ []) f.0 f.1, f.2)
    from K x (inr r) = (get_or xs i d, Contains-push (take i xs) (get_or xs i d), r)

pub goes_start : {X : Type 0} (R : X → Rule) (xs : List X) (p : Facts) (ts : List Found) (q : List NodeId) (s : ℕ) → AreFound p ts → IsQueue p ts q → Goes p ts ts q q s s (FromOne R (take 0 xs))
goes_start R xs p ts q s t iq = goes_none p ts q s (FromOne R (take 0 xs)) t iq (λ x f. absurd (omega (arith, f.1.1)))

pub goes_whole : {X : Type 0} (R : X → Rule) (xs : List X) (i : ℕ) (p : Facts) (ts ts' : List Found) (q q' : List NodeId) (s s' : ℕ) → length xs ≤ i → Goes p ts ts' q q' s s' (FromOne R (take i xs)) → Goes p ts ts' q q' s s' (FromOne R xs)
goes_whole {X} R xs i p ts ts' q q' s s' le g = subst (λ (ys : List X). Goes p ts ts' q q' s s' (FromOne R ys)) (take_all i xs le) g

pub queue_same : (p : Facts) (ts ts1 : List Found) (q : List NodeId) → IsSame p ts ts1 → IsQueue p ts q → IsQueue p ts1 q
queue_same p ts ts1 q same iq = record { queued = λ n nl h. iq.queued n nl (same.waiting n h); opened = λ n c. let o = iq.opened n c in (o.0, same.stays (method_of p n) o.1) }
