-- What happens in an outside call, from facts that can be added to any derivation.
use Rattle.std.proofs.Common.{ℕ, Bool, List, inl, inr}
use Rattle.dep_form.specs.declared.rules.OutsideRule.{OutsideRule}
use Rattle.dep_form.specs.PointsTo.{Fact, Cell, OutsideAt, OutsideArgument, OneMayBe, Gives, Writes}
use Rattle.constraint_form.proofs.Adding.{Widens, Extends, Adds, both}

module _ {V S F C : Type 0} (R : (Fact V S F C → Type 0) → Fact V S F C → Type 0) (call : C) (instance : Bool) (r : OutsideRule) where
  -- what an argument may be, as far as some facts say
  abbrev Says : Type 1
  Says = (Fact V S F C → Type 0) → ℕ → S → Type 0

  module _ (A : (Fact V S F C → Type 0) → ℕ → S → Type 0) (wide : (i : ℕ) (h : S) → Widens (λ K. A K i h)) (ends : (i : ℕ) (h : S) → A (Adds R) i h → Extends R (λ K. A K i h)) (State : S → F → Type 0) where
    abbrev Argument : (Fact V S F C → Type 0) → ℕ → S → Type 0
    Argument K i h = OutsideArgument K call instance r (A K) State i h

    abbrev One : (Fact V S F C → Type 0) → List ℕ → S → Type 0
    One K is h = OneMayBe K call instance r (A K) State is h

    argument_wide : (i : ℕ) (h : S) → Widens (λ K. Argument K i h)
    argument_wide i h K L w (inl x) = inl (x.0, w _ x.1)
    argument_wide i h K L w (inr x) = inr (x.0, (x.1.0, w _ x.1.1), wide i h K L w x.2)

    one_wide : (is : List ℕ) (h : S) → Widens (λ K. One K is h)
    one_wide is h K L w x = (x.0, x.1, argument_wide x.0 h K L w x.2)

    argument_extends : (i : ℕ) (h : S) → Argument (Adds R) i h → Extends R (λ K. Argument K i h)
    argument_extends i h (inl (n, x)) = λ base d. let y = x base d in (y.0, y.1, y.2, inl (n, y.3))
    argument_extends i h (inr (n, (o, x), a)) = λ base d.
        let y = both R (λ K. K (OutsideAt call o)) (λ K. A K i h) (λ K L w k. w _ k) x (ends i h a) base d in
        (y.0, y.1, y.2, inr (n, (o, y.3.0), y.3.1))

    one_extends : (is : List ℕ) (h : S) → One (Adds R) is h → Extends R (λ K. One K is h)
    one_extends is h (i, c, a) = λ base d. let y = argument_extends i h a base d in (y.0, y.1, y.2, (i, c, y.3))

    pub gives_extends : (is : List ℕ) (h : S) → Gives (Adds R) call instance r (A (Adds R)) State is h → Extends R (λ K. Gives K call instance r (A K) State is h)
    gives_extends is h (inl x) = λ base d. let y = one_extends is h x base d in (y.0, y.1, y.2, inl y.3)
    gives_extends is h (inr (b, f, x, st, c)) = λ base d.
        let y = both R (λ K. One K is b) (λ K. K (Cell b f h)) (one_wide is b) (one_extends is b x) c base d in
        (y.0, y.1, y.2, inr (b, f, y.3.0, st, y.3.1))

    pub writes_wide : (E : S → F → Type 0) (b : S) (f : F) → Widens (λ K. Writes K call instance r (A K) State E b f)
    writes_wide E b f K L w (inl x) = inl (one_wide r.states b K L w x.0, x.1)
    writes_wide E b f K L w (inr x) = inr (one_wide r.arrays b K L w x.0, x.1)

    pub writes_extends : (E : S → F → Type 0) (b : S) (f : F) → Writes (Adds R) call instance r (A (Adds R)) State E b f → Extends R (λ K. Writes K call instance r (A K) State E b f)
    writes_extends E b f (inl (x, st)) = λ base d. let y = one_extends r.states b x base d in (y.0, y.1, y.2, inl (y.3, st))
    writes_extends E b f (inr (x, st)) = λ base d. let y = one_extends r.arrays b x base d in (y.0, y.1, y.2, inr (y.3, st))
