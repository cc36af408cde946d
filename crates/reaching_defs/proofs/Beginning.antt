-- Which starts the loops find.
use Rattle.std.proofs.Common.{◌≡◌, ◌<◌, ◌+◌, ◌-◌, ℕ, List, [], length, take, get_or, sum, Contains, Some, inl, inr, refl, sym, ap, subst, ◌∙◌, arith}
use Rattle.std.specs.Prelude.{slice_get}
use Rattle.std.proofs.lemmas.Option.{slice_get_within, slice_get-get_or, same_Some}
use Rattle.class_form.specs.declared.body.Point.{Point}
use Rattle.class_form.specs.declared.body.Def.{Def}
use Rattle.class_form.specs.declared.body.Def.TheVariants.{Formal, Value, Caught}
use Rattle.worklists.specs.Growth.{Grows, FromOne}
use Rattle.worklists.proofs.Growing.{FromBelow, Grows-same, Grows-kept}
use Rattle.reaching_defs.specs.declared.starts.Start.{Start}
use Rattle.class_form.specs.declared.body.Shape.{Shape}
use Rattle.class_form.specs.Reaching.{Begins}
use Rattle.reaching_defs.specs.Frames.{place}
use Rattle.reaching_defs.specs.Starts.{start, IsStartIn, IsFormalStart, IsValueStart, HasHandler, IsCaughtStart, IsStart}

-- a start is its slot and its definition
made : (x : Start) (slot : ℕ) (def : Def) → x.slot ≡ slot → x.def ≡ def → x ≡ start slot def
made x slot def e d = ap (λ n. start n x.def) e ∙ ap (λ f. start slot f) d

pub slots_below : (def : Def) (first width : ℕ) (old new : List Start) → Grows old new (FromBelow (λ i x. x ≡ start (first + i) def) width) → Grows old new (IsStartIn def first width)
slots_below def first width old new g = Grows-same old new (FromBelow (λ i x. x ≡ start (first + i) def) width) (IsStartIn def first width) to from g
  where
    to : (x : Start) → FromBelow (λ i y. y ≡ start (first + i) def) width x → IsStartIn def first width x
    to x f = let e : x.slot ≡ first + f.0 = ap (λ (y : Start). y.slot) f.2 in (ap (λ (y : Start). y.def) f.2, omega arith, omega (arith, f.1))

    from : (x : Start) → IsStartIn def first width x → FromBelow (λ i y. y ≡ start (first + i) def) width x
    from x h = (x.slot - first, omega (arith, h.1, h.2), made x (first + (x.slot - first)) def (omega (arith, h.1)) h.0)

pub one_formal : (arguments : List ℕ) (i : ℕ) (first width : ℕ) (old new : List Start) → i < length arguments → width ≡ get_or arguments i 0 → first ≡ sum (take i arguments)
    → Grows old new (IsStartIn (Formal i) first width) → Grows old new (IsFormalStart arguments i)
one_formal arguments i first width old new lt w f g = Grows-same old new (IsStartIn (Formal i) first width) (IsFormalStart arguments i) to from g
  where
    is : slice_get arguments i ≡ Some width
    is = slice_get-get_or arguments i 0 lt ∙ ap (λ (n : ℕ). Some n) (sym w)

    to : (x : Start) → IsStartIn (Formal i) first width x → IsFormalStart arguments i x
    to x h = (width, is, subst (λ n. IsStartIn (Formal i) n width x) f h)

    from : (x : Start) → IsFormalStart arguments i x → IsStartIn (Formal i) first width x
    from x h = subst (λ n. IsStartIn (Formal i) n width x) (sym f) (subst (λ n. IsStartIn (Formal i) (sum (take i arguments)) n x) (same_Some h.0 width (sym h.1 ∙ is)) h.2)

pub all_formals : (arguments : List ℕ) (old new : List Start) → Grows old new (FromBelow (IsFormalStart arguments) (length arguments)) → Grows old new (λ x. (i : ℕ) × IsFormalStart arguments i x)
all_formals arguments old new g =
    Grows-same old new (FromBelow (IsFormalStart arguments) (length arguments)) (λ x. (i : ℕ) × IsFormalStart arguments i x)
    (λ x f. (f.0, f.2)) (λ x h. (h.0, slice_get_within arguments h.0 h.1.0 h.1.1, h.1)) g

pub all_made : (p : Point) (old new : List Start) → Grows old new (FromOne (λ slot x. x ≡ start slot (Value p.pc)) p.makes) → Grows old new (IsValueStart p)
all_made p old new g =
    Grows-same old new (FromOne (λ slot x. x ≡ start slot (Value p.pc)) p.makes) (IsValueStart p)
    (λ x f. (ap (λ (y : Start). y.def) f.2, subst (Contains p.makes) (sym (ap (λ (y : Start). y.slot) f.2)) f.1))
    (λ x h. (x.slot, h.1, made x x.slot (Value p.pc) refl h.0)) g

pub those : (xs old new : List ℕ) → Grows old new (FromOne (λ h x. x ≡ h) xs) → Grows old new (Contains xs)
those xs old new g = Grows-same old new (FromOne (λ h x. x ≡ h) xs) (Contains xs) (λ x f. subst (Contains xs) (sym f.2) f.1) (λ x c. (x, c, refl)) g

module _ (s : Shape) (handlers : List ℕ) (formals values all : List Start)
    (h : Grows [] handlers (FromOne HasHandler s.points))
    (f : Grows [] formals (λ x. (i : ℕ) × IsFormalStart s.arguments i x))
    (v : Grows formals values (FromOne IsValueStart s.points))
    (c : Grows values all (FromOne (IsCaughtStart s.max_locals) handlers)) where
  nothing : {A : Type 0} (x : A) → Contains [] x → ⊥
  nothing x n = absurd (omega (arith, n.1))

  caught_is : (x : Start) → FromOne (IsCaughtStart s.max_locals) handlers x → IsStart s x.slot x.def
  caught_is x (n, there, e) = elim (h.only n there) [
    | inl none ↦ absurd (nothing n none)
    | inr from ↦ subst (λ (y : Start). IsStart s y.slot y.def) (sym e) (from.0, from.1, from.2, refl)
  ]

  value_is : (x : Start) → FromOne IsValueStart s.points x → IsStart s x.slot x.def
  value_is x (p, there, (e, makes)) = subst (λ (d : Def). IsStart s x.slot d) (sym e) (p, (there, refl), makes)

  formal_is : (x : Start) (i : ℕ) → IsFormalStart s.arguments i x → IsStart s x.slot x.def
  formal_is x i (width, is, (e, lo, hi)) = subst (λ (d : Def). IsStart s x.slot d) (sym e) (width, is, lo, hi)

  pub each_start : (x : Start) → Contains all x → IsStart s x.slot x.def
  each_start x there = elim (c.only x there) [
    | inr caught ↦ caught_is x caught
    | inl before ↦ elim (v.only x before) [
      | inr value ↦ value_is x value
      | inl earlier ↦ elim (f.only x earlier) [ inl none ↦ absurd (nothing x none) | inr formal ↦ formal_is x formal.0 formal.1 ]
    ]
  ]

  keep_values : (x : Start) → Contains values x → Contains all x
  keep_values x there = Grows-kept values all (FromOne (IsCaughtStart s.max_locals) handlers) c x there

  pub all_starts : (pc slot : ℕ) (def : Def) → Begins s def (place pc slot) → Contains all (start slot def)
  all_starts pc slot (Formal i) b = keep_values (start slot (Formal i)) (Grows-kept formals values (FromOne IsValueStart s.points) v (start slot (Formal i)) (f.all (start slot (Formal i)) (i, (b.1.0, b.1.1, (refl, b.1.2, b.1.3)))))
  all_starts pc slot (Value p) b = keep_values (start slot (Value p)) (v.all (start slot (Value p)) (b.0, b.1.0, (ap (λ (n : ℕ). Value n) (sym b.1.1), b.3)))
  all_starts pc slot (Caught n) b = c.all (start slot (Caught n)) (n, h.all n (b.0, b.1, b.2), ap (λ (m : ℕ). start m (Caught n)) b.4)
