-- Which nodes come before which, by group, program counter and part.
use Rattle.std.proofs.Common.{◌≡◌, ◌⊎◌, ◌<◌, ◌++◌, ℕ, zero, suc, Bool, true, false, List, [], ◌∷◌, inl, inr, refl, sym, ap, subst, ◌∙◌, append_assoc, arith}
use Rattle.std.specs.Prelude.{map}
use Rattle.std.proofs.lemmas.Bool.{cases_lt}
use Rattle.slicer_ids.specs.Sets.{IsOrderedListOf}
use Rattle.slicer_ids.specs.declared.ids.LocId.{LocId}
use Rattle.dep_form.specs.declared.node.Node.{Node}
use Rattle.dep_form.specs.declared.node.Node.TheVariants.{Formal, HeapIn, Own, Argument, Result, Exception, HeapArg, HeapResult, Return, Thrown, HeapOut}
use Rattle.dep_form.specs.Nodes.{ComesBefore, rank}
use Rattle.method_facts.specs.Numbers.{LocBefore}
use Rattle.node_tables.specs.declared.segments.Heap.{Heap}
use Rattle.node_tables.specs.declared.segments.Heap.TheVariants.{Entry, Before, After, Exit}
use Rattle.node_tables.specs.Segments.{AddsNodes, arguments, formals, heap_node, optional}
use Rattle.node_tables.proofs.Joining.{ordered_both, ordered_map, ordered_none, ordered_one, ordered_same}

-- the node stands in this part
pub record IsInPart (g pc part : ℕ) (x : Node) : Type 0 where
  pub group : (rank x).group ≡ g
  pub place : (rank x).pc ≡ pc
  pub within : (rank x).part ≡ part

pub by_group : (x y : Node) → (rank x).group < (rank y).group → ComesBefore x y
by_group x y lt = inl lt

pub by_place : (x y : Node) → (rank x).group ≡ (rank y).group → (rank x).pc < (rank y).pc → ComesBefore x y
by_place x y e lt = inr (e, inl lt)

pub by_part : (g pc a b : ℕ) (x y : Node) → a < b → IsInPart g pc a x → IsInPart g pc b y → ComesBefore x y
by_part g pc a b x y lt p q = inr (p.group ∙ sym q.group, inr (p.place ∙ sym q.place, inl (omega (arith, lt, p.within, q.within))))

-- ---- one kind of node after another
pub heap_in_order : (heap : Heap) (a b : LocId) → LocBefore a b → ComesBefore (heap_node heap a) (heap_node heap b)
heap_in_order Entry a b lt = inr (refl, inr (refl, inr (refl, lt)))
heap_in_order (Before pc) a b lt = inr (refl, inr (refl, inr (refl, lt)))
heap_in_order (After pc) a b lt = inr (refl, inr (refl, inr (refl, lt)))
heap_in_order Exit a b lt = inr (refl, inr (refl, inr (refl, lt)))

pub locations_listed : (heap : Heap) (ls : List LocId) (P : LocId → Type 0) → IsOrderedListOf LocBefore ls P → IsOrderedListOf ComesBefore (map (heap_node heap) ls) (λ x. (n : LocId) × P n × (x ≡ heap_node heap n))
locations_listed heap ls P o = ordered_map LocBefore ComesBefore (heap_node heap) ls P (heap_in_order heap) o

pub optional_listed : (b : Bool) (x : Node) → IsOrderedListOf ComesBefore (optional b x) (λ y. (b ≡ true) × (y ≡ x))
optional_listed true x = ordered_same ComesBefore (x ∷ []) (λ y. y ≡ x) (λ y. (true ≡ true) × (y ≡ x)) (λ y e. (refl, e)) (λ y h. h.1) (ordered_one ComesBefore x)
optional_listed false x = ordered_none ComesBefore (λ y. (false ≡ true) × (y ≡ x)) (λ y h. absurd (cc h.0))

abbrev pub IsFormal : ℕ → Node → Type 0
IsFormal n x = (i : ℕ) × (i < n) × (x ≡ Formal i)

abbrev pub IsArgument : ℕ → ℕ → Node → Type 0
IsArgument pc n x = (i : ℕ) × (i < n) × (x ≡ Argument pc i)

pub formals_listed : (n : ℕ) → IsOrderedListOf ComesBefore (formals n) (IsFormal n)
formals_listed zero = ordered_none ComesBefore (IsFormal 0) (λ x h. omega (arith, h.1))
formals_listed (suc n) =
    ordered_same ComesBefore (formals n ++ Formal n ∷ []) (λ x. IsFormal n x ⊎ (x ≡ Formal n)) (IsFormal (suc n)) to from
    (ordered_both ComesBefore (formals n) (Formal n ∷ []) (IsFormal n) (λ x. x ≡ Formal n) (formals_listed n) (ordered_one ComesBefore (Formal n)) before)
  where
    to : (x : Node) → IsFormal n x ⊎ (x ≡ Formal n) → IsFormal (suc n) x
    to x (inl h) = (h.0, omega (arith, h.1), h.2)
    to x (inr e) = (n, omega arith, e)

    from : (x : Node) → IsFormal (suc n) x → IsFormal n x ⊎ (x ≡ Formal n)
    from x (i, lt, e) = elim (cases_lt i n) [ inl less ↦ inl (i, less, e) | inr le ↦ let same : i ≡ n = omega (arith, lt, le) in inr (e ∙ ap (λ k. Formal k) same) ]

    before : (x y : Node) → IsFormal n x → y ≡ Formal n → ComesBefore x y
    before x y (i, lt, e) f = subst (λ z. ComesBefore z y) (sym e) (subst (λ z. ComesBefore (Formal i) z) (sym f) (inr (refl, inr (refl, inr (refl, lt)))))

pub arguments_listed : (pc n : ℕ) → IsOrderedListOf ComesBefore (arguments pc n) (IsArgument pc n)
arguments_listed pc zero = ordered_none ComesBefore (IsArgument pc 0) (λ x h. omega (arith, h.1))
arguments_listed pc (suc n) =
    ordered_same ComesBefore (arguments pc n ++ Argument pc n ∷ []) (λ x. IsArgument pc n x ⊎ (x ≡ Argument pc n)) (IsArgument pc (suc n)) to from
    (ordered_both ComesBefore (arguments pc n) (Argument pc n ∷ []) (IsArgument pc n) (λ x. x ≡ Argument pc n) (arguments_listed pc n) (ordered_one ComesBefore (Argument pc n)) before)
  where
    to : (x : Node) → IsArgument pc n x ⊎ (x ≡ Argument pc n) → IsArgument pc (suc n) x
    to x (inl h) = (h.0, omega (arith, h.1), h.2)
    to x (inr e) = (n, omega arith, e)

    from : (x : Node) → IsArgument pc (suc n) x → IsArgument pc n x ⊎ (x ≡ Argument pc n)
    from x (i, lt, e) = elim (cases_lt i n) [ inl less ↦ inl (i, less, e) | inr le ↦ let same : i ≡ n = omega (arith, lt, le) in inr (e ∙ ap (λ k. Argument pc k) same) ]

    before : (x y : Node) → IsArgument pc n x → y ≡ Argument pc n → ComesBefore x y
    before x y (i, lt, e) f = subst (λ z. ComesBefore z y) (sym e) (subst (λ z. ComesBefore (Argument pc i) z) (sym f) (inr (refl, inr (refl, inr (refl, lt)))))

-- ---- nodes added, and nodes added after them
module _ (old mid new : List Node) (P Q R : Node → Type 0) where
  pub adds_then : ((x y : Node) → P x → Q y → ComesBefore x y) → ((x : Node) → P x ⊎ Q x → R x) → ((x : Node) → R x → P x ⊎ Q x) → AddsNodes old mid P → AddsNodes mid new Q → AddsNodes old new R
  adds_then before to from (xs, e, o) (ys, f, u) = (
    xs ++ ys,
    f ∙ ap (λ (zs : List Node). zs ++ ys) e ∙ append_assoc old xs ys,
    ordered_same ComesBefore (xs ++ ys) (λ x. P x ⊎ Q x) R to from (ordered_both ComesBefore xs ys P Q o u before),
  )
