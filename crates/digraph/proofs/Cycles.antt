-- Cycles, by what is reached.
use Rattle.std.proofs.Common.{◌≡◌, ℕ, zero, suc, ◌<◌, ◌∙◌, List, [], ◌∷◌, length, refl, sym, subst, arith}
use Rattle.std.specs.Prelude.{slice_index}
use Rattle.std.proofs.lemmas.Grind.{get_or_default_zero}
use Rattle.digraph.proofs.Marks.{node_of_edge}
use Rattle.std.specs.Global.{Vec}
use Rattle.slicer_ids.specs.Walks.{IsWalk, LeadsOn, Leads, stay, more}
use Rattle.slicer_ids.proofs.WalkForms.{by_list, by_cases}
use Rattle.digraph.specs.Graphs.{HasEdge}
use Rattle.digraph.specs.Orders.{IsOnCycle, IsOrder, LeadsBack}

-- one edge more
pub on_from : (E : ℕ → ℕ → Type 0) (n a b : ℕ) → Leads E n a → E a b → LeadsOn E n b
on_from E n a b stay e = (b, e, ([], refl))
on_from E n a b (more {b = c} r f) e =
    let t = on_from E n c a r f in
    (t.0, t.1, by_list E t.0 (more (by_cases E t.0 t.0 a t.2.0 stay t.2.1) e))

-- the last edge of a walk
last_edge : (E : ℕ → ℕ → Type 0) (n a x b : ℕ) (xs : List ℕ) → Leads E n a → E a x → IsWalk E x xs b → (c : ℕ) × Leads E n c × E c b
last_edge E n a x b [] r e w = (a, r, subst (E a) w e)
last_edge E n a x b (y ∷ ys) r e w = last_edge E n x y b ys (more r e) w.0 w.1

pub cycle_edge : (g : List (Vec ℕ)) (n : ℕ) → IsOnCycle g n → (c : ℕ) × Leads (HasEdge g) n c × HasEdge g c n
cycle_edge g n h = last_edge (HasEdge g) n n h.0 n h.2.0 stay h.1 h.2.1

-- each step of a walk leads further back in the order
back_walk : (g : List (Vec ℕ)) (order : List ℕ) (i a x b : ℕ) (xs : List ℕ) → LeadsBack g order → slice_index order i ≡ a → i < length order → HasEdge g a x → IsWalk (HasEdge g) x xs b
    → (j : ℕ) × (j < i) × (slice_index order j ≡ b)
back_walk g order i a x b [] back at l e w =
    subst (λ y. (j : ℕ) × (j < i) × (slice_index order j ≡ y)) w (back i x l (subst (λ m. HasEdge g m x) (sym at) e))
back_walk g order i a x b (y ∷ ys) back at l e w =
    let j = back i x l (subst (λ m. HasEdge g m x) (sym at) e) in
    let t = back_walk g order j.0 x y b ys back j.2 (omega arith) w.0 w.1 in
    (t.0, omega arith, t.2)

no_cycle_below : (g : List (Vec ℕ)) (order : List ℕ) (n m i : ℕ) → LeadsBack g order → i < m → slice_index order i ≡ n → i < length order → IsOnCycle g n → ⊥
no_cycle_below g order n zero i back h at l c = omega arith
no_cycle_below g order n (suc m) i back h at l c =
    let t = back_walk g order i n c.0 n c.2.0 back at l c.1 c.2.1 in
    no_cycle_below g order n m t.0 back (omega arith) t.2 (omega arith) c

-- a graph with such an order has no cycle
pub no_cycle : (g : List (Vec ℕ)) (order : List ℕ) → IsOrder g order → (n : ℕ) → IsOnCycle g n → ⊥
no_cycle g order o n c =
    let p = o.whole n (node_of_edge g n c.0 c.1) in
    no_cycle_below g order n (suc p.0) p.0 o.back (omega arith) (sym (get_or_default_zero order p.0 n p.1) ∙ p.2) p.1 c

-- a cycle of one relation is one of another that has its steps
pub same_cycle : (E F : ℕ → ℕ → Type 0) → ((a b : ℕ) → E a b → F a b) → (a b : ℕ) → LeadsOn E a b → LeadsOn F a b
same_cycle E F f a b h = (h.0, f a h.0 h.1, (h.2.0, walk h.0 b h.2.0 h.2.1))
  where
    walk : (a b : ℕ) (xs : List ℕ) → IsWalk E a xs b → IsWalk F a xs b
    walk a b [] w = w
    walk a b (x ∷ xs) w = (f a x w.0, walk x b xs w.1)
