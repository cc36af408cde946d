-- How many path edges there are, as often as they are counted.
use Rattle.std.proofs.Common.{◌≡◌, ◌≤◌, ◌+◌, ◌-◌, ℕ, List, Contains, refl, sym, subst, ap, ◌∙◌, arith}
use Rattle.std.proofs.lemmas.List.Elements.{All-contains}
use Rattle.bit_rows.specs.Adds.{Taken}
use Rattle.slicer_ids.specs.declared.ids.NodeId.{NodeId}
use Rattle.slicer_ids.specs.declared.ids.ExitId.{ExitId}
use Rattle.slicer_ids.specs.declared.ids.Statement.{Statement}
use Rattle.dep_form.specs.declared.facts.Facts.{Facts}
use Rattle.dep_form.specs.declared.node.Edge.{Edge}
use Rattle.dep_form.specs.Slices.{Expanded}
use Rattle.dep_form.specs.Summaries.{HasSize, PathEdges, Needed}
use Rattle.dep_form.proofs.Monotone.{slice-wider, path-wider}
use Rattle.dep_form.proofs.Sizes.{no_longer, one_length}
use Rattle.tabulate.specs.Frames.{node, method_of, first_exit}
use Rattle.tabulate.specs.Found.{AreFound, total}
use Rattle.tabulate.proofs.PairCount.{size_all, size_map}
use Rattle.widening.specs.declared.pairs.Pairs.{Pairs}
use Rattle.widening.specs.Pairs.{Has, Waits}
use Rattle.widening.specs.Counts.{IsCount, IsSize}

module _ (f : Facts) (p : Pairs) (found : AreFound f p.found.items) where
  -- a pair by its exit
  abbrev Img : NodeId × ExitId → Type 0
  Img y = (x : ℕ) × Has f p (y.0.0, x) × (y.1.0 ≡ first_exit f (method_of f y.0.0) + x)

  abbrev back : NodeId × ExitId → ℕ × ℕ
  back y = (y.0.0, y.1.0 - first_exit f (method_of f y.0.0))

  image : HasSize Img (total p.found.items)
  image = size_all f p.found.items found Img (λ n x g. (x, g, refl)) (λ n d h. h)

  place : (y : NodeId × ExitId) (h : Img y) → h.0 ≡ (back y).1
  place y h = omega (arith, h.2)

  one : (a b : NodeId × ExitId) → Img a → Img b → back a ≡ back b → a ≡ b
  one a b h k e =
      let n : a.0.0 ≡ b.0.0 = ap (λ (q : ℕ × ℕ). q.0) e in
      let x : (back a).1 ≡ (back b).1 = ap (λ (q : ℕ × ℕ). q.1) e in
      let d : a.1.0 ≡ b.1.0 = omega (arith, h.2, k.2, place a h, place b k, x, ap (λ (j : ℕ). first_exit f (method_of f j)) n) in
      same_pair a.0.0 a.1.0 b.0.0 b.1.0 n d
    where
      same_pair : (n d m e : ℕ) → n ≡ m → d ≡ e → ◌≡◌ {A = NodeId × ExitId} (node n, record { 0 = d }) (node m, record { 0 = e })
      same_pair n d m e x y = ap (λ (k : ℕ). (node k, record { 0 = d })) x ∙ ap (λ (k : ℕ). (node m, record { 0 = k })) y

  -- where nothing waits, all pairs were taken up
  pub count_there : ((q : ℕ × ℕ) → Waits f p q → ⊥) → IsCount f p (total p.found.items)
  count_there idle = size_map back (node 0, record { 0 = 0 }) Img (Taken (Has f p) (Waits f p)) (total p.found.items) image
      (λ y h. (subst (λ (k : ℕ). Has f p (y.0.0, k)) (place y h) h.1, idle (back y))) one
      (λ q t. ((node q.0, record { 0 = first_exit f (method_of f q.0) + q.1 }), (q.1, t.0, refl), ap (λ (k : ℕ). (q.0, k)) (minus (first_exit f (method_of f q.0)) q.1)))
    where
      minus : (a b : ℕ) → (a + b) - a ≡ b
      minus a b = omega arith

module _ (f : Facts) (seeds : List NodeId) where
  pub one_size : (X : Statement → Type 0) (n m : ℕ) → IsSize f X seeds n → IsSize f X seeds m → n ≡ m
  one_size X n m a b = a.2 ∙ one_length (PathEdges f X (Needed f X (Contains seeds))) a.0 b.0 a.1 b.1 ∙ sym b.2

  module _ (X Y : Statement → Type 0) (more : (s : Statement) → X s → Y s) where
    wide : (e : Edge) → Expanded f.inputs X e → Expanded f.inputs Y e
    wide e h = (h.0, λ b. let s = h.1 b in (s.0, more s.0 s.1, s.2))

    edges_on : (q : NodeId × ExitId) → PathEdges f X (Needed f X (Contains seeds)) q → PathEdges f Y (Needed f Y (Contains seeds)) q
    edges_on q (need, x, at, path) = (
      (need.0, need.1, slice-wider (Expanded f.inputs X) (Expanded f.inputs Y) wide (Contains seeds) (Contains seeds) (λ n s. s) need.0 need.2),
      x,
      at,
      (path.0, path-wider (Expanded f.inputs X) (Expanded f.inputs Y) wide path.0 q.0 x path.1, path.2),
    )

    -- with more accesses expanded there are no fewer
    pub size_grows : (n m : ℕ) → IsSize f X seeds n → IsSize f Y seeds m → n ≤ m
    size_grows n m a b =
        let le = no_longer a.0 b.0 a.1.once (λ q c. b.1.whole q (edges_on q (All-contains (PathEdges f X (Needed f X (Contains seeds))) a.0 q a.1.each c))) in
        omega (arith, le, a.2, b.2)
