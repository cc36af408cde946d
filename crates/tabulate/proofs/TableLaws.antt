-- The answer is the table of the exit.
use Rattle.std.proofs.Common.{◌≡◌, ◌≢◌, ◌<◌, ◌≤◌, ◌+◌, ◌*◌, ◌-◌, ℕ, zero, suc, Bool, true, false, cond, List, [], ◌∷◌, length, get_or, reverse, Contains, Option, Some, ◌⊎◌, inl, inr, refl, sym, subst, ap, ◌∙◌, arith}
use Rattle.std.specs.Prelude.{AllPairs, slice_get, slice_index, count_by}
use Rattle.std.specs.Int.{bit_at}
use Rattle.std.proofs.lemmas.Bool.{false≢true}
use Rattle.std.proofs.lemmas.Option.{slice_get-get_or}
use Rattle.std.proofs.lemmas.List.Sums.{sum_by-cons, count_by-le-length}
use Rattle.std.proofs.lemmas.List.Sorted.{Contains-permutation, IsPermutation-reverse, IsPermutation-sym}
use Rattle.std.proofs.lemmas.List.{get_or-map, length-map}
use Rattle.bit_rows.proofs.Counting.{here, later, front_or}
use Rattle.slicer_ids.specs.declared.ids.NodeId.{NodeId}
use Rattle.slicer_ids.specs.declared.ids.MethodId.{MethodId}
use Rattle.slicer_ids.specs.declared.ids.ExitId.{ExitId}
use Rattle.slicer_ids.specs.declared.ids.Mode.{Mode}
use Rattle.slicer_ids.specs.Derivations.{IsDerivation}
use Rattle.dep_form.specs.declared.facts.Facts.{Facts}
use Rattle.dep_form.specs.declared.input.MethodInput.{MethodInput}
use Rattle.dep_form.specs.declared.node.Node.{Node}
use Rattle.dep_form.specs.declared.node.Node.TheVariants.{Return as ReturnNode}
use Rattle.dep_form.specs.Nodes.{is_formal}
use Rattle.dep_form.specs.Inputs.{IsNodeOf, formal_count}
use Rattle.dep_form.specs.Phases.{Level}
use Rattle.dep_form.specs.Slices.{ModeEdges}
use Rattle.dep_form.specs.Summaries.{IsExitAt, IsDemanded, IsRow, Summary, ModePathEdges}
use Rattle.dep_form.proofs.OneMethod.{summary_of_formals}
use Rattle.tabulate.specs.declared.found.Found.{Found}
use Rattle.tabulate.specs.declared.hands.Hands.{Hands}
use Rattle.tabulate.specs.declared.method.Method.{Method}
use Rattle.tabulate.specs.declared.table.Table.{Table}
use Rattle.tabulate.specs.Frames.{node, method_of, number_of, first_exit}
use Rattle.tabulate.specs.Found.{Got, Todo, total}
use Rattle.tabulate.specs.Hands.{hand_of}
use Rattle.tabulate.specs.Tables.{exits_of, HasExit, IsFirst, IsTable, IsTableFrom, IsCounted}
use Rattle.tabulate.specs.States.{IsDone, Holds, Demands, AreWanting, IsRowFound, IsWordFound}
use Rattle.tabulate.proofs.Placing.{exit_place, behind_first, of_input}
use Rattle.tabulate.proofs.Fitting.{of_node, formals_below}
use Rattle.tabulate.proofs.ModeEdges.{exit_low, level_method, level_of, path_of, return_of}
use Rattle.tabulate.proofs.MeetLaws.{asked_by_pair}
use Rattle.tabulate.proofs.PathLaws.{whole, to_exit}
use Rattle.tabulate.proofs.PairCount.{size_all}

none_formal : (xs : List Node) → ((k : ℕ) (d : Node) → k < length xs → is_formal (get_or xs k d) ≡ false) → count_by is_formal xs ≡ 0
none_formal [] none = refl
none_formal (x ∷ xs) none =
    let zero_here : ◌≡◌ {A = ℕ} (cond (is_formal x) 1 0) 0 = ap (λ b. cond b 1 0) (none 0 x (omega arith)) in
    omega (arith, zero_here, none_formal xs (λ k d lt. none (suc k) d (omega (arith, lt))), sum_by-cons (λ y. cond (is_formal y) 1 0) x xs)

not_true : (b : Bool) → (b ≡ true → ⊥) → b ≡ false
not_true true f = absurd (f refl)
not_true false f = refl

-- the nodes with the numbers of formals are formals
formal_below : (xs : List Node) (k : ℕ) (none : Node) → ((i j : ℕ) (d : Node) → i ≤ j → j < length xs → is_formal (get_or xs j d) ≡ true → is_formal (get_or xs i d) ≡ true) → k < count_by is_formal xs → is_formal (get_or xs k none) ≡ true
formal_below [] k none first lt = absurd (omega (arith, lt))
formal_below (x ∷ xs) zero none first lt = go (is_formal x) refl
  where
    go : (b : Bool) → is_formal x ≡ b → is_formal x ≡ true
    go true e = e
    go false e = absurd (omega (arith, lt, none_formal (x ∷ xs) (λ k d l. not_true (is_formal (get_or (x ∷ xs) k d)) (λ t. false≢true (sym e ∙ first 0 k d (omega arith) l t)))))
formal_below (x ∷ xs) (suc k) none first lt = formal_below xs k none (λ i j d le l t. first (suc i) (suc j) d (omega arith) (omega arith) t) (omega (arith, lt, sum_by-cons (λ y. cond (is_formal y) 1 0) x xs, at_most (is_formal x)))
  where
    at_most : (b : Bool) → cond b 1 0 ≤ 1
    at_most true = omega arith
    at_most false = omega arith

module _ (p : Facts) (mode : Mode) (First : ExitId → Type 0) (Has : ExitId → Type 0) (ms : List (Option Method)) (h : Hands) (asked : List ExitId) (ts : List Found) (s : Holds p mode First Has ms h asked ts []) (d : IsDone p mode h (Got p ts) (Todo p ts)) where
  idle : (q : ℕ × ℕ) → Todo p ts q → ⊥
  idle q w = let c = s.in_queue.queued q.0 w.0 (s.found.waiting q w) in omega (arith, c.1)

  -- what leads to an exit that was asked for was found
  leads : (n x : NodeId) (k : ExitId) → Contains asked k → IsExitAt p k x → Level (ModeEdges p.inputs mode) n x → Got p ts (n.0, number_of p x.0)
  leads n x k c at l = whole p mode h asked s.hands.rows (Got p ts) (Todo p ts) d idle (number_of p x.0) l (s.begun k x c at)

  -- a row that was read off is the row of its exit
  module _ (k : ExitId) (bits : List ℕ) (c : Contains asked k) (r : IsRowFound p ts k bits) where
    abbrev m : MethodId
    m = r.size.0

    abbrev i : MethodInput
    i = r.size.1

    abbrev x : NodeId
    x = r.size.2

    word : (j : ℕ) → j < length bits → IsWordFound p ts i.first.0 (formal_count i) (number_of p x.0) j (slice_index bits j)
    word j lt = r.words m i x r.size.3 j r.size.4 r.size.5 r.size.6 lt

    home : method_of p x.0 ≡ m.0
    home = (of_node p x m r.size.3 (i, r.size.5, r.size.6)).1

    to_summary : (j b : ℕ) → j < length bits → b < 64 → bit_at (slice_index bits j) b ≡ 1 → Summary p mode k (64 * j + b)
    to_summary j b lt low o =
        let f = (word j lt b low).0 o in
        let n : ℕ = 64 * j + b in
        let g : NodeId = node (i.first.0 + n) in
        let within : n < length i.nodes = omega (arith, f.0, count_by-le-length is_formal i.nodes) in
        let own : method_of p g.0 ≡ m.0 = (of_input p g m.0 i r.size.5 (omega arith) (omega (arith, within))).1 in
        let place : n ≡ g.0 - i.first.0 = omega arith in
        let there : IsNodeOf i g (get_or i.nodes n ReturnNode) = (omega arith, subst (λ (y : ℕ). slice_get i.nodes y ≡ Some (get_or i.nodes n ReturnNode)) place (slice_get-get_or i.nodes n ReturnNode within)) in
        let l = to_exit p mode h asked s.hands.rows g x k r.size.4 (own ∙ sym home) (s.good (g.0, number_of p x.0) f.1) in
        (m, i, x, g, r.size.3, r.size.4, r.size.5, r.size.6, (refl, get_or i.nodes n ReturnNode, there, formal_below i.nodes n ReturnNode i.formals_first f.0), path_of p mode g x l)

    from_summary : (j b : ℕ) → j < length bits → b < 64 → Summary p mode k (64 * j + b) → bit_at (slice_index bits j) b ≡ 1
    from_summary j b lt low sm =
        let n : ℕ = 64 * j + b in
        let f = summary_of_formals p mode k n x m i r.size.3 r.size.4 r.size.5 r.size.6 sm in
        let g : NodeId = f.0 in
        let place : g.0 ≡ i.first.0 + n = f.1.0 in
        let below = formals_below i.nodes (g.0 - i.first.0) f.1.1 i.formals_first f.1.2.1 f.1.3 in
        let got = leads g x k c r.size.4 (level_of p mode g x f.2) in
        (word j lt b low).1 (omega (arith, below, place), subst (λ (y : ℕ). Got p ts (y, number_of p x.0)) place got)

    row_is : IsRow p mode k bits
    row_is = record { size = r.size; masks = λ j lt b low. (to_summary j b lt low, from_summary j b lt low) }

  module _ (e : ExitId) (Had : ExitId → Type 0) (want : AreWanting Had (e ∷ []) asked) (own : Contains asked e) (firsts : (k : ExitId) → First k → Contains asked k ⊎ Has k) (t : Table) (exit_is : t.exit ≡ e) (mode_is : t.mode ≡ mode) (exits_are : exits_of t ≡ asked) (rows : (k : ExitId) (row : List ℕ) → Contains t.rows (k, row) → IsRowFound p ts k row) where
    of_table : (k : ExitId) → HasExit t k → Contains asked k
    of_table k c = subst (λ (ys : List ExitId). Contains ys k) exits_are c

    to_table : (k : ExitId) → Contains asked k → HasExit t k
    to_table k c = subst (λ (ys : List ExitId). Contains ys k) (sym exits_are) c

    of_row : (k : ExitId) (row : List ℕ) → Contains t.rows (k, row) → HasExit t k
    of_row k row c = (c.0, omega (arith, c.1, length-map t.rows (λ (y : ExitId × List ℕ). y.0)), get_or-map (λ (y : ExitId × List ℕ). y.0) t.rows c.0 (k, row) k c.1 ∙ ap (λ (y : ExitId × List ℕ). y.0) c.2)

    with_exits : (ks : List ExitId) → ((k : ExitId) → Contains ks k → HasExit t k) → IsDerivation (Demands p mode First) ks → IsDerivation (λ K k. HasExit t k × Demands p mode First K k) ks
    with_exits [] each x = tt
    with_exits (k ∷ ks) each x = ((each k (here k ks), x.0), with_exits ks (λ j c. each j (later k j ks c)) x.1)

    found_or_to_hand : (k : ExitId) → IsDemanded p (ModeEdges p.inputs mode) (HasExit t) k → HasExit t k ⊎ Has k
    found_or_to_hand k (x, n, call, j, at, r, (c, end, exit, path)) =
        let g = leads n end j (of_table j c) exit (level_of p mode n end path) in
        elim (d.asks n x (number_of p end.0) call g (return_of p mode x n call r)) [
          | inl w ↦ absurd (idle (n.0, number_of p end.0) w)
          | inr a ↦ elim a [
            | inl f ↦ inl (to_table k (asked_by_pair p mode asked k x at (s.good (x.0, number_of p x.0) f)))
            | inr b ↦ inr (s.hands.known k b.0 (sym (ap (hand_of h) (exit_place p k x at)) ∙ b.1))
          ]
        ]

    pub is_table : IsTableFrom p mode e First Had Has t
    is_table = record {
      exit = exit_is;
      mode_is = mode_is;
      own = to_table e own;
      once = subst (AllPairs (λ (a b : ExitId). a ≢ b)) (sym exits_are) s.exits.once;
      rows = λ k row c. row_is k row (of_table k (of_row k row c)) (rows k row c);
      firsts = λ k is. elim (firsts k is) [ inl c ↦ inl (to_table k c) | inr has ↦ inr has ];
      whole = found_or_to_hand;
      least = λ k c. (
        reverse asked,
        with_exits (reverse asked) (λ j b. to_table j (Contains-permutation (reverse asked) asked j (IsPermutation-sym asked (reverse asked) (IsPermutation-reverse asked)) b)) s.exits.derived,
        Contains-permutation asked (reverse asked) k (IsPermutation-reverse asked) (of_table k c),
      );
      wanting = λ k c. elim (want k (of_table k c)) [ inl o ↦ elim (front_or e k [] o) [ inl same ↦ inl (sym same) | inr none ↦ absurd (omega (arith, none.1)) ] | inr n ↦ inr n ];
    }

    abbrev R : NodeId × ExitId → Type 0
    R = ModePathEdges p mode (HasExit t)

    found_each : (n x : ℕ) → Got p ts (n, x) → R (node n, record { 0 = first_exit p (method_of p n) + x })
    found_each n x g =
        let good = s.good (n, x) g in
        let l = good.level (node n) refl in
        let place = behind_first p good.to good.end good.exit (exit_low p good.to good.end good.exit) in
        let same : good.to.0 ≡ first_exit p (method_of p n) + x = omega (arith, place, good.number, ap (first_exit p) (level_method p mode l)) in
        subst (λ (k : ℕ). R (node n, record { 0 = k })) same (to_table good.to good.was_asked, good.end, good.exit, path_of p mode (node n) good.end l)

    found_whole : (n : NodeId) (k : ExitId) → R (n, k) → (x : ℕ) × Got p ts (n.0, x) × (k.0 ≡ first_exit p (method_of p n.0) + x)
    found_whole n k (c, x, at, path) =
        let l = level_of p mode n x path in
        (number_of p x.0, leads n x k (of_table k c) at l, omega (arith, behind_first p k x at (exit_low p k x at), ap (first_exit p) (level_method p mode l)))

    pub is_counted : (before after : ℕ) → after ≡ before + total ts → IsCounted p mode before after t
    is_counted before after turns = (total ts, size_all p ts s.found R found_each found_whole, turns)

-- where no other exit comes first, the table is that of the exit
module _ (f : Facts) (mode : Mode) (e : ExitId) (t : Table) where
  alone : (d : ExitId) → IsFirst e [] d → d ≡ e
  alone d (inl is) = is
  alone d (inr c) = absurd (omega (arith, c.1))

  asked_alone : (ks : List ExitId) → IsDerivation (λ K d. HasExit t d × (IsFirst e [] d ⊎ IsDemanded f (ModeEdges f.inputs mode) K d)) ks → IsDerivation (λ K d. HasExit t d × ((d ≡ e) ⊎ IsDemanded f (ModeEdges f.inputs mode) K d)) ks
  asked_alone [] x = tt
  asked_alone (k ∷ ks) x = ((x.0.0, elim x.0.1 [ inl is ↦ inl (alone k is) | inr m ↦ inr m ]), asked_alone ks x.1)

  pub table_alone : (Had Has : ExitId → Type 0) → IsTableFrom f mode e (IsFirst e []) Had Has t → IsTable f mode e Had Has t
  table_alone Had Has a = record {
    exit = a.exit;
    mode_is = a.mode_is;
    own = a.own;
    once = a.once;
    rows = a.rows;
    firsts = λ d is. a.firsts d (inl is);
    whole = a.whole;
    least = λ d c. let h = a.least d c in (h.0, asked_alone h.0 h.1, h.2);
    wanting = a.wanting;
  }
