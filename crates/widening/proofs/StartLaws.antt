-- What a slice with more accesses expanded begins with.
use Rattle.std.proofs.Common.{◌≡◌, ◌<◌, ◌++◌, ℕ, List, [], length, take, Contains, Option, Some, None, Bool, true, false, ◌⊎◌, inl, inr, sym, subst, ap, ◌∙◌, arith}
use Rattle.std.specs.Prelude.{slice_index_or, All, replicate}
use Rattle.std.proofs.lemmas.Bool.{cases_lt, false≢true}
use Rattle.std.proofs.lemmas.Option.{slice_get_within, get_or_from_slice_get}
use Rattle.std.proofs.lemmas.List.{get_or-replicate, get_or_past, length-replicate}
use Rattle.std.proofs.lemmas.List.Elements.{Contains-append_left, Contains-append_right, Contains-append_cases}
use Rattle.slicer_ids.specs.declared.ids.NodeId.{NodeId}
use Rattle.slicer_ids.specs.declared.ids.ExitId.{ExitId}
use Rattle.slicer_ids.specs.declared.ids.Statement.{Statement}
use Rattle.dep_form.specs.declared.facts.Facts.{Facts}
use Rattle.dep_form.specs.declared.node.Edge.{Edge}
use Rattle.dep_form.specs.Inputs.{BelongsTo}
use Rattle.dep_form.specs.Slices.{NodesOf}
use Rattle.thin_slice.specs.declared.needs.Phase.{Phase}
use Rattle.thin_slice.specs.declared.needs.Phase.TheVariants.{Up, Down}
use Rattle.dep_form.specs.Phases.{stay, level}
use Rattle.thin_slice.specs.Marks.{AreNodesOf, found}
use Rattle.tabulate.specs.declared.method.Method.{Method}
use Rattle.tabulate.specs.Frames.{count}
use Rattle.tabulate.specs.Methods.{AreMethods}
use Rattle.tabulate.specs.declared.found.Found.{Found}
use Rattle.tabulate.specs.Found.{IsQueue, IsBlank, Got}
use Rattle.tabulate.proofs.Blank.{nothing, nothing_waits, no_waits, blank_tables, blank_queue}
use Rattle.tabulate.proofs.Fitting.{of_node}
use Rattle.widening.specs.declared.expansions.Expansions.{Expansions}
use Rattle.widening.specs.declared.pairs.Pairs.{Pairs}
use Rattle.widening.specs.declared.state.State.{State}
use Rattle.widening.specs.Edges.{Widened, IsOpened, AreExpansions, Opens}
use Rattle.widening.specs.Pairs.{Has, Waits, IsGood, IsDone, ArePairs, AreNeeded, AtNodes, Either, KeepsMet}
use Rattle.widening.specs.Marks.{IsMarking, IsBegun}
use Rattle.widening.specs.States.{IsSliced, IsGrowing, IsCopyOf}
use Rattle.widening.proofs.EdgeSets.{widened_edges}
use Rattle.widening.proofs.AskLaws as ask_laws
use Rattle.widening.proofs.GrowLaws.{marking_on}
use Rattle.widening.proofs.WiderLaws.{leads_wider, good_wider, needed_wider, widens, done_wider, begun_wider}
use Rattle.widening.proofs.CopyLaws.{got_on, got_back, todo_back, waits_len, found_copy, queue_copy, found_same, nodes_copy}

-- a node of a statement is a node
pub belongs_low : (f : Facts) (n : NodeId) (s : Statement) → BelongsTo f.inputs n s → n.0 < count f
belongs_low f n s b = (of_node f n s.method b.0 b.1).0

module _ (f : Facts) (seeds : List NodeId) (ms : List (Option Method)) (s c : State) (t : IsSliced f seeds ms s) (copy : IsCopyOf s c)
    (more : List Statement) (y : Expansions) (again : List NodeId) (accesses : y.accesses.items ≡ c.expansions.accesses.items ++ more)
    (opens : Opens (NodesOf f.inputs (Contains more)) c.expansions.marks.items y.marks.items [] again) where
  all : y.accesses.items ≡ s.expansions.accesses.items ++ more
  all = accesses ∙ ap (λ (xs : List Statement). xs ++ more) copy.accesses

  pub opened_more : (z : Statement) → IsOpened s.expansions z → IsOpened y z
  opened_more z h = subst (λ (xs : List Statement). Contains xs z) (sym all) (Contains-append_left s.expansions.accesses.items more z h)

  opened_cases : (z : Statement) → IsOpened y z → IsOpened s.expansions z ⊎ Contains more z
  opened_cases z h = Contains-append_cases s.expansions.accesses.items more z (subst (λ (xs : List Statement). Contains xs z) all h)

  nodes_cases : (n : NodeId) → NodesOf f.inputs (IsOpened y) n → NodesOf f.inputs (IsOpened s.expansions) n ⊎ Contains again n
  nodes_cases n (z, o, b) = elim (opened_cases z o) [ inl h ↦ inl (z, h, b) | inr m ↦ inr (opens.grown.all n (z, m, b)) ]

  expansions_on : AreExpansions f y
  expansions_on = record {
    len = opens.len ∙ ap length copy.marks ∙ t.expansions.len;
    marked = λ n h. elim (opens.only n h) [
      | inl o ↦ let z = t.expansions.marked n (ap (λ (bs : List Bool). slice_index_or bs n.0 false) (sym copy.marks) ∙ o) in (z.0, opened_more z.0 z.1, z.2)
      | inr z ↦ (z.0, subst (λ (xs : List Statement). Contains xs z.0) (sym all) (Contains-append_right s.expansions.accesses.items more z.0 z.1), z.2)
    ];
    all = λ n h. elim (opened_cases h.0 h.1) [
      | inl o ↦ opens.kept n (ap (λ (bs : List Bool). slice_index_or bs n.0 false) copy.marks ∙ t.expansions.all n (h.0, o, h.2))
      | inr m ↦ opens.all n (h.0, m, h.2)
    ];
  }

  abbrev E : Edge → Type 0
  E = Widened f s.expansions

  abbrev F : Edge → Type 0
  F = Widened f y

  wide : (e : Edge) → E e → F e
  wide e h = widens f s.expansions y again opened_more nodes_cases e h

  old : Pairs
  old = s.pairs

  on : (q : ℕ × ℕ) → Has f s.pairs q → Has f c.pairs q
  on q g = got_on f s.pairs.found.items c.pairs.found.items copy.found q g

  back : (q : ℕ × ℕ) → Has f c.pairs q → Has f s.pairs q
  back q g = got_back f s.pairs.found.items c.pairs.found.items copy.found q g

  no_wait : (q : ℕ × ℕ) → Waits f c.pairs q → ⊥
  no_wait q w =
      let o = todo_back f s.pairs.found.items c.pairs.found.items copy.found q w in
      let k = t.pairs.pairs.queue.queued q.0 o.0 (t.pairs.pairs.found.waiting q o) in
      let none : Contains [] (record { 0 = q.0 }) = subst (λ (xs : List NodeId). Contains xs (record { 0 = q.0 })) t.pairs.idle k in
      omega (arith, none.1)

  asked_same : c.pairs.asked.items ≡ s.pairs.asked.items
  asked_same = copy.asked

  pairs_on : ArePairs f F ms c.pairs
  pairs_on = record {
    edges = widened_edges f y;
    methods = t.pairs.pairs.methods;
    found = found_copy f s.pairs.found.items c.pairs.found.items copy.found t.pairs.pairs.found;
    queue = subst (λ (xs : List NodeId). IsQueue f c.pairs.found.items xs) (sym copy.queue) (queue_copy f s.pairs.found.items c.pairs.found.items copy.found (subst (λ (xs : List NodeId). IsQueue f s.pairs.found.items xs) t.pairs.idle t.pairs.pairs.queue));
    met = λ m lt. t.pairs.pairs.met m (omega (arith, lt, waits_len f s.pairs.found.items c.pairs.found.items copy.found m));
    begun = λ d x k at. on _ (t.pairs.pairs.begun d x (subst (λ (xs : List ExitId). Contains xs d) copy.asked k) at);
    good = λ q g. subst (λ (xs : List ExitId). IsGood f F xs q) (sym copy.asked) (good_wider E F wide f s.pairs.asked.items q (t.pairs.pairs.good q (back q g)));
    sub = λ q w. absurd (no_wait q w);
  }

  done_on : IsDone f F (Has f c.pairs) (Either (Waits f c.pairs) (AtNodes again))
  done_on =
      let d = done_wider f s.expansions y again opened_more nodes_cases (Has f s.pairs) t.pairs.done in
      record {
        flows = λ n a k u h. elim (d.flows n a k (back (n.0, k) u) h) [ inl w ↦ inl (inr w) | inr b ↦ inr (on (a.0, k) b) ];
        asks = λ n e k j u h. elim (d.asks n e k j (back (n.0, k) u) h) [ inl w ↦ inl (inr w) | inr b ↦ inr (on _ b) ];
        calls = λ n a g e k j u v r h own. elim (d.calls n a g e k j (back (n.0, k) u) (back _ v) r h own) [ inl w ↦ inl (inr w) | inr b ↦ inr (elim b [ inl w ↦ inl (inr w) | inr z ↦ inr (on (a.0, k) z) ]) ];
      }

  -- the copy, with more accesses expanded, is part of the slice with these expanded
  pub growing : (ups : ℕ) → ups ≡ length (found c.up) → IsGrowing f seeds again ups ms (record c { expansions = y })
  growing ups is = record {
    expansions = expansions_on;
    nodes = λ n k. elim (opens.grown.only n k) [ inl o ↦ absurd (omega (arith, o.1)) | inr z ↦ belongs_low f n z.0 z.2 ];
    pairs = pairs_on;
    done = done_on;
    needed = subst (λ (xs : List ExitId). AreNeeded f F seeds xs) (sym copy.asked) (needed_wider E F wide f seeds s.pairs.asked.items t.needed);
    there = λ n k. subst (λ (xs : List NodeId). Contains xs n) (sym ups_same) (t.there n k);
    up = nodes_copy s.up c.up copy.up f t.up;
    up_leads = λ n k. leads_wider E F wide seeds Up n (t.up_leads n (subst (λ (xs : List NodeId). Contains xs n) ups_same k));
    up_begun = subst (λ (k : ℕ). IsBegun f F Up again ms c.pairs.asked.items k (found c.up)) (sym is) (begun Up (found s.up) (found c.up) ups_same t.up_steps);
    down = nodes_copy s.down c.down copy.down f t.down;
    down_leads = λ n k. leads_wider E F wide seeds Down n (t.down_leads n (subst (λ (xs : List NodeId). Contains xs n) downs_same k));
    down_begun = begun Down (found s.down) (found c.down) downs_same t.down_steps;
  }
    where
      ups_same : found c.up ≡ found s.up
      ups_same = found_same s.up c.up copy.up

      downs_same : found c.down ≡ found s.down
      downs_same = found_same s.down c.down copy.down

      begun : (phase : Phase) (xs ys : List NodeId) → ys ≡ xs → IsMarking f E phase ms s.pairs.asked.items (length xs) xs → IsBegun f F phase again ms c.pairs.asked.items (length ys) ys
      begun phase xs ys e m = subst (λ (zs : List NodeId). IsBegun f F phase again ms c.pairs.asked.items (length zs) zs) (sym e)
          (subst (λ (ds : List ExitId). IsBegun f F phase again ms ds (length xs) xs) (sym copy.asked) (begun_wider f s.expansions y again opened_more nodes_cases phase ms s.pairs.asked.items (length xs) xs m))

-- more methods are met
pub sliced_on : (f : Facts) (seeds : List NodeId) (ms ms1 : List (Option Method)) (s : State) → AreMethods f ms1 → KeepsMet ms ms1 → IsSliced f seeds ms s → IsSliced f seeds ms1 s
sliced_on f seeds ms ms1 s are met t = record {
  expansions = t.expansions;
  pairs = record { pairs = ask_laws.pairs_on f (Widened f s.expansions) ms ms1 s.pairs are met t.pairs.pairs; idle = t.pairs.idle; done = t.pairs.done };
  needed = t.needed;
  there = t.there;
  up = t.up;
  up_leads = t.up_leads;
  up_steps = marking_on f (Widened f s.expansions) Up ms ms1 s.pairs.asked.items s.pairs.asked.items met (λ d k. k) (length (found s.up)) (found s.up) t.up_steps;
  ups = t.ups;
  down = t.down;
  down_leads = t.down_leads;
  down_steps = marking_on f (Widened f s.expansions) Down ms ms1 s.pairs.asked.items s.pairs.asked.items met (λ d k. k) (length (found s.down)) (found s.down) t.down_steps;
}

-- nothing but the seeds is marked
module _ (f : Facts) (seeds : List NodeId) (ms : List (Option Method)) (s : State) (are : AreMethods f ms) (no_access : s.expansions.accesses.items ≡ []) (marks : s.expansions.marks.items ≡ replicate (count f) false)
    (no_asked : s.pairs.asked.items ≡ []) (no_queue : s.pairs.queue.items ≡ []) (len : length s.pairs.found.items ≡ length f.inputs) (blank : All IsBlank s.pairs.found.items)
    (up : AreNodesOf f s.up) (seeds_in : (n : NodeId) → Contains seeds n → Contains (found s.up) n) (only : (n : NodeId) → Contains (found s.up) n → Contains seeds n) (down : AreNodesOf f s.down) (no_down : found s.down ≡ []) where
  no_pair : (q : ℕ × ℕ) → Has f s.pairs q → ⊥
  no_pair q g = nothing f s.pairs.found.items blank q g

  nobody : {A : Type 0} (xs : List A) → xs ≡ [] → (x : A) → Contains xs x → ⊥
  nobody {A} xs e x c = let none : Contains [] x = subst (λ (ys : List A). Contains ys x) e c in omega (arith, none.1)

  no_mark : (n : ℕ) → slice_index_or s.expansions.marks.items n false ≡ true → ⊥
  no_mark n h = false≢true (sym (unset (count f) n) ∙ sym (ap (λ (bs : List Bool). slice_index_or bs n false) marks) ∙ h)
    where
      unset : (k n : ℕ) → slice_index_or (replicate k false) n false ≡ false
      unset k n = elim (cases_lt n k) [ inl lt ↦ get_or-replicate k n false false lt | inr past ↦ get_or_past (replicate k false) n false (omega (arith, past, length-replicate k false)) ]

  pub starting : IsGrowing f seeds [] 0 ms s
  starting = record {
    expansions = record { len = ap length marks ∙ length-replicate (count f) false; marked = λ n h. absurd (no_mark n.0 h); all = λ n h. absurd (nobody s.expansions.accesses.items no_access h.0 h.1) };
    nodes = λ n c. absurd (omega (arith, c.1));
    pairs = record {
      edges = widened_edges f s.expansions;
      methods = are;
      found = blank_tables f s.pairs.found.items blank len;
      queue = subst (λ (xs : List NodeId). IsQueue f s.pairs.found.items xs) (sym no_queue) (blank_queue f s.pairs.found.items blank);
      met = λ m lt. absurd (omega (arith, lt, no_waits f s.pairs.found.items blank m));
      begun = λ d x c at. absurd (nobody s.pairs.asked.items no_asked d c);
      good = λ q g. absurd (no_pair q g);
      sub = λ q w. absurd (nothing_waits f s.pairs.found.items blank q w);
    };
    done = record { flows = λ n a x u h. absurd (no_pair (n.0, x) u); asks = λ n e x k u h. absurd (no_pair (n.0, x) u); calls = λ n a g e x k u v r c own. absurd (no_pair (n.0, x) u) };
    needed = λ d x c at. absurd (nobody s.pairs.asked.items no_asked d c);
    there = seeds_in;
    up = up;
    up_leads = λ n c. (n, only n c, level stay);
    up_begun = record { moves = λ n q c m. absurd (omega (arith, c.1)); served = λ n c. absurd (omega (arith, c.1)); within = omega arith };
    down = down;
    down_leads = λ n c. absurd (nobody (found s.down) no_down n c);
    down_begun = record { moves = λ n q c m. absurd (nobody (take (length (found s.down)) (found s.down)) (ap (λ (xs : List NodeId). take (length xs) xs) no_down) n c); served = λ n c. absurd (nobody (take (length (found s.down)) (found s.down)) (ap (λ (xs : List NodeId). take (length xs) xs) no_down) n c); within = omega arith };
  }

pub no_pair_yet : (f : Facts) (ts : List Found) → All IsBlank ts → (q : ℕ × ℕ) → Got f ts q → ⊥
no_pair_yet f ts blank q g = nothing f ts blank q g

-- no method was met
pub met_none : (f : Facts) (ms : List (Option Method)) → length ms ≡ length f.inputs → All (λ (o : Option Method). o ≡ None) ms → AreMethods f ms
met_none f ms len none = record { len = len; right = λ m x is. absurd (apart x (sym (get_or_from_slice_get ms m (Some x) None is) ∙ none m None (slice_get_within ms m (Some x) is))) }
  where
    apart : (x : Method) → Some x ≡ None → ⊥
    apart x e = absurd cc
