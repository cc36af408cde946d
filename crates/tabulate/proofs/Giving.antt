-- Bits that are given to a node.
use Rattle.std.proofs.Common.{◌≡◌, ◌≢◌, ℕ, ◌+◌, ◌*◌, ◌<◌, ◌≤◌, true, false, List, [], ◌∷◌, ◌++◌, length, get_or, set, slice_get, Contains, ◌⊎◌, inl, inr, refl, sym, subst, ap, ◌∙◌, get_or-set_same, get_or-set_other, length-append, arith}
use Rattle.std.specs.Option.{option_map_or}
use Rattle.std.proofs.lemmas.Bool.{cases_eq}
use Rattle.std.proofs.lemmas.List.{length-set}
use Rattle.std.proofs.lemmas.List.Elements.{Contains-append_left, Contains-push, Contains-push_cases}
use Rattle.bit_rows.specs.Words.{IsIn, Moved, AreWords}
use Rattle.bit_rows.specs.Adds.{Adds}
use Rattle.dep_form.specs.declared.facts.Facts.{Facts}
use Rattle.tabulate.specs.declared.found.Found.{Found}
use Rattle.slicer_ids.specs.declared.ids.NodeId.{NodeId}
use Rattle.tabulate.proofs.Placing.{placed}
use Rattle.tabulate.specs.Frames.{node, count, method_of, width, row, at}
use Rattle.tabulate.specs.Found.{Got, Todo, IsOpen, AreFound, IsQueue, Goes, got_of, todo_of, waits_of, is_waiting}
use Rattle.tabulate.specs.Rules.{Row}
use Rattle.tabulate.proofs.Reading.{field_same, field_other, read_is}
use Rattle.tabulate.proofs.Lifting.{lifted, same_row}

-- the lists of the tables, where one has another of its length
pub len_same : {X : Type 0} (f : Found → List X) (ts : List Found) (m : ℕ) (t' : Found) → m < length ts → length (f t') ≡ length (option_map_or f (slice_get ts m) []) → (j : ℕ) → length (option_map_or f (slice_get (set ts m t') j) []) ≡ length (option_map_or f (slice_get ts j) [])
len_same f ts m t' lt e j = elim (cases_eq j m) [
  | inl is ↦ ap (λ k. length (option_map_or f (slice_get (set ts m t') k) [])) is ∙ ap length (field_same f [] ts m t' lt) ∙ e ∙ ap (λ k. length (option_map_or f (slice_get ts k) [])) (sym is)
  | inr ne ↦ ap length (field_other f [] ts m t' j ne)
]

module _ (p : Facts) (ts : List Found) (n : ℕ) (nl : n < count p) (t' : Found) (tables : AreFound p ts) where
  abbrev m : ℕ
  m = method_of p n

  abbrev ts' : List Found
  ts' = set ts m t'

  lt : m < length ts
  lt = omega (arith, (placed p n nl).owned, tables.len)

  module _ (skip : ℕ) (delta : List ℕ) (fits : skip + length delta ≤ width p m) (opened : IsOpen p ts m)
      (a : Adds (IsIn (got_of ts m)) (IsIn (todo_of ts m)) (IsIn t'.got.items) (IsIn t'.todo.items) (Moved (at p n + skip) delta))
      (words : AreWords (got_of ts m) → AreWords t'.got.items) (got_len : length t'.got.items ≡ length (got_of ts m)) (todo_len : length t'.todo.items ≡ length (todo_of ts m))
      (marked : (t'.todo.items ≡ todo_of ts m) ⊎ (get_or t'.waits.items (row p n) false ≡ true))
      (queue queue' : List NodeId) (iq : IsQueue p ts queue) (s s' : ℕ) (on : s ≤ s')
      (raised : ((t'.waits.items ≡ waits_of ts m) × (queue' ≡ queue)) ⊎ ((t'.waits.items ≡ set (waits_of ts m) (row p n) true) × (queue' ≡ queue ++ node n ∷ []) × (s < s'))) where
    waits_same : waits_of ts' m ≡ t'.waits.items
    waits_same = field_same (λ t. t.waits.items) [] ts m t' lt

    todo_same : todo_of ts' m ≡ t'.todo.items
    todo_same = field_same (λ t. t.todo.items) [] ts m t' lt

    got_same : got_of ts' m ≡ t'.got.items
    got_same = field_same (λ t. t.got.items) [] ts m t' lt

    waits_len : length t'.waits.items ≡ length (waits_of ts m)
    waits_len = elim raised [ inl k ↦ ap length k.0 | inr k ↦ ap length k.0 ∙ length-set (waits_of ts m) (row p n) true ]

    in_table : row p n < length (waits_of ts m)
    in_table = omega (arith, opened, (placed p n nl).above, (placed p n nl).below)

    pub adds : Adds (Got p ts) (Todo p ts) (Got p ts') (Todo p ts') (Row n skip delta)
    adds = lifted p n nl (got_of ts) (todo_of ts) (got_of ts') (todo_of ts') skip delta fits (field_other (λ t. t.got.items) [] ts m t') (field_other (λ t. t.todo.items) [] ts m t')
        (subst (λ (g : List ℕ). Adds (IsIn (got_of ts m)) (IsIn (todo_of ts m)) (IsIn g) (IsIn (todo_of ts' m)) (Moved (at p n + skip) delta)) (sym got_same)
        (subst (λ (g : List ℕ). Adds (IsIn (got_of ts m)) (IsIn (todo_of ts m)) (IsIn t'.got.items) (IsIn g) (Moved (at p n + skip) delta)) (sym todo_same) a))

    -- what the flag of a node of the method is
    flag : (k : ℕ) → method_of p k ≡ m → is_waiting p ts' k ≡ get_or t'.waits.items (row p k) false
    flag k e = ap (λ j. get_or (waits_of ts' j) (row p k) false) e ∙ ap (λ ws. get_or ws (row p k) false) waits_same

    flag_before : (k : ℕ) → method_of p k ≡ m → is_waiting p ts k ≡ get_or (waits_of ts m) (row p k) false
    flag_before k e = ap (λ j. get_or (waits_of ts j) (row p k) false) e

    flag_other : (k : ℕ) → method_of p k ≢ m → is_waiting p ts' k ≡ is_waiting p ts k
    flag_other k ne = ap (λ ws. get_or ws (row p k) false) (field_other (λ t. t.waits.items) [] ts m t' (method_of p k) ne)

    rises : (k : ℕ) → is_waiting p ts k ≡ true → is_waiting p ts' k ≡ true
    rises k h = elim (cases_eq (method_of p k) m) [
      | inr ne ↦ flag_other k ne ∙ h
      | inl e ↦ flag k e ∙ elim raised [
        | inl r ↦ ap (λ ws. get_or ws (row p k) false) r.0 ∙ sym (flag_before k e) ∙ h
        | inr r ↦ ap (λ ws. get_or ws (row p k) false) r.0 ∙ elim (cases_eq (row p k) (row p n)) [
          | inl same ↦ ap (λ i. get_or (set (waits_of ts m) (row p n) true) i false) same ∙ get_or-set_same (waits_of ts m) (row p n) true false in_table
          | inr other ↦ get_or-set_other (waits_of ts m) (row p n) (row p k) true false other ∙ sym (flag_before k e) ∙ h
        ]
      ]
    ]

    falls : (k : ℕ) → k < count p → is_waiting p ts' k ≡ true → (is_waiting p ts k ≡ true) ⊎ (k ≡ n)
    falls k kl h = elim (cases_eq (method_of p k) m) [
      | inr ne ↦ inl (sym (flag_other k ne) ∙ h)
      | inl e ↦ elim raised [
        | inl r ↦ inl (flag_before k e ∙ ap (λ ws. get_or ws (row p k) false) (sym r.0) ∙ sym (flag k e) ∙ h)
        | inr r ↦ elim (cases_eq (row p k) (row p n)) [
          | inl same ↦ inr (same_row p n nl k kl e same)
          | inr other ↦ inl (flag_before k e ∙ sym (get_or-set_other (waits_of ts m) (row p n) (row p k) true false other) ∙ ap (λ ws. get_or ws (row p k) false) (sym r.0) ∙ sym (flag k e) ∙ h)
        ]
      ]
    ]

    lens : (j : ℕ) → length (waits_of ts' j) ≡ length (waits_of ts j)
    lens j = len_same (λ t. t.waits.items) ts m t' lt waits_len j

    opens : (j : ℕ) → IsOpen p ts j → IsOpen p ts' j
    opens j o = lens j ∙ o

    waits : (q : ℕ × ℕ) → Todo p ts' q → is_waiting p ts' q.0 ≡ true
    waits q h = elim (cases_eq (method_of p q.0) m) [
      | inr ne ↦ rises q.0 (tables.waiting q (h.0, h.1, subst (λ (ws : List ℕ). IsIn ws (64 * at p q.0 + q.1)) (field_other (λ t. t.todo.items) [] ts m t' (method_of p q.0) ne) h.2))
      | inl e ↦ elim marked [
        | inl same ↦ rises q.0 (tables.waiting q (h.0, h.1, subst (λ (j : ℕ). IsIn (todo_of ts j) (64 * at p q.0 + q.1)) (sym e) (subst (λ (ws : List ℕ). IsIn ws (64 * at p q.0 + q.1)) (todo_same ∙ same) (subst (λ (j : ℕ). IsIn (todo_of ts' j) (64 * at p q.0 + q.1)) e h.2))))
        | inr is_set ↦ elim (cases_eq q.0 n) [
          | inl is ↦ ap (is_waiting p ts') is ∙ flag n refl ∙ is_set
          | inr other ↦ elim (adds.within q h) [ inl o ↦ rises q.0 (tables.waiting q o) | inr u ↦ elim (adds.only q u.0) [ inl o ↦ absurd (u.1 o) | inr r ↦ absurd (other r.0) ] ]
        ]
      ]
    ]

    grown : (k : ℕ) → Contains queue (node k) → Contains queue' (node k)
    grown k c = elim raised [ inl r ↦ subst (λ (xs : List NodeId). Contains xs (node k)) (sym r.1) c | inr r ↦ subst (λ (xs : List NodeId). Contains xs (node k)) (sym r.1) (Contains-append_left queue (node n ∷ []) (node k) c) ]

    queues : (k : ℕ) → k < count p → is_waiting p ts' k ≡ true → Contains queue' (node k)
    queues k kl h = elim (cases_eq (method_of p k) m) [
      | inr ne ↦ grown k (iq.queued k kl (sym (flag_other k ne) ∙ h))
      | inl e ↦ elim raised [
        | inl r ↦ grown k (iq.queued k kl (flag_before k e ∙ ap (λ ws. get_or ws (row p k) false) (sym r.0) ∙ sym (flag k e) ∙ h))
        | inr r ↦ elim (falls k kl h) [ inl o ↦ grown k (iq.queued k kl o) | inr is ↦ subst (λ (xs : List NodeId). Contains xs (node k)) (sym r.1) (subst (λ (i : ℕ). Contains (queue ++ node n ∷ []) (node i)) (sym is) (Contains-push queue (node n))) ]
      ]
    ]

    from_queue : (k : ℕ) → Contains queue' (node k) → (k < count p) × IsOpen p ts' (method_of p k)
    from_queue k c = elim raised [
      | inl r ↦ let o = iq.opened k (subst (λ (xs : List NodeId). Contains xs (node k)) r.1 c) in (o.0, opens _ o.1)
      | inr r ↦ elim (Contains-push_cases queue (node n) (node k) (subst (λ (xs : List NodeId). Contains xs (node k)) r.1 c)) [
        | inl d ↦ let o = iq.opened k d in (o.0, opens _ o.1)
        | inr is ↦ subst (λ (i : NodeId). (i.0 < count p) × IsOpen p ts' (method_of p i.0)) is (nl, opens m opened)
      ]
    ]

    pub goes : Goes p ts ts' queue queue' s s' (Row n skip delta)
    goes = record {
      found = record {
        len = length-set ts m t' ∙ tables.len;
        got = λ j. len_same (λ t. t.got.items) ts m t' lt got_len j ∙ tables.got j ∙ ap (λ k. k * width p j) (sym (lens j));
        todo = λ j. len_same (λ t. t.todo.items) ts m t' lt todo_len j ∙ tables.todo j ∙ ap (λ k. k * width p j) (sym (lens j));
        words = λ j. elim (cases_eq j m) [
          | inl e ↦ subst (λ (k : ℕ). AreWords (got_of ts' k)) (sym e) (subst (λ (xs : List ℕ). AreWords xs) (sym got_same) (words (tables.words m)))
          | inr ne ↦ subst (λ (xs : List ℕ). AreWords xs) (sym (field_other (λ t. t.got.items) [] ts m t' j ne)) (tables.words j)
        ];
        shape = λ j. elim (tables.shape j) [ inl z ↦ inl (lens j ∙ z) | inr o ↦ inr (opens j o) ];
        waiting = waits;
      };
      queue = record { queued = queues; opened = from_queue };
      adds = adds;
      lens = lens;
      on = on;
      work = elim raised [ inl r ↦ omega (arith, on, ap length r.1) | inr r ↦ omega (arith, ap length r.1, length-append queue (node n ∷ []), r.2) ];
    }

pub given : (p : Facts) (ts : List Found) (n : ℕ) (nl : n < count p) (t t' : Found) (tables : AreFound p ts) (own r w : ℕ) → own ≡ method_of p n → r ≡ row p n → w ≡ width p own → t ≡ get_or ts own t
    → (skip : ℕ) (delta : List ℕ) → skip + length delta ≤ width p (method_of p n) → IsOpen p ts (method_of p n)
    → Adds (IsIn t.got.items) (IsIn t.todo.items) (IsIn t'.got.items) (IsIn t'.todo.items) (Moved (r * w + skip) delta)
    → (AreWords t.got.items → AreWords t'.got.items) → length t'.got.items ≡ length t.got.items → length t'.todo.items ≡ length t.todo.items → (t'.todo.items ≡ t.todo.items) ⊎ (get_or t'.waits.items r false ≡ true)
    → (queue queue' : List NodeId) → IsQueue p ts queue → (s s' : ℕ) → s ≤ s'
    → ((t'.waits.items ≡ t.waits.items) × (queue' ≡ queue)) ⊎ ((t'.waits.items ≡ set t.waits.items r true) × (queue' ≡ queue ++ node n ∷ []) × (s < s'))
    → Goes p ts (set ts own t') queue queue' s s' (Row n skip delta)
given p ts n nl t t' tables own r w em er ew is skip delta fits opened a small gl tl marked queue queue' iq s s' on raised = subst (λ (k : ℕ). Goes p ts (set ts k t') queue queue' s s' (Row n skip delta)) (sym em) (goes p ts n nl t' tables skip delta fits opened a'' (λ all. small (subst (λ (xs : List ℕ). AreWords xs) g all)) (gl ∙ ap length (sym g)) (tl ∙ ap length (sym h)) marked' queue queue' iq s s' on raised')
  where
    is' : t ≡ get_or ts (method_of p n) t
    is' = is ∙ ap (λ k. get_or ts k t) em

    lt : method_of p n < length ts
    lt = omega (arith, (placed p n nl).owned, tables.len)

    g : got_of ts (method_of p n) ≡ t.got.items
    g = read_is (λ t. t.got.items) [] ts (method_of p n) t lt is'

    h : todo_of ts (method_of p n) ≡ t.todo.items
    h = read_is (λ t. t.todo.items) [] ts (method_of p n) t lt is'

    f : waits_of ts (method_of p n) ≡ t.waits.items
    f = read_is (λ t. t.waits.items) [] ts (method_of p n) t lt is'

    words : r * w ≡ at p n
    words = ap (λ k. k * w) er ∙ ap (λ k. row p n * k) (ew ∙ ap (width p) em)

    a' : Adds (IsIn t.got.items) (IsIn t.todo.items) (IsIn t'.got.items) (IsIn t'.todo.items) (Moved (at p n + skip) delta)
    a' = subst (λ (k : ℕ). Adds (IsIn t.got.items) (IsIn t.todo.items) (IsIn t'.got.items) (IsIn t'.todo.items) (Moved (k + skip) delta)) words a

    a'' : Adds (IsIn (got_of ts (method_of p n))) (IsIn (todo_of ts (method_of p n))) (IsIn t'.got.items) (IsIn t'.todo.items) (Moved (at p n + skip) delta)
    a'' = subst (λ (x : List ℕ). Adds (IsIn x) (IsIn (todo_of ts (method_of p n))) (IsIn t'.got.items) (IsIn t'.todo.items) (Moved (at p n + skip) delta)) (sym g)
        (subst (λ (x : List ℕ). Adds (IsIn t.got.items) (IsIn x) (IsIn t'.got.items) (IsIn t'.todo.items) (Moved (at p n + skip) delta)) (sym h) a')

    marked' : (t'.todo.items ≡ todo_of ts (method_of p n)) ⊎ (get_or t'.waits.items (row p n) false ≡ true)
    marked' = elim marked [ inl e ↦ inl (e ∙ sym h) | inr e ↦ inr (ap (λ k. get_or t'.waits.items k false) (sym er) ∙ e) ]

    raised' : ((t'.waits.items ≡ waits_of ts (method_of p n)) × (queue' ≡ queue)) ⊎ ((t'.waits.items ≡ set (waits_of ts (method_of p n)) (row p n) true) × (queue' ≡ queue ++ node n ∷ []) × (s < s'))
    raised' = elim raised [ inl e ↦ inl (e.0 ∙ sym f, e.1) | inr e ↦ inr (e.0 ∙ ap (λ k. set t.waits.items k true) er ∙ ap (λ ws. set ws (row p n) true) (sym f), e.1, e.2) ]
