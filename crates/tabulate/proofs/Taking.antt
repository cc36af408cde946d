-- What waits at a node is taken out.
use Rattle.std.proofs.Common.{◌≡◌, ◌≢◌, ℕ, ◌+◌, ◌-◌, ◌*◌, ◌<◌, true, false, List, [], length, get_or, set, ◌⊎◌, inl, inr, refl, sym, subst, ap, ◌∙◌, get_or-set_same, get_or-set_other, arith}
use Rattle.std.specs.Prelude.{◌↔◌}
use Rattle.std.proofs.lemmas.Bool.{cases_eq, cases_lt, false≢true}
use Rattle.std.proofs.lemmas.List.{length-set}
use Rattle.bit_rows.specs.Words.{IsIn, Outside, AreWords}
use Rattle.bit_rows.specs.Adds.{Taken}
use Rattle.bit_rows.proofs.Bits.{in_range}
use Rattle.dep_form.specs.declared.facts.Facts.{Facts}
use Rattle.tabulate.specs.declared.found.Found.{Found}
use Rattle.tabulate.proofs.Placing.{placed}
use Rattle.tabulate.specs.Frames.{count, method_of, width, row, at}
use Rattle.tabulate.specs.Found.{IsBit, Got, Todo, IsOpen, AreFound, Takes, got_of, todo_of, waits_of, is_waiting}
use Rattle.tabulate.proofs.Reading.{field_same, field_other, read_is}
use Rattle.tabulate.proofs.Lifting.{same_row, same_bit}
use Rattle.tabulate.proofs.Giving.{len_same}

module _ (p : Facts) (ts : List Found) (n : ℕ) (nl : n < count p) (t' : Found) (tables : AreFound p ts) (opened : IsOpen p ts (method_of p n)) (delta : List ℕ)
    (g : t'.got.items ≡ got_of ts (method_of p n)) (todo_len : length t'.todo.items ≡ length (todo_of ts (method_of p n)))
    (left : (i : ℕ) → IsIn t'.todo.items i ↔ IsIn (todo_of ts (method_of p n)) i × Outside (at p n) (width p (method_of p n)) i)
    (ws : t'.waits.items ≡ set (waits_of ts (method_of p n)) (row p n) false)
    (len : length delta ≡ width p (method_of p n)) (bits : (x : ℕ) → x < 64 * width p (method_of p n) → IsIn delta x ↔ IsIn (todo_of ts (method_of p n)) (64 * at p n + x)) where
  abbrev m : ℕ
  m = method_of p n

  abbrev ts' : List Found
  ts' = set ts m t'

  lt : m < length ts
  lt = omega (arith, (placed p n nl).owned, tables.len)

  in_table : row p n < length (waits_of ts m)
  in_table = omega (arith, opened, (placed p n nl).above, (placed p n nl).below)

  got_all : (j : ℕ) → got_of ts' j ≡ got_of ts j
  got_all j = elim (cases_eq j m) [ inl e ↦ subst (λ (k : ℕ). got_of ts' k ≡ got_of ts k) (sym e) (field_same (λ t. t.got.items) [] ts m t' lt ∙ g) | inr ne ↦ field_other (λ t. t.got.items) [] ts m t' j ne ]

  todo_here : todo_of ts' m ≡ t'.todo.items
  todo_here = field_same (λ t. t.todo.items) [] ts m t' lt

  waits_here : waits_of ts' m ≡ set (waits_of ts m) (row p n) false
  waits_here = field_same (λ t. t.waits.items) [] ts m t' lt ∙ ws

  lens : (j : ℕ) → length (waits_of ts' j) ≡ length (waits_of ts j)
  lens j = len_same (λ t. t.waits.items) ts m t' lt (ap length ws ∙ length-set (waits_of ts m) (row p n) false) j

  moved : (W V : ℕ → List ℕ) → ((j : ℕ) → V j ≡ W j) → (q : ℕ × ℕ) → IsBit p W q → IsBit p V q
  moved W V e q h = (h.0, h.1, subst (λ (xs : List ℕ). IsIn xs (64 * at p q.0 + q.1)) (sym (e (method_of p q.0))) h.2)

  -- a bit that waits in the method, and after
  before : (q : ℕ × ℕ) → method_of p q.0 ≡ m → Todo p ts q → IsIn (todo_of ts m) (64 * at p q.0 + q.1)
  before q e h = subst (λ (k : ℕ). IsIn (todo_of ts k) (64 * at p q.0 + q.1)) e h.2

  after : (q : ℕ × ℕ) → method_of p q.0 ≡ m → Todo p ts' q → IsIn (todo_of ts m) (64 * at p q.0 + q.1) × Outside (at p n) (width p m) (64 * at p q.0 + q.1)
  after q e h = (left (64 * at p q.0 + q.1)).0 (subst (λ (xs : List ℕ). IsIn xs (64 * at p q.0 + q.1)) todo_here (subst (λ (k : ℕ). IsIn (todo_of ts' k) (64 * at p q.0 + q.1)) e h.2))

  less : (q : ℕ × ℕ) → Todo p ts' q → Todo p ts q
  less q h = elim (cases_eq (method_of p q.0) m) [
    | inl e ↦ (h.0, h.1, subst (λ (k : ℕ). IsIn (todo_of ts k) (64 * at p q.0 + q.1)) (sym e) (after q e h).0)
    | inr ne ↦ (h.0, h.1, subst (λ (xs : List ℕ). IsIn xs (64 * at p q.0 + q.1)) (field_other (λ t. t.todo.items) [] ts m t' (method_of p q.0) ne) h.2)
  ]

  -- inside the row, or outside
  where_is : (i : ℕ) → Outside (at p n) (width p m) i ⊎ ((z : ℕ) × (z < 64 * width p m) × (i ≡ 64 * at p n + z))
  where_is i = elim (cases_lt i (64 * at p n)) [ inl l ↦ inl (inl l) | inr g ↦ elim (cases_lt i (64 * (at p n + width p m))) [ inl l ↦ inr (i - 64 * at p n, omega (arith, l, g), omega (arith, g)) | inr h ↦ inl (inr h) ] ]

  split : (q : ℕ × ℕ) → Todo p ts q → Todo p ts' q ⊎ ((q.0 ≡ n) × IsIn delta q.1)
  split q h = elim (cases_eq (method_of p q.0) m) [
    | inl e ↦ elim (where_is (64 * at p q.0 + q.1)) [
      | inl o ↦ inl (h.0, h.1, subst (λ (k : ℕ). IsIn (todo_of ts' k) (64 * at p q.0 + q.1)) (sym e) (subst (λ (xs : List ℕ). IsIn xs (64 * at p q.0 + q.1)) (sym todo_here) ((left (64 * at p q.0 + q.1)).1 (before q e h, o))))
      | inr w ↦ let s = same_bit p n nl q w.0 h.0 e h.1 w.1 w.2 in inr (s.0, subst (λ (z : ℕ). IsIn delta z) (sym s.1) ((bits w.0 w.1).1 (subst (λ (i : ℕ). IsIn (todo_of ts m) i) w.2 (before q e h))))
    ]
    | inr ne ↦ inl (h.0, h.1, subst (λ (xs : List ℕ). IsIn xs (64 * at p q.0 + q.1)) (sym (field_other (λ t. t.todo.items) [] ts m t' (method_of p q.0) ne)) h.2)
  ]

  found : (x : ℕ) → IsIn delta x → Todo p ts (n, x)
  found x d = let l : x < 64 * width p m = omega (arith, in_range delta x d, len) in (nl, l, (bits x l).0 d)

  gone : (x : ℕ) → Todo p ts' (n, x) → ⊥
  gone x h = elim (after (n, x) refl h).1 [ inl l ↦ omega (arith, l) | inr r ↦ omega (arith, r, h.1) ]

  flag : (k : ℕ) → k < count p → is_waiting p ts' k ≡ true → (is_waiting p ts k ≡ true) × (k ≢ n)
  flag k kl h = elim (cases_eq (method_of p k) m) [
    | inl e ↦
        let now : get_or (set (waits_of ts m) (row p n) false) (row p k) false ≡ true = sym (ap (λ j. get_or (waits_of ts' j) (row p k) false) e ∙ ap (λ xs. get_or xs (row p k) false) waits_here) ∙ h in
        elim (cases_eq (row p k) (row p n)) [
          | inl same ↦ absurd (false≢true (sym (get_or-set_same (waits_of ts m) (row p n) false false in_table) ∙ sym (ap (λ i. get_or (set (waits_of ts m) (row p n) false) i false) same) ∙ now))
          | inr other ↦ (ap (λ j. get_or (waits_of ts j) (row p k) false) e ∙ sym (get_or-set_other (waits_of ts m) (row p n) (row p k) false false other) ∙ now, λ is. other (ap (row p) is))
        ]
    | inr ne ↦ (sym (ap (λ xs. get_or xs (row p k) false) (field_other (λ t. t.waits.items) [] ts m t' (method_of p k) ne)) ∙ h, λ is. ne (ap (method_of p) is))
  ]

  pub takes : Takes p ts ts' n delta
  takes = record {
    got = moved (got_of ts) (got_of ts') got_all;
    back = moved (got_of ts') (got_of ts) (λ j. sym (got_all j));
    less = less;
    split = split;
    found = found;
    gone = gone;
    len = len;
    waiting = flag;
    lens = lens;
  }

  waits' : (q : ℕ × ℕ) → Todo p ts' q → is_waiting p ts' q.0 ≡ true
  waits' q h = elim (cases_eq (method_of p q.0) m) [
    | inr ne ↦ ap (λ xs. get_or xs (row p q.0) false) (field_other (λ t. t.waits.items) [] ts m t' (method_of p q.0) ne) ∙ tables.waiting q (less q h)
    | inl e ↦ ap (λ j. get_or (waits_of ts' j) (row p q.0) false) e ∙ ap (λ xs. get_or xs (row p q.0) false) waits_here ∙ elim (cases_eq (row p q.0) (row p n)) [
      | inl same ↦ absurd (gone q.1 (subst (λ (k : ℕ). Todo p ts' (k, q.1)) (same_row p n nl q.0 h.0 e same) h))
      | inr other ↦ get_or-set_other (waits_of ts m) (row p n) (row p q.0) false false other ∙ sym (ap (λ j. get_or (waits_of ts j) (row p q.0) false) e) ∙ tables.waiting q (less q h)
    ]
  ]

  pub are : AreFound p ts'
  are = record {
    len = length-set ts m t' ∙ tables.len;
    got = λ j. ap length (got_all j) ∙ tables.got j ∙ ap (λ k. k * width p j) (sym (lens j));
    todo = λ j. len_same (λ t. t.todo.items) ts m t' lt todo_len j ∙ tables.todo j ∙ ap (λ k. k * width p j) (sym (lens j));
    words = λ j. subst (λ (xs : List ℕ). AreWords xs) (sym (got_all j)) (tables.words j);
    shape = λ j. elim (tables.shape j) [ inl z ↦ inl (lens j ∙ z) | inr o ↦ inr (lens j ∙ o) ];
    waiting = waits';
  }

module _ (p : Facts) (ts : List Found) (n : ℕ) (nl : n < count p) (t t' : Found) (tables : AreFound p ts) (opened : IsOpen p ts (method_of p n)) (delta : List ℕ)
    (own r w : ℕ) (em : own ≡ method_of p n) (er : r ≡ row p n) (ew : w ≡ width p own) (is : t ≡ get_or ts own t)
    (g : t'.got.items ≡ t.got.items) (todo_len : length t'.todo.items ≡ length t.todo.items)
    (left : (i : ℕ) → IsIn t'.todo.items i ↔ IsIn t.todo.items i × Outside (r * w) w i)
    (ws : t'.waits.items ≡ set t.waits.items r false)
    (len : length delta ≡ w) (bits : (x : ℕ) → x < 64 * w → IsIn delta x ↔ IsIn t.todo.items (64 * (r * w) + x)) where
  at_ts : method_of p n < length ts
  at_ts = omega (arith, (placed p n nl).owned, tables.len)

  is' : t ≡ get_or ts (method_of p n) t
  is' = is ∙ ap (λ k. get_or ts k t) em

  got_is : got_of ts (method_of p n) ≡ t.got.items
  got_is = read_is (λ t. t.got.items) [] ts (method_of p n) t at_ts is'

  todo_is : todo_of ts (method_of p n) ≡ t.todo.items
  todo_is = read_is (λ t. t.todo.items) [] ts (method_of p n) t at_ts is'

  waits_is : waits_of ts (method_of p n) ≡ t.waits.items
  waits_is = read_is (λ t. t.waits.items) [] ts (method_of p n) t at_ts is'

  wide : w ≡ width p (method_of p n)
  wide = ew ∙ ap (width p) em

  words : r * w ≡ at p n
  words = ap (λ k. k * w) er ∙ ap (λ k. row p n * k) wide

  left' : (i : ℕ) → IsIn t'.todo.items i ↔ IsIn (todo_of ts (method_of p n)) i × Outside (at p n) (width p (method_of p n)) i
  left' i = subst (λ (xs : List ℕ). IsIn t'.todo.items i ↔ IsIn xs i × Outside (at p n) (width p (method_of p n)) i) (sym todo_is)
      (subst (λ (k : ℕ). IsIn t'.todo.items i ↔ IsIn t.todo.items i × Outside (at p n) k i) wide (subst (λ (k : ℕ). IsIn t'.todo.items i ↔ IsIn t.todo.items i × Outside k w i) words (left i)))

  bits' : (x : ℕ) → x < 64 * width p (method_of p n) → IsIn delta x ↔ IsIn (todo_of ts (method_of p n)) (64 * at p n + x)
  bits' x l = subst (λ (xs : List ℕ). IsIn delta x ↔ IsIn xs (64 * at p n + x)) (sym todo_is) (subst (λ (k : ℕ). IsIn delta x ↔ IsIn t.todo.items (64 * k + x)) words (bits x (omega (arith, l, wide))))

  ws' : t'.waits.items ≡ set (waits_of ts (method_of p n)) (row p n) false
  ws' = ws ∙ ap (λ k. set t.waits.items k false) er ∙ ap (λ xs. set xs (row p n) false) (sym waits_is)

  pub takes_there : Takes p ts (set ts own t') n delta
  takes_there = subst (λ (k : ℕ). Takes p ts (set ts k t') n delta) (sym em) (takes p ts n nl t' tables opened delta (g ∙ sym got_is) (todo_len ∙ ap length (sym todo_is)) left' ws' (len ∙ wide) bits')

  pub are_there : AreFound p (set ts own t')
  are_there = subst (λ (k : ℕ). AreFound p (set ts k t')) (sym em) (are p ts n nl t' tables opened delta (g ∙ sym got_is) (todo_len ∙ ap length (sym todo_is)) left' ws' (len ∙ wide) bits')

-- the pairs of a node that are taken, by a row of their bits
pub row_taken : (p : Facts) (ts : List Found) (n : ℕ) (nl : n < count p) (t : Found) (tables : AreFound p ts) (own r w : ℕ) → own ≡ method_of p n → r ≡ row p n → w ≡ width p own → t ≡ get_or ts own t
    → (into : List ℕ) → length into ≡ w → ((x : ℕ) → x < 64 * w → IsIn into x ↔ IsIn t.got.items (64 * (r * w) + x) × (IsIn t.todo.items (64 * (r * w) + x) → ⊥)) → (x : ℕ) → IsIn into x ↔ Taken (Got p ts) (Todo p ts) (n, x)
row_taken p ts n nl t tables own r w em er ew is into len bits x = (to, from)
  where
    at_ts : method_of p n < length ts
    at_ts = omega (arith, (placed p n nl).owned, tables.len)

    is' : t ≡ get_or ts (method_of p n) t
    is' = is ∙ ap (λ k. get_or ts k t) em

    got_is : got_of ts (method_of p n) ≡ t.got.items
    got_is = read_is (λ t. t.got.items) [] ts (method_of p n) t at_ts is'

    todo_is : todo_of ts (method_of p n) ≡ t.todo.items
    todo_is = read_is (λ t. t.todo.items) [] ts (method_of p n) t at_ts is'

    wide : w ≡ width p (method_of p n)
    wide = ew ∙ ap (width p) em

    words : r * w ≡ at p n
    words = ap (λ k. k * w) er ∙ ap (λ k. row p n * k) wide

    into_table : (xs ys : List ℕ) → ys ≡ xs → IsIn xs (64 * (r * w) + x) → IsIn ys (64 * at p n + x)
    into_table xs ys e h = subst (λ (zs : List ℕ). IsIn zs (64 * at p n + x)) (sym e) (subst (λ (k : ℕ). IsIn xs (64 * k + x)) words h)

    out_of_table : (xs ys : List ℕ) → ys ≡ xs → IsIn ys (64 * at p n + x) → IsIn xs (64 * (r * w) + x)
    out_of_table xs ys e h = subst (λ (k : ℕ). IsIn xs (64 * k + x)) (sym words) (subst (λ (zs : List ℕ). IsIn zs (64 * at p n + x)) e h)

    to : IsIn into x → Taken (Got p ts) (Todo p ts) (n, x)
    to h =
        let l : x < 64 * w = omega (arith, in_range into x h, len) in
        let b = (bits x l).0 h in
        ((nl, omega (arith, l, wide), into_table _ _ got_is b.0), λ d. b.1 (out_of_table _ _ todo_is d.2))

    from : Taken (Got p ts) (Todo p ts) (n, x) → IsIn into x
    from h = (bits x (omega (arith, h.0.1, wide))).1 (out_of_table _ _ got_is h.0.2, λ d. h.1 (nl, h.0.1, into_table _ _ todo_is d))
