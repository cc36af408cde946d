-- A copy is as good as what was copied.
use Rattle.std.proofs.Common.{◌≡◌, ◌<◌, ◌≤◌, ◌+◌, ◌*◌, ◌++◌, ◌∷◌, ℕ, List, [], length, take, get_or, Option, Bool, true, false, inl, inr, refl, sym, subst, ap, ◌∙◌, arith}
use Rattle.std.specs.Prelude.{slice_index_or, slice_get}
use Rattle.std.specs.Option.{option_map_or}
use Rattle.std.proofs.lemmas.Bool.{cases_eq, cases_lt}
use Rattle.std.proofs.lemmas.Option.{slice_get-get_or, slice_get_past}
use Rattle.std.proofs.lemmas.List.{length-append, get_or_at, take_more}
use Rattle.std.proofs.Math.ListN.{get_or-append}
use Rattle.bit_rows.specs.Words.{IsIn, AreWords}
use Rattle.slicer_ids.specs.declared.ids.NodeId.{NodeId}
use Rattle.dep_form.specs.declared.facts.Facts.{Facts}
use Rattle.tabulate.specs.declared.found.Found.{Found}
use Rattle.tabulate.specs.Frames.{method_of, row, width, at}
use Rattle.tabulate.specs.Found.{Got, Todo, AreFound, IsQueue, IsBit, is_waiting, got_of, todo_of, waits_of}
use Rattle.thin_slice.specs.declared.marked.MarkedNodes.{MarkedNodes}
use Rattle.thin_slice.specs.Marks.{AreMarked, AreNodesOf, IsMarkedList, found}
use Rattle.widening.specs.States.{AreSameFound, IsSameMarked}

module _ (f : Facts) (ts ts' : List Found) (same : AreSameFound ts ts') where
  bit_same : (words words' : ℕ → List ℕ) → ((m : ℕ) → words' m ≡ words m) → (q : ℕ × ℕ) → IsBit f words q → IsBit f words' q
  bit_same words words' e q b = (b.0, b.1, subst (λ (ws : List ℕ). IsIn ws (64 * at f q.0 + q.1)) (sym (e (method_of f q.0))) b.2)

  pub got_on : (q : ℕ × ℕ) → Got f ts q → Got f ts' q
  got_on q g = bit_same (got_of ts) (got_of ts') same.got q g

  pub got_back : (q : ℕ × ℕ) → Got f ts' q → Got f ts q
  got_back q g = bit_same (got_of ts') (got_of ts) (λ m. sym (same.got m)) q g

  pub todo_on : (q : ℕ × ℕ) → Todo f ts q → Todo f ts' q
  todo_on q g = bit_same (todo_of ts) (todo_of ts') same.todo q g

  pub todo_back : (q : ℕ × ℕ) → Todo f ts' q → Todo f ts q
  todo_back q g = bit_same (todo_of ts') (todo_of ts) (λ m. sym (same.todo m)) q g

  flag_on : (n : ℕ) → is_waiting f ts n ≡ true → is_waiting f ts' n ≡ true
  flag_on n h = ap (λ (bs : List Bool). slice_index_or bs (row f n) false) (same.waits (method_of f n)) ∙ h

  flag_back : (n : ℕ) → is_waiting f ts' n ≡ true → is_waiting f ts n ≡ true
  flag_back n h = ap (λ (bs : List Bool). slice_index_or bs (row f n) false) (sym (same.waits (method_of f n))) ∙ h

  pub waits_len : (m : ℕ) → length (waits_of ts' m) ≡ length (waits_of ts m)
  waits_len m = ap length (same.waits m)

  pub found_copy : AreFound f ts → AreFound f ts'
  found_copy t = record {
    len = same.len ∙ t.len;
    got = λ m. ap length (same.got m) ∙ t.got m ∙ ap (λ (k : ℕ). k * width f m) (sym (waits_len m));
    todo = λ m. ap length (same.todo m) ∙ t.todo m ∙ ap (λ (k : ℕ). k * width f m) (sym (waits_len m));
    words = λ m. subst AreWords (sym (same.got m)) (t.words m);
    shape = λ m. elim (t.shape m) [ inl z ↦ inl (waits_len m ∙ z) | inr o ↦ inr (waits_len m ∙ o) ];
    waiting = λ q w. flag_on q.0 (t.waiting q (todo_back q w));
  }

  -- nothing waits in the copy where nothing waits
  pub queue_copy : IsQueue f ts [] → IsQueue f ts' []
  queue_copy k = record { queued = λ n nl h. k.queued n nl (flag_back n h); opened = λ n c. absurd (omega (arith, c.1)) }

module _ (x y : MarkedNodes) (same : IsSameMarked x y) where
  pub found_same : found y ≡ found x
  found_same = ap (λ (k : ℕ). take k y.order.items) same.count ∙ ap (λ (xs : List NodeId). take x.count xs) same.order

  pub marked_copy : AreMarked x → AreMarked y
  marked_copy a = record {
    room = ap length same.order ∙ a.room ∙ sym (ap length same.marks);
    set = subst (λ (xs : List NodeId). IsMarkedList y.marks.items xs) (sym found_same) (subst (λ (bs : List Bool). IsMarkedList bs (found x)) (sym same.marks) a.set);
    count = ap length found_same ∙ a.count ∙ sym same.count;
  }

  pub nodes_copy : (f : Facts) → AreNodesOf f x → AreNodesOf f y
  nodes_copy f a = record { set = marked_copy a.set; size = ap length same.marks ∙ a.size }

-- ---- one method after the other
module _ {X : Type 0} (g : Found → List X) where
  field_there : (xs : List Found) (m : ℕ) (d : Found) → m < length xs → option_map_or g (slice_get xs m) [] ≡ g (get_or xs m d)
  field_there xs m d lt = ap (λ (o : Option Found). option_map_or g o []) (slice_get-get_or xs m d lt)

  field_past : (xs : List Found) (m : ℕ) → length xs ≤ m → option_map_or g (slice_get xs m) [] ≡ []
  field_past xs m le = ap (λ (o : Option Found). option_map_or g o []) (slice_get_past xs m le)

  field_push : (xs ys : List Found) (x y : Found) → length ys ≡ length xs → ((m : ℕ) → option_map_or g (slice_get ys m) [] ≡ option_map_or g (slice_get xs m) []) → g y ≡ g x → (m : ℕ) → option_map_or g (slice_get (ys ++ y ∷ []) m) [] ≡ option_map_or g (slice_get (xs ++ x ∷ []) m) []
  field_push xs ys x y len same one m =
      let lx = length-append xs (x ∷ []) in
      let ly = length-append ys (y ∷ []) in
      elim (cases_lt m (length xs)) [
        | inl low ↦
            field_there (ys ++ y ∷ []) m y (omega (arith, low, len, ly)) ∙ ap g (get_or-append ys (y ∷ []) y m (omega (arith, low, len))) ∙ sym (field_there ys m y (omega (arith, low, len))) ∙ same m
            ∙ field_there xs m x low ∙ ap g (sym (get_or-append xs (x ∷ []) x m low)) ∙ sym (field_there (xs ++ x ∷ []) m x (omega (arith, low, lx)))
        | inr high ↦ elim (cases_eq m (length xs)) [
          | inl is ↦
              field_there (ys ++ y ∷ []) m y (omega (arith, is, len, ly)) ∙ ap g (last ys y m (is ∙ sym len)) ∙ one ∙ ap g (sym (last xs x m is)) ∙ sym (field_there (xs ++ x ∷ []) m x (omega (arith, is, lx)))
          | inr ne ↦ field_past (ys ++ y ∷ []) m (omega (arith, high, ne, len, ly)) ∙ sym (field_past (xs ++ x ∷ []) m (omega (arith, high, ne, lx)))
        ]
      ]
    where
      last : (zs : List Found) (z : Found) (m : ℕ) → m ≡ length zs → get_or (zs ++ z ∷ []) m z ≡ z
      last zs z m is = get_or_at zs z [] z m (sym is)

pub same_none : AreSameFound [] []
same_none = record { len = refl; got = λ m. refl; todo = λ m. refl; waits = λ m. refl }

pub same_more : (all : List Found) (i : ℕ) (d : Found) (ys zs : List Found) (y : Found) → i < length all → zs ≡ ys ++ y ∷ [] → y.got.items ≡ (get_or all i d).got.items → y.todo.items ≡ (get_or all i d).todo.items → y.waits.items ≡ (get_or all i d).waits.items
    → AreSameFound (take i all) ys → AreSameFound (take (i + 1) all) zs
same_more all i d ys zs y lt pushed got todo waits s =
    subst (λ (xs : List Found). AreSameFound xs zs) (sym (take_more all i d lt)) (subst (λ (xs : List Found). AreSameFound (take i all ++ get_or all i d ∷ []) xs) (sym pushed) (record {
      len = omega (arith, s.len, length-append ys (y ∷ []), length-append (take i all) (get_or all i d ∷ []));
      got = field_push (λ t. t.got.items) (take i all) ys (get_or all i d) y s.len s.got got;
      todo = field_push (λ t. t.todo.items) (take i all) ys (get_or all i d) y s.len s.todo todo;
      waits = field_push (λ t. t.waits.items) (take i all) ys (get_or all i d) y s.len s.waits waits;
    }))
