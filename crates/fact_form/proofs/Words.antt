-- How many words the rows of summaries have.
use Rattle.std.proofs.Common.{◌≡◌, ◌⊎◌, ◌+◌, ◌*◌, ◌++◌, ℕ, suc, Bool, true, false, cond, List, [], ◌∷◌, length, length-append, Contains, Some, inl, inr, refl, sym, ap, subst, ◌∙◌, arith}
use Rattle.std.specs.Prelude.{◌/◌, slice_get, sum_by, count_by, replicate}
use Rattle.std.specs.List.{filter}
use Rattle.std.proofs.lemmas.Option.{slice_get_within}
use Rattle.std.proofs.lemmas.List.{length-replicate}
use Rattle.std.proofs.lemmas.List.Elements.{All-contains, All-replicate, All-filter, filter_passes}
use Rattle.std.proofs.lemmas.List.Kept.{AllPairs-filter}
use Rattle.std.proofs.lemmas.List.Sums.{sum_by-cons, sum_by-append, length-filter}
use Rattle.std.proofs.lemmas.List.Folds.{sum_by-replicate}
use Rattle.slicer_ids.specs.Sets.{IsOrderedListOf}
use Rattle.slicer_ids.specs.declared.ids.MethodId.{MethodId}
use Rattle.class_form.proofs.Indices.{head_or, later, there_at}
use Rattle.dep_form.specs.declared.node.Node.{Node as NodeNumber}
use Rattle.dep_form.specs.declared.system.System.{System}
use Rattle.dep_form.specs.declared.effects.ModRef.{ModRef}
use Rattle.dep_form.specs.Nodes.{ComesBefore, is_formal, is_exit}
use Rattle.dep_form.specs.Summaries.{HasSize}
use Rattle.program_form.specs.Programs.{Program}
use Rattle.program_form.specs.Nodes.{Kind, Node}
use Rattle.program_form.specs.Graphs.{Numbering, KindNumber}
use Rattle.program_form.specs.Graphs as numbered
use Rattle.fact_form.specs.NodeNumbers.{IsNumbered}
use Rattle.fact_form.specs.FactTables.{AreNodeRows, words_in}
use Rattle.fact_form.specs.FactLimits.{IsFormalKind, IsExitKind, IsFormalOf, IsExit, AreWidths, IsMemoSize}
use Rattle.fact_form.specs.FactLimits as limit
use Rattle.fact_form.proofs.ItemLists.{joined, apart, all_of}
use Rattle.fact_form.proofs.MethodNodes.{AreOfMethod, AreOfMethods, no_methods, one_more}
use Rattle.fact_form.proofs.Setting.{Setting, IsNumberingOf}
use Rattle.fact_form.proofs.NodesAgree.{node_there}
use Rattle.fact_form.proofs.Counting.{of_method, node_in_range}

-- PARTS OF LISTS

kept_head : {A : Type 0} (b : Bool) (x z : A) (ys : List A) → (x ≡ z → b ≡ true) → (x ≡ z) ⊎ Contains ys z → Contains (cond b (x ∷ ys) ys) z
kept_head true x z ys f (inl e) = (0, omega arith, e)
kept_head true x z ys f (inr c) = later x z ys c
kept_head false x z ys f (inl e) = let no_test : false ≡ true = f e in absurd cc
kept_head false x z ys f (inr c) = c

kept_in : {A : Type 0} (test : A → Bool) (xs : List A) (z : A) → test z ≡ true → Contains xs z → Contains (filter test xs) z
kept_in test [] z t c = absurd (omega (arith, c.1))
kept_in test (x ∷ xs) z t c =
    kept_head (test x) x z (filter test xs) (λ e. ap test e ∙ t) (elim (head_or x z xs c) [ inl e ↦ inl e | inr more ↦ inr (kept_in test xs z t more) ])

-- the members of a list in order that pass a test
filtered : {A : Type 0} (R : A → A → Type 0) (P : A → Type 0) (test : A → Bool) (xs : List A) → IsOrderedListOf R xs P → IsOrderedListOf R (filter test xs) (λ x. P x × (test x ≡ true))
filtered R P test xs o = record {
  each = λ k d lt. (All-filter test P xs o.each k d lt, filter_passes test xs k d lt);
  order = AllPairs-filter R test xs o.order;
  whole = λ x h. kept_in test xs x h.1 (o.whole x h.0);
}

-- FORMALS AND EXITS BY NUMBER

module _ (ns : Numbering) where
  exit_kind : (c : Kind) (k : NodeNumber) → KindNumber ns c k → is_exit k ≡ true → IsExitKind c
  exit_kind c k numbered.returned e = limit.answer
  exit_kind c k numbered.thrown e = limit.exception
  exit_kind c k (numbered.heap_out f) e = limit.location
  exit_kind c k numbered.formal e = absurd cc
  exit_kind c k (numbered.heap_in f) e = absurd cc
  exit_kind c k numbered.own e = absurd cc
  exit_kind c k numbered.argument e = absurd cc
  exit_kind c k numbered.result e = absurd cc
  exit_kind c k numbered.exception e = absurd cc
  exit_kind c k (numbered.heap_arg f) e = absurd cc
  exit_kind c k (numbered.heap_result f) e = absurd cc

  exit_number : (c : Kind) (k : NodeNumber) → IsExitKind c → KindNumber ns c k → is_exit k ≡ true
  exit_number c k limit.answer numbered.returned = refl
  exit_number c k limit.exception numbered.thrown = refl
  exit_number c k limit.location (numbered.heap_out f) = refl

  formal_kind : (c : Kind) (k : NodeNumber) → KindNumber ns c k → is_formal k ≡ true → IsFormalKind c
  formal_kind c k numbered.formal e = limit.argument
  formal_kind c k (numbered.heap_in f) e = limit.location
  formal_kind c k numbered.own e = absurd cc
  formal_kind c k numbered.argument e = absurd cc
  formal_kind c k numbered.result e = absurd cc
  formal_kind c k numbered.exception e = absurd cc
  formal_kind c k (numbered.heap_arg f) e = absurd cc
  formal_kind c k (numbered.heap_result f) e = absurd cc
  formal_kind c k numbered.returned e = absurd cc
  formal_kind c k numbered.thrown e = absurd cc
  formal_kind c k (numbered.heap_out f) e = absurd cc

  formal_number : (c : Kind) (k : NodeNumber) → IsFormalKind c → KindNumber ns c k → is_formal k ≡ true
  formal_number c k limit.argument numbered.formal = refl
  formal_number c k limit.location (numbered.heap_in f) = refl

module _ (p : Program) (s : System) (mr : ModRef) (entries : List MethodId) (g : Setting p s mr entries) (ns : Numbering) (numbers : IsNumberingOf p s mr entries ns) where
  abbrev IsRowOf : MethodId → List NodeNumber → Type 0
  IsRowOf m ks = IsOrderedListOf ComesBefore ks (IsNumbered p s mr entries m)

  -- the formals of a method are as many as its row has
  formals_of : (m : MethodId) (ks : List NodeNumber) → IsRowOf m ks → HasSize (IsFormalOf p m) (count_by is_formal ks)
  formals_of m ks row =
      let (xs, are, size) = of_method p s mr entries g ns numbers (λ k. IsNumbered p s mr entries m k × (is_formal k ≡ true)) (IsFormalOf p m) m (λ k h. h.0) (λ c k number is q. (is, refl, formal_kind ns c k number q.1))
      (λ a k f e number has_it. (f.0, (has_it, formal_number ns a.kind k f.2 number))) (λ a f. f.0) (filter is_formal ks) (filtered ComesBefore (IsNumbered p s mr entries m) is_formal ks row) in (
        xs,
        record {
          each = all_of (IsFormalOf p m) xs (λ i a e. (are.each a (there_at xs i a e)).0);
          once = apart xs are.once;
          whole = λ a f. are.whole a f f.1;
        },
        sym (length-filter is_formal ks) ∙ size,
      )

  exits_of : (m : MethodId) (ks : List NodeNumber) → IsRowOf m ks → (xs : List Node) × AreOfMethod (IsExit p) m xs × (count_by is_exit ks ≡ length xs)
  exits_of m ks row =
      let (xs, are, size) = of_method p s mr entries g ns numbers (λ k. IsNumbered p s mr entries m k × (is_exit k ≡ true)) (IsExit p) m (λ k h. h.0) (λ c k number is q. (is, exit_kind ns c k number q.1))
      (λ a k f e number has_it. (f.0, (has_it, exit_number ns a.kind k f.1 number))) (λ a f. f.0) (filter is_exit ks) (filtered ComesBefore (IsNumbered p s mr entries m) is_exit ks row) in
      (xs, are, sym (length-filter is_exit ks) ∙ size)

  abbrev row_width : List NodeNumber → ℕ
  row_width ks = (count_by is_formal ks + 63) / 64

  abbrev row_words : ℕ → ℕ
  row_words w = 2 * suc w

  same_width : (n w v i : ℕ) → slice_get (replicate n w) i ≡ Some v → v ≡ w
  same_width n w v i e = All-contains (λ z. z ≡ w) (replicate n w) v (All-replicate (λ z. z ≡ w) n w refl) (there_at (replicate n w) i v e)

  -- the exits of some rows, with their widths
  pub record AreMemoRows (start : ℕ) (rows : List (List NodeNumber)) (xs : List Node) (ws : List ℕ) : Type 0 where
    pub exits : AreOfMethods (IsExit p) start (length rows) xs
    pub widths : AreWidths p xs ws
    pub sum : sum_by row_words ws ≡ sum_by words_in rows

  joined_widths : (m : MethodId) (ks : List NodeNumber) (xs ys : List Node) (ws : List ℕ) → IsRowOf m ks → AreOfMethod (IsExit p) m xs → AreWidths p ys ws → AreWidths p (xs ++ ys) (replicate (length xs) (row_width ks) ++ ws)
  joined_widths m ks xs ys ws row are rest = record {
    size = omega (arith, length-append xs ys, length-append (replicate (length xs) (row_width ks)) ws, length-replicate (length xs) (row_width ks), rest.size);
    each = both;
  }
    where
      same_size : length (replicate (length xs) (row_width ks)) ≡ length xs
      same_size = length-replicate (length xs) (row_width ks)

      in_xs : (i : ℕ) (a : Node) (w : ℕ) → slice_get xs i ≡ Some a → slice_get (replicate (length xs) (row_width ks)) i ≡ Some w → (n : ℕ) × HasSize (IsFormalOf p a.method) n × (w ≡ (n + 63) / 64)
      in_xs i a w e f =
          let method = (are.each a (there_at xs i a e)).1 in
          (count_by is_formal ks, subst (λ z. HasSize (IsFormalOf p z) (count_by is_formal ks)) (sym method) (formals_of m ks row), same_width (length xs) (row_width ks) w i f)

      both : (i : ℕ) (a : Node) (w : ℕ) → slice_get (xs ++ ys) i ≡ Some a → slice_get (replicate (length xs) (row_width ks) ++ ws) i ≡ Some w → (n : ℕ) × HasSize (IsFormalOf p a.method) n × (w ≡ (n + 63) / 64)
      both i a w e f = elim (joined xs ys i a e) [
        | inl x ↦ elim (joined (replicate (length xs) (row_width ks)) ws i w f) [
          | inl y ↦ in_xs i a w x y
          | inr y ↦ absurd (omega (arith, slice_get_within xs i a x, y.1, same_size))
        ]
        | inr x ↦ elim (joined (replicate (length xs) (row_width ks)) ws i w f) [
          | inl y ↦ absurd (omega (arith, x.1, same_size, slice_get_within (replicate (length xs) (row_width ks)) i w y))
          | inr y ↦ let same : y.0 ≡ x.0 = omega (arith, x.1, y.1, same_size) in rest.each x.0 a w x.2 (subst (λ z. slice_get ws z ≡ Some w) same y.2)
        ]
      ]

  memo_rows : (rows : List (List NodeNumber)) (start : ℕ) → ((i : ℕ) (ks : List NodeNumber) → slice_get rows i ≡ Some ks → IsRowOf (record { 0 = start + i }) ks) → (xs : List Node) × (ws : List ℕ) × AreMemoRows start rows xs ws
  memo_rows [] start f = (
    [],
    [],
    record {
      exits = no_methods (IsExit p) start;
      widths = record { size = refl; each = λ i a w e d. absurd (omega (arith, slice_get_within [] i a e)) };
      sum = refl;
    },
  )
  memo_rows (ks ∷ rows) start f =
      let here : start + 0 ≡ start = omega arith in
      let row : IsRowOf (record { 0 = start }) ks = subst (λ n. IsRowOf (record { 0 = n }) ks) here (f 0 ks refl) in
      let (xs, first, count) = exits_of (record { 0 = start }) ks row in
      let (ys, ws, rest) = memo_rows rows (suc start) (λ i ls e. let next : start + suc i ≡ suc start + i = omega arith in subst (λ n. IsRowOf (record { 0 = n }) ls) next (f (suc i) ls e)) in
      let mine : sum_by row_words (replicate (length xs) (row_width ks)) ≡ words_in ks = sum_by-replicate row_words (length xs) (row_width ks) ∙ ap (λ n. n * row_words (row_width ks)) (sym count) in
      let all : sum_by row_words (replicate (length xs) (row_width ks) ++ ws) ≡ sum_by words_in (ks ∷ rows) =
      sum_by-append row_words (replicate (length xs) (row_width ks)) ws ∙ ap (λ n. n + sum_by row_words ws) mine ∙ ap (λ n. words_in ks + n) rest.sum ∙ sym (sum_by-cons words_in ks rows) in (
        xs ++ ys,
        replicate (length xs) (row_width ks) ++ ws,
        record {
          exits = one_more (IsExit p) start (length rows) xs ys first rest.exits;
          widths = joined_widths (record { 0 = start }) ks xs ys ws row first rest.widths;
          sum = all;
        },
      )

  pub words_counted : (rows : List (List NodeNumber)) → AreNodeRows p s mr entries rows → IsMemoSize p (sum_by words_in rows)
  words_counted rows are =
      let (xs, ws, all) = memo_rows rows 0 (λ i ks e. let same : i ≡ 0 + i = omega arith in subst (λ n. IsRowOf (record { 0 = n }) ks) same (are.each (record { 0 = i }) ks e)) in (
        xs,
        ws,
        record {
          each = all_of (IsExit p) xs (λ i a e. (all.exits.each a (there_at xs i a e)).0);
          once = apart xs all.exits.once;
          whole = λ a is.
              let k = node_there p s mr entries g ns numbers a is.0 in
              all.exits.whole a is (omega arith) (omega (arith, node_in_range p s mr entries g ns numbers a.method k.0 k.2, are.count));
        },
        all.widths,
        sym all.sum,
      )
