-- The groups of places that are in order.
use Rattle.std.proofs.Common.{◌≡◌, ◌⊎◌, ◌+◌, ◌<◌, ◌++◌, ℕ, zero, suc, List, [], ◌∷◌, length, map, Contains, Some, inl, inr, refl, sym, ap, subst, ◌∙◌, arith}
use Rattle.std.specs.Prelude.{slice_get, AllPairs}
use Rattle.std.specs.declared.cmp.Ordering.TheVariants.{Less}
use Rattle.std.proofs.lemmas.List.Elements.{All-contains}
use Rattle.std.proofs.lemmas.List.Kept.{AllPairs-cons}
use Rattle.std.proofs.lemmas.Option.{slice_get_within}
use Rattle.slicer_ids.specs.Order.{StatementBefore}
use Rattle.slicer_ids.specs.Sets.{IsOrderedListOf}
use Rattle.slicer_ids.specs.declared.ids.ClassId.{ClassId}
use Rattle.slicer_ids.specs.declared.ids.Statement.{Statement}
use Rattle.class_form.proofs.Indices.{index_in, index_at, there_at, head_or, later}
use Rattle.dep_form.specs.Keys.{key_of_line}
use Rattle.dep_form.specs.Orders.{line_cmp}
use Rattle.fact_form.proofs.ItemLists.{join_left, join_right, joined, mapped, map_at, listed_as, pair_at, pairs_of, all_of}
use Rattle.text_tables.specs.LineGroups.{AreGroups, AreRuns, none, one, place_cmp, statement_of}
use Rattle.text_tables.specs.declared.lines.LinePlace.{LinePlace}
use Rattle.text_tables.proofs.PlaceOrder.{KeyBefore, key_less, key_trans, not_itself, place_is, place_less}

abbrev Group : Type 0
Group = ClassId × ℕ × List Statement

abbrev PlaceBefore : LinePlace → LinePlace → Type 0
PlaceBefore a b = place_cmp a b ≡ Less

abbrev place : ClassId → ℕ → Statement → LinePlace
place c l t = record { class = c; line = l; place = t }

-- members of joined lists
in_left : {A : Type 0} (xs ys : List A) (x : A) → Contains xs x → Contains (xs ++ ys) x
in_left xs ys x c = let i = index_in xs x c in there_at (xs ++ ys) i.0 x (join_left xs ys i.0 x i.1)

in_right : {A : Type 0} (xs ys : List A) (y : A) → Contains ys y → Contains (xs ++ ys) y
in_right xs ys y c = let i = index_in ys y c in there_at (xs ++ ys) (length xs + i.0) y (join_right xs ys i.0 (length xs + i.0) y refl i.1)

in_either : {A : Type 0} (xs ys : List A) (z : A) → Contains (xs ++ ys) z → Contains xs z ⊎ Contains ys z
in_either xs ys z c =
    let i = index_in (xs ++ ys) z c in
    elim (joined xs ys i.0 z i.1) [ inl h ↦ inl (there_at xs i.0 z h) | inr w ↦ inr (there_at ys w.0 z w.2) ]

across : {A : Type 0} (R : A → A → Type 0) (xs ys : List A) → AllPairs R (xs ++ ys) → (x y : A) → Contains xs x → Contains ys y → R x y
across R xs ys order x y c d =
    let i = index_in xs x c in
    let j = index_in ys y d in
    pair_at R (xs ++ ys) order i.0 (length xs + j.0) x y (omega (arith, slice_get_within xs i.0 x i.1)) (join_left xs ys i.0 x i.1) (join_right xs ys j.0 (length xs + j.0) y refl j.1)

right_order : {A : Type 0} (R : A → A → Type 0) (xs ys : List A) → AllPairs R (xs ++ ys) → AllPairs R ys
right_order R xs ys order = pairs_of R ys (λ i j x y lt ex ey.
    pair_at R (xs ++ ys) order (length xs + i) (length xs + j) x y (omega (arith, lt)) (join_right xs ys i (length xs + i) x refl ex) (join_right xs ys j (length xs + j) y refl ey))

-- one run, and the groups of what stands after it
module _ (c : ClassId) (l : ℕ) (run rest : List LinePlace) (groups : List Group) (some : 0 < length run) (keys : (x : LinePlace) → Contains run x → (x.class ≡ c) × (x.line ≡ l))
    (ends : (y : LinePlace) → slice_get rest 0 ≡ Some y → y.class ≡ c → y.line ≡ l → ⊥) (sorted : AllPairs PlaceBefore (run ++ rest)) (after : AreGroups rest groups) where
  abbrev ts : List Statement
  ts = map statement_of run

  first : (x : LinePlace) × (slice_get run 0 ≡ Some x)
  first = index_at run 0 some

  first_in : Contains run first.0
  first_in = there_at run 0 first.0 first.1

  key_of_first : (y : LinePlace) → KeyBefore first.0.class first.0.line y.class y.line → KeyBefore c l y.class y.line
  key_of_first y h =
      let k = keys first.0 first_in in
      subst (λ (d : ClassId). KeyBefore d l y.class y.line) k.0 (subst (λ (n : ℕ). KeyBefore first.0.class n y.class y.line) k.1 h)

  -- what the rest begins with has a later key
  head_later : (y : LinePlace) → slice_get rest 0 ≡ Some y → KeyBefore c l y.class y.line
  head_later y at = elim (place_less first.0 y (across PlaceBefore run rest sorted first.0 y first_in (there_at rest 0 y at))) [
    | inl h ↦ key_of_first y h
    | inr same ↦ let k = keys first.0 first_in in absurd (ends y at (sym same.0 ∙ k.0) (sym same.1 ∙ k.1))
  ]

  -- .. and so has all of it
  rest_later : (y : LinePlace) → Contains rest y → KeyBefore c l y.class y.line
  rest_later y among = by_index (index_in rest y among).0 (index_in rest y among).1
    where
      by_index : (j : ℕ) → slice_get rest j ≡ Some y → KeyBefore c l y.class y.line
      by_index zero at = head_later y at
      by_index (suc j) at =
          let head = index_at rest 0 (omega (arith, slice_get_within rest (suc j) y at)) in
          let before = pair_at PlaceBefore rest (right_order PlaceBefore run rest sorted) 0 (suc j) head.0 y (omega arith) head.1 at in
          let from = head_later head.0 head.1 in
          elim (place_less head.0 y before) [
            | inl h ↦ key_trans c head.0.class y.class l head.0.line y.line from h
            | inr same ↦ subst (λ (d : ClassId). KeyBefore c l d y.line) same.0 (subst (λ (n : ℕ). KeyBefore c l head.0.class n) same.1 from)
          ]

  -- the groups after it have later keys
  group_later : (d : ClassId) (n : ℕ) (us : List Statement) → Contains groups (d, n, us) → KeyBefore c l d n
  group_later d n us among =
      let t = after.some d n us among in
      rest_later (place d n t.0) (All-contains (λ (u : Statement). Contains rest (place d n u)) us t.0 (after.each d n us among).each t.1)

  -- the statements of the run
  in_run : (t : Statement) → Contains run (place c l t) → Contains ts t
  in_run t among = let i = index_in run (place c l t) among in there_at ts i.0 t (map_at statement_of run i.0 (place c l t) i.1)

  of_run : (k : ℕ) (t : Statement) → slice_get ts k ≡ Some t → slice_get run k ≡ Some (place c l t)
  of_run k t at =
      let x = mapped statement_of run k t at in
      let key = keys x.0 (there_at run k x.0 x.1) in
      let same : x.0 ≡ place c l t = place_is x.0 (place c l t) key.0 key.1 x.2 in
      x.1 ∙ ap (λ (z : LinePlace). Some z) same

  run_listed : IsOrderedListOf StatementBefore ts (λ t. Contains (run ++ rest) (place c l t))
  run_listed = record {
    each = all_of (λ (t : Statement). Contains (run ++ rest) (place c l t)) ts (λ k t at. there_at (run ++ rest) k (place c l t) (join_left run rest k (place c l t) (of_run k t at)));
    order = pairs_of StatementBefore ts (λ i j t u lt et eu.
        let before = pair_at PlaceBefore (run ++ rest) sorted i j (place c l t) (place c l u) lt (join_left run rest i (place c l t) (of_run i t et)) (join_left run rest j (place c l u) (of_run j u eu)) in
        elim (place_less (place c l t) (place c l u) before) [ inl h ↦ absurd (not_itself c c l l h refl refl) | inr same ↦ same.2 ]);
    whole = λ t among. elim (in_either run rest (place c l t) among) [
      | inl h ↦ in_run t h
      | inr h ↦ absurd (not_itself c c l l (rest_later (place c l t) h) refl refl)
    ];
  }

  -- the statements of a later group
  later_listed : (d : ClassId) (n : ℕ) (us : List Statement) → Contains groups (d, n, us) → IsOrderedListOf StatementBefore us (λ t. Contains (run ++ rest) (place d n t))
  later_listed d n us among =
      listed_as StatementBefore (λ (t : Statement). Contains rest (place d n t)) (λ (t : Statement). Contains (run ++ rest) (place d n t)) us (λ t h. in_right run rest (place d n t) h) (λ t h. only t h)
      (after.each d n us among)
    where
      only : (t : Statement) → Contains (run ++ rest) (place d n t) → Contains rest (place d n t)
      only t h = elim (in_either run rest (place d n t) h) [
        | inl g ↦ let k = keys (place d n t) g in absurd (not_itself c d l n (group_later d n us among) (sym k.0) (sym k.1))
        | inr g ↦ g
      ]

  -- the group of a key: the run's, or a later one
  of_group : (d : ClassId) (n : ℕ) (us : List Statement) → Contains ((c, l, ts) ∷ groups) (d, n, us) → ((c ≡ d) × (l ≡ n) × (ts ≡ us)) ⊎ Contains groups (d, n, us)
  of_group d n us among = elim (head_or (c, l, ts) (d, n, us) groups among) [
    | inl e ↦ inl (ap (λ (g : Group). g.0) e, ap (λ (g : Group). g.1) e, ap (λ (g : Group). g.2) e)
    | inr h ↦ inr h
  ]

  run_some : (t : Statement) × Contains ts t
  run_some = (first.0.place, there_at ts 0 first.0.place (map_at statement_of run 0 first.0 first.1))

  pub one_more : AreGroups (run ++ rest) ((c, l, ts) ∷ groups)
  one_more = record {
    order = AllPairs-cons (λ (a b : Group). line_cmp (key_of_line a) (key_of_line b) ≡ Less) (c, l, ts) groups
        (all_of (λ (g : Group). line_cmp (key_of_line (c, l, ts)) (key_of_line g) ≡ Less) groups (λ k g at. key_less c g.0 l g.1 (group_later g.0 g.1 g.2 (there_at groups k g at)))) after.order;
    some = λ d n us among. elim (of_group d n us among) [
      | inl e ↦ subst (λ (vs : List Statement). (t : Statement) × Contains vs t) e.2 run_some
      | inr h ↦ after.some d n us h
    ];
    each = λ d n us among. elim (of_group d n us among) [
      | inl e ↦ subst (λ (b : ClassId). IsOrderedListOf StatementBefore us (λ t. Contains (run ++ rest) (place b n t))) e.0
          (subst (λ (m : ℕ). IsOrderedListOf StatementBefore us (λ t. Contains (run ++ rest) (place c m t))) e.1
          (subst (λ (vs : List Statement). IsOrderedListOf StatementBefore vs (λ t. Contains (run ++ rest) (place c l t))) e.2 run_listed))
      | inr h ↦ later_listed d n us h
    ];
    whole = λ d n t among. elim (in_either run rest (place d n t) among) [
      | inl h ↦
          let k = keys (place d n t) h in
          let head : Contains ((c, l, ts) ∷ groups) (c, l, ts) = (0, omega arith, refl) in
          (ts, subst (λ (b : ClassId). Contains ((c, l, ts) ∷ groups) (b, n, ts)) (sym k.0) (subst (λ (m : ℕ). Contains ((c, l, ts) ∷ groups) (c, m, ts)) (sym k.1) head))
      | inr h ↦ let w = after.whole d n t h in (w.0, later (c, l, ts) (d, n, w.0) groups w.1)
    ];
  }

no_groups : AreGroups [] []
no_groups = record {
  order = λ i j d lt within. absurd (omega (arith, within));
  some = λ c l us among. absurd (omega (arith, among.1));
  each = λ c l us among. absurd (omega (arith, among.1));
  whole = λ c l t among. absurd (omega (arith, among.1));
}

pub groups_are : (xs : List LinePlace) (gs : List Group) → AreRuns xs gs → AllPairs PlaceBefore xs → AreGroups xs gs
groups_are xs gs none sorted = no_groups
groups_are xs gs (one {class = c} {line = l} {rest = rest} {ts = us} {groups = groups} run some keys is ends e more) sorted =
    let order : AllPairs PlaceBefore (run ++ rest) = subst (AllPairs PlaceBefore) e sorted in
    let after = groups_are rest groups more (right_order PlaceBefore run rest order) in
    subst (λ (ys : List LinePlace). AreGroups ys ((c, l, us) ∷ groups)) (sym e)
    (subst (λ (vs : List Statement). AreGroups (run ++ rest) ((c, l, vs) ∷ groups)) (sym is) (one_more c l run rest groups some keys ends order after))
