-- The row of a node, from the rows of the nodes after it.
use Rattle.std.proofs.Common.{◌≡◌, ◌≢◌, ℕ, ◌+◌, ◌*◌, ◌<◌, ◌≤◌, ◌⊎◌, ◌↔◌, inl, inr, List, [], ◌∷◌, ◌++◌, length, take, set, get_or, refl, sym, ap, ◌∙◌, subst, arith, get_or-set_same, get_or-set_other, length-set}
use Rattle.std.specs.Prelude.{Contains, slice_index, slice_get, Some, All}
use Rattle.std.specs.Global.{Vec}
use Rattle.std.proofs.lemmas.Bool.{cases_eq, cases_lt}
use Rattle.std.proofs.lemmas.Option.{slice_get_within, get_or_from_slice_get}
use Rattle.std.proofs.lemmas.List.{take_more, take_all, length-take, get_or-take}
use Rattle.std.proofs.lemmas.List.Elements.{Contains-push_cases, Contains-get_or}
use Rattle.std.proofs.lemmas.Grind.{get_or_default_zero}
use Rattle.slicer_ids.specs.Walks.{IsWalk, LeadsBy}
use Rattle.digraph.specs.Graphs.{targets, HasEdge}
use Rattle.digraph.specs.Orders.{IsOrder}
use Rattle.digraph.specs.Rows.{HasBit, IsRowOf, HaveRows, AreRows}
use Rattle.digraph.proofs.Marks.{edge_place, target_edge}

-- the bits of the node and of what its first edges lead to
pub record IsPartRow (g : List (Vec ℕ)) (row : List ℕ) (node i : ℕ) : Type 0 where
  pub bits : (b : ℕ) → b < length g → HasBit row b ↔ ((b ≡ node) ⊎ ((k : ℕ) × (k < i) × LeadsBy (HasEdge g) (slice_index (targets g node) k) b))

pub part_none : (g : List (Vec ℕ)) (zero row : List ℕ) (node : ℕ) → ((b : ℕ) → HasBit zero b → ⊥) → ((b : ℕ) → HasBit row b ↔ (HasBit zero b ⊎ (b ≡ node))) → IsPartRow g row node 0
part_none g zero row node none bits = record {
  bits = λ b l. (
    λ h. elim ((bits b).0 h) [ inl z ↦ absurd (none b z) | inr is ↦ inl is ],
    λ h. (bits b).1 (elim h [ inl is ↦ inr is | inr k ↦ absurd (omega (arith, k.1)) ]),
  );
}

pub part_more : (g : List (Vec ℕ)) (row other new : List ℕ) (node i t : ℕ) → IsPartRow g row node i → ((b : ℕ) → HasBit new b ↔ (HasBit row b ⊎ HasBit other b))
    → slice_index (targets g node) i ≡ t → IsRowOf g other t → IsPartRow g new node (i + 1)
part_more g row other new node i t p bits at r = record {
  bits = λ b l. (
    λ h. elim ((bits b).0 h) [
      | inl was ↦ elim ((p.bits b l).0 was) [ inl is ↦ inl is | inr k ↦ inr (k.0, omega (arith, k.1), k.2) ]
      | inr o ↦ inr (i, omega arith, subst (λ a. LeadsBy (HasEdge g) a b) (sym at) ((r b l).0 o))
    ],
    λ h. (bits b).1 (elim h [
      | inl is ↦ inl ((p.bits b l).1 (inl is))
      | inr k ↦ elim (cases_lt k.0 i) [
        | inl low ↦ inl ((p.bits b l).1 (inr (k.0, low, k.2)))
        | inr high ↦
            let here : k.0 ≡ i = omega (arith, k.1) in
            inr ((r b l).1 (subst (λ a. LeadsBy (HasEdge g) a b) (ap (slice_index (targets g node)) here ∙ at) k.2))
      ]
    ]),
  );
}

to_edges : (g : List (Vec ℕ)) (node b i : ℕ) (xs : List ℕ) → length (targets g node) ≤ i → IsWalk (HasEdge g) node xs b → (b ≡ node) ⊎ ((k : ℕ) × (k < i) × LeadsBy (HasEdge g) (slice_index (targets g node) k) b)
to_edges g node b i [] l w = inl (sym w)
to_edges g node b i (x ∷ xs) l w =
    let p = edge_place g node x w.0 in
    inr (p.0, omega (arith, p.1), subst (λ a. LeadsBy (HasEdge g) a b) (sym p.2) (xs, w.1))

pub part_all : (g : List (Vec ℕ)) (row : List ℕ) (node i : ℕ) → length (targets g node) ≡ i → IsPartRow g row node i → IsRowOf g row node
part_all g row node i e p b l = (
  λ h. elim ((p.bits b l).0 h) [
    | inl is ↦ ([], sym is)
    | inr k ↦ (slice_index (targets g node) k.0 ∷ k.2.0, (target_edge g node k.0 (omega (arith, k.1)), k.2.1))
  ],
  λ h. (p.bits b l).1 (to_edges g node b i h.0 (omega arith) h.1),
)

-- a further node has its row
pub rows_more : (g rows : List (Vec ℕ)) (words n : ℕ) (nodes : List ℕ) (row : Vec ℕ) → HaveRows g rows words nodes → n < length rows → length row.items ≡ words → IsRowOf g row.items n
    → HaveRows g (set rows n row) words (nodes ++ n ∷ [])
rows_more g rows words n nodes row h lt len is = record {
  node = λ m c. omega (arith, length-set rows n row, elim (Contains-push_cases nodes n m c) as (λ _. m < length rows) [ inl was ↦ h.node m was | inr same ↦ subst (λ k. k < length rows) same lt ]);
  size = λ m d c. elim (cases_eq m n) [
    | inl e ↦ ap (λ k. length (get_or (set rows n row) k d).items) e ∙ ap (λ (v : Vec ℕ). length v.items) (get_or-set_same rows n row d lt) ∙ len
    | inr ne ↦ ap (λ (v : Vec ℕ). length v.items) (get_or-set_other rows n m row d ne) ∙ h.size m d (other m ne c)
  ];
  row = λ m d c. elim (cases_eq m n) [
    | inl e ↦ subst (λ k. IsRowOf g (get_or (set rows n row) k d).items k) (sym e) (subst (λ (v : Vec ℕ). IsRowOf g v.items n) (sym (get_or-set_same rows n row d lt)) is)
    | inr ne ↦ subst (λ (v : Vec ℕ). IsRowOf g v.items m) (sym (get_or-set_other rows n m row d ne)) (h.row m d (other m ne c))
  ];
}
  where
    other : (m : ℕ) → m ≢ n → Contains (nodes ++ n ∷ []) m → Contains nodes m
    other m ne c = elim (Contains-push_cases nodes n m c) [ inl was ↦ was | inr same ↦ absurd (ne (sym same)) ]

-- the nodes after a node of the order have their rows
pub rows_before : (g rows : List (Vec ℕ)) (words i : ℕ) (order : List ℕ) → IsOrder g order → i < length order → HaveRows g rows words (take i order) → HaveRows g rows words (targets g (slice_index order i))
rows_before g rows words i order o l h = record {
  node = λ n c. h.node n (earlier n c);
  size = λ n d c. h.size n d (earlier n c);
  row = λ n d c. h.row n d (earlier n c);
}
  where
    earlier : (n : ℕ) → Contains (targets g (slice_index order i)) n → Contains (take i order) n
    earlier n c = let j = o.back i n l c in (j.0, omega (arith, length-take i order, j.1), get_or-take i order j.0 n j.1 ∙ get_or_default_zero order j.0 n (omega (arith, j.1)) ∙ j.2)

pub rows_all : (g rows : List (Vec ℕ)) (words i : ℕ) (order : List ℕ) → IsOrder g order → length order ≤ i → length rows ≡ length g → HaveRows g rows words (take i order) → AreRows g rows
rows_all g rows words i order o l len h = record {
  len = len;
  each = λ a row e.
      let c = o.whole a (omega (arith, slice_get_within rows a row e)) in
      subst (λ (v : Vec ℕ). IsRowOf g v.items a) (get_or_from_slice_get rows a row row e) (h.row a row (subst (λ xs. Contains xs a) (sym (take_all i order l)) c));
}

-- a read of a row
pub row_read : (g rows : List (Vec ℕ)) (words n t : ℕ) (nodes : List ℕ) (row : Vec ℕ) → HaveRows g rows words nodes → Contains nodes t → row ≡ get_or rows t row
    → (length row.items ≡ words) × IsRowOf g row.items t
row_read g rows words n t nodes row h c e = (ap (λ (v : Vec ℕ). length v.items) e ∙ h.size t row c, subst (λ (v : Vec ℕ). IsRowOf g v.items t) (sym e) (h.row t row c))
