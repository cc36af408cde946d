-- How many data words the row of an exit has, as a number and as a relation.
use Rattle.std.proofs.Common.{◌≡◌, ◌<◌, ◌≤◌, ◌+◌, ◌/◌, ◌-◌, ◌^◌, ℕ, zero, suc, List, [], ◌∷◌, length, take, get_or, Bool, true, cond, Option, Some, None, refl, sym, subst, ap, ◌∙◌, inl, inr, arith, add-one}
use Rattle.std.specs.Prelude.{slice_get, slice_index, count_by, nat_le, nat_lt, ◌&&◌}
use Rattle.std.proofs.Math.Logic.{∥∥₁_elim}
use Rattle.std.proofs.Props.{props}
use Rattle.std.proofs.lemmas.Bool.{cases_lt, cases_Bool, and_from, and_parts, le-leb, lt-ltb, leb-true, ltb-true, cond-true, cond-false, cond_both}
use Rattle.dep_form.proofs.Searching.{all_at}
use Rattle.std.proofs.lemmas.Option.{slice_get_within, slice_get-get_or, slice_get_cases, get_or_from_slice_get, same_Some, none-some}
use Rattle.std.proofs.lemmas.List.Sums.{sum_by-cons, count_by-le-length}
use Rattle.std.proofs.lemmas.List.{take_all, get_or_past, length-map}
use Rattle.slicer_ids.specs.declared.ids.ExitId.{ExitId}
use Rattle.slicer_ids.specs.declared.ids.MethodId.{MethodId}
use Rattle.slicer_ids.specs.declared.ids.NodeId.{NodeId}
use Rattle.slicer_ids.specs.declared.ids.Mode.{Mode}
use Rattle.dep_form.specs.declared.node.Node.{Node}
use Rattle.dep_form.specs.declared.input.MethodInput.{MethodInput}
use Rattle.dep_form.specs.declared.facts.Facts.{Facts}
use Rattle.dep_form.specs.Nodes.{is_formal}
use Rattle.dep_form.specs.Firsts.{node_count, nodes_in}
use Rattle.dep_form.specs.Inputs.{IsExitNode, formal_count}
use Rattle.dep_form.specs.Summaries.{IsExitAt, IsWidthOf, Summary}
use Rattle.dep_form.specs.LookUps.{IsMethodOfNode, HasFormals}
use Rattle.dep_form.specs.Graphs.{HasInput}
use Rattle.dep_form.proofs.Firsts.{count_next, count_rises}
use Rattle.dep_form.proofs.OneMethod.{one_place, is_within, summary_of_formals}
use Rattle.summary_memo.specs.Places.{formals_at, words_for, widths, width, before}
use Rattle.summary_memo.proofs.Starts.{index-map, bounded, next_row}

-- where the first so many pass a test, more pass
counts_past : {X : Type 0} (p : X → Bool) (xs : List X) (k : ℕ) → k < length xs → ((j : ℕ) (d : X) → j ≤ k → p (get_or xs j d) ≡ true) → k < count_by p xs
counts_past p [] k lt all = absurd (omega arith)
counts_past p (x ∷ xs) zero lt all =
    let yes : ◌≡◌ {A = ℕ} (cond (p x) 1 0) 1 = rw (all zero x (omega arith)) refl in
    omega (arith, sum_by-cons (λ y. cond (p y) 1 0) x xs, yes)
counts_past p (x ∷ xs) (suc k) lt all =
    let yes : ◌≡◌ {A = ℕ} (cond (p x) 1 0) 1 = rw (all zero x (omega arith)) refl in
    let rest = counts_past p xs k (omega arith) (λ j d le. all (suc j) d (omega arith)) in
    omega (arith, sum_by-cons (λ y. cond (p y) 1 0) x xs, yes, rest)

-- a formal's number is below the count of formals
below_count : (i : MethodInput) (k : ℕ) (kind : Node) → slice_get i.nodes k ≡ Some kind → is_formal kind ≡ true → k < formal_count i
below_count i k kind at is =
    let lt : k < length i.nodes = slice_get_within i.nodes k kind at in
    counts_past is_formal i.nodes k lt (λ j d le. i.formals_first j k d le lt (ap is_formal (get_or_from_slice_get i.nodes k kind d at) ∙ is))

-- a formal of a summary stands within the row's words
pub within_width : (f : Facts) (e : ExitId) (mode : Mode) (k words : ℕ) → IsWidthOf f e words → Summary f mode e k → k / 64 < words
within_width f e mode k words w s =
    let found = summary_of_formals f mode e k w.2 w.0 w.1 w.3 w.4 w.5 w.6 s in
    let formal = found.1 in
    let place : found.0.0 - w.1.first.0 ≡ k = omega (arith, formal.0) in
    let at : slice_get w.1.nodes k ≡ Some formal.1 = subst (λ n. slice_get w.1.nodes n ≡ Some formal.1) place formal.2.1 in
    omega (arith, below_count w.1 k formal.1 at formal.3, w.7)

-- the node is one of the input
abbrev pub IsIn : ℕ → MethodInput → Type 0
IsIn n i = (i.first.0 ≤ n) × (n < i.first.0 + length i.nodes)

-- of inputs of which one alone has the node, the formals are that one's
formals_here : (inputs : List (Option MethodInput)) (n : NodeId) (m : ℕ) (i : MethodInput) → slice_get inputs m ≡ Some (Some i) → IsIn n.0 i
    → ((a b : ℕ) (x y : MethodInput) → slice_get inputs a ≡ Some (Some x) → slice_get inputs b ≡ Some (Some y) → IsIn n.0 x → IsIn n.0 y → a ≡ b)
    → formals_at inputs n ≡ formal_count i
formals_here [] n m i at has one = absurd (none-some (Some i) at)
formals_here (None ∷ inputs) n zero i at has one = absurd (none-some i (same_Some None (Some i) at))
formals_here (None ∷ inputs) n (suc m) i at has one = formals_here inputs n m i at has (λ a b x y p q s t. omega (arith, one (suc a) (suc b) x y p q s t))
formals_here (Some j ∷ inputs) n zero i at has one =
    let same : j ≡ i = same_Some j i (same_Some (Some j) (Some i) at) in
    let here : IsIn n.0 j = subst (λ x. IsIn n.0 x) (sym same) has in
    let test : nat_le j.first.0 n.0 && nat_lt n.0 (j.first.0 + length j.nodes) ≡ true = and_from _ _ (le-leb _ _ here.0) (lt-ltb _ _ here.1) in
    cond-true (nat_le j.first.0 n.0 && nat_lt n.0 (j.first.0 + length j.nodes)) (formal_count j) (formals_at inputs n) test ∙ ap formal_count same
formals_here (Some j ∷ inputs) n (suc m) i at has one =
    elim (cases_Bool (nat_le j.first.0 n.0 && nat_lt n.0 (j.first.0 + length j.nodes))) [
      | inl passed ↦
          let parts = and_parts _ _ passed in
          let here : IsIn n.0 j = (leb-true _ _ parts.0, ltb-true _ _ parts.1) in
          absurd (omega (arith, one 0 (suc m) j i refl at here has))
      | inr failed ↦
          cond-false (nat_le j.first.0 n.0 && nat_lt n.0 (j.first.0 + length j.nodes)) (formal_count j) (formals_at inputs n) failed
          ∙ formals_here inputs n m i at has (λ a b x y p q s t. omega (arith, one (suc a) (suc b) x y p q s t))
    ]

pub formals_are : (f : Facts) (n : NodeId) (m : ℕ) (i : MethodInput) → slice_get f.inputs m ≡ Some (Some i) → i.first.0 ≤ n.0 → n.0 < i.first.0 + length i.nodes
    → formals_at f.inputs n ≡ formal_count i
formals_are f n m i at low high =
    formals_here f.inputs n m i at (low, high) (λ a b x y p q s t. one_place f n.0 a b x y p q s.0 s.1 t.0 t.1)

-- the width of the row of an exit at this node
pub width_at : (f : Facts) (e : ExitId) (n : NodeId) → IsExitAt f e n → width f e ≡ words_for (formals_at f.inputs n)
width_at f e n at =
    index-map (λ x. words_for (formals_at f.inputs x)) n f.exits e.0 (slice_get_within f.exits e.0 n at)
    ∙ ap (λ x. words_for (formals_at f.inputs x)) (get_or_from_slice_get f.exits e.0 n n at)

-- the relation gives the number
pub width_is : (f : Facts) (e : ExitId) (words : ℕ) → IsWidthOf f e words → words ≡ width f e
width_is f e words w =
    w.7 ∙ sym (width_at f e w.2 w.4 ∙ ap words_for (formals_are f w.2 w.0.0 w.1 w.5 w.6.0 (is_within w.1 w.2 w.3 w.6)))

-- a node below the count of the nodes of the first methods is one of those
node_below : (f : Facts) (n k : ℕ) → k ≤ length f.inputs → n < node_count (take k f.inputs) → (m : ℕ) × (i : MethodInput) × (slice_get f.inputs m ≡ Some (Some i)) × IsIn n i
node_below f n zero le lt = absurd (omega (arith, lt))
node_below f n (suc k) le lt =
    elim (slice_get_cases f.inputs k).1 [
      | inl c ↦ elim (cases_lt n (node_count (take k f.inputs))) [
        | inl before ↦ node_below f n k (omega arith) before
        | inr past ↦ here c.0 c.2 past
      ]
      | inr c ↦ absurd (omega (arith, c.0))
    ]
  where
    here : (o : Option MethodInput) → slice_get f.inputs k ≡ Some o → node_count (take k f.inputs) ≤ n → (m : ℕ) × (i : MethodInput) × (slice_get f.inputs m ≡ Some (Some i)) × IsIn n i
    here None at past = let next = ap (λ m. node_count (take m f.inputs)) (sym (add-one k)) ∙ count_next f.inputs k None at in absurd (omega (arith, next, lt))
    here (Some i) at past =
        let next = ap (λ m. node_count (take m f.inputs)) (sym (add-one k)) ∙ count_next f.inputs k (Some i) at in
        let start = (f.follow_on k i at).1 in
        (k, i, at, (omega (arith, start, past), omega (arith, next, lt, start)))

-- the node of an exit is one of the nodes
exit_below : (f : Facts) (e : ExitId) (n : NodeId) → IsExitAt f e n → n.0 < node_count f.inputs
exit_below f e n at = ∥∥₁_elim f.sound (hlevel props) (λ s. below (all_at (λ x. (m : MethodId) × IsExitNode f.inputs x m) f.exits s.all_exits.each e.0 n at))
  where
    below : ((m : MethodId) × IsExitNode f.inputs n m) → n.0 < node_count f.inputs
    below x =
        let i = x.1.1.0 in
        let high = is_within i n x.1.0 x.1.1.2 in
        let start = (f.follow_on x.0.0 i x.1.1.1).1 in
        let next = count_next f.inputs x.0.0 (Some i) x.1.1.1 in
        let up = count_rises f.inputs (x.0.0 + 1) (length f.inputs) (omega (arith, slice_get_within f.inputs x.0.0 (Some i) x.1.1.1)) in
        omega (arith, high, start, next, up, ap node_count (take_all (length f.inputs) f.inputs (omega arith)))

-- the input that has the node of an exit
pub input_of_exit : (f : Facts) (e : ExitId) (n : NodeId) → IsExitAt f e n → (m : ℕ) × (i : MethodInput) × (slice_get f.inputs m ≡ Some (Some i)) × IsIn n.0 i
input_of_exit f e n at =
    node_below f n.0 (length f.inputs) (omega arith) (subst (λ xs. n.0 < node_count xs) (sym (take_all (length f.inputs) f.inputs (omega arith))) (exit_below f e n at))

-- the number meets the relation
pub has_width : (f : Facts) (e : ExitId) → e.0 < length f.exits → IsWidthOf f e (width f e)
has_width f e lt =
    let n : NodeId = get_or f.exits e.0 (record { 0 = 0 }) in
    let at : IsExitAt f e n = slice_get-get_or f.exits e.0 (record { 0 = 0 }) lt in
    let p = input_of_exit f e n at in
    let k : ℕ = n.0 - p.1.first.0 in
    elim (slice_get_cases p.1.nodes k).1 [
      | inl c ↦ (record { 0 = p.0 }, p.1, n, c.0, at, p.2, (p.3.0, c.2), width_at f e n at ∙ ap words_for (formals_are f n p.0 p.1 p.2 p.3.0 p.3.1))
      | inr c ↦ absurd (omega (arith, c.0, p.3.0, p.3.1))
    ]

-- a method has no more formals than there are nodes
formals_few : (inputs : List (Option MethodInput)) (n : NodeId) → formals_at inputs n ≤ node_count inputs
formals_few [] n = omega arith
formals_few (None ∷ inputs) n = omega (arith, formals_few inputs n, sum_by-cons nodes_in None inputs)
formals_few (Some i ∷ inputs) n =
    let more = formals_few inputs n in
    let sum = sum_by-cons nodes_in (Some i) inputs in
    let here = count_by-le-length is_formal i.nodes in
    cond_both (nat_le i.first.0 n.0 && nat_lt n.0 (i.first.0 + length i.nodes)) (formal_count i) (formals_at inputs n) (λ k. k ≤ node_count (Some i ∷ inputs)) (λ _. omega (arith, sum, here)) (λ _. omega (arith, sum, more))

-- no row has more than 2^18 and one data words
pub width_few : (f : Facts) (k : ℕ) → slice_index (widths f) k ≤ 2 ^ 18 + 1
width_few f k =
    elim (cases_lt k (length f.exits)) [
      | inl lt ↦
          let n : NodeId = record { 0 = 0 } in
          omega (arith, index-map (λ x. words_for (formals_at f.inputs x)) n f.exits k lt, formals_few f.inputs (get_or f.exits k n), f.few)
      | inr past ↦ omega (arith, get_or_past (widths f) k 0 (omega (arith, length-map f.exits (λ x. words_for (formals_at f.inputs x)), past)))
    ]

-- the rows of a mode have fewer than 2^52 words
pub words_few : (f : Facts) (k : ℕ) → k ≤ length f.exits → before (widths f) k < 2 ^ 52
words_few f k le = let most = bounded (widths f) (2 ^ 18 + 1) k (width_few f) in let few = f.few_exits in omega (arith, most, few, le)

-- one row more
pub next_start : (f : Facts) (e : ExitId) → e.0 < length f.exits → before (widths f) (e.0 + 1) ≡ before (widths f) e.0 + suc (width f e)
next_start f e lt =
    ap (before (widths f)) (add-one e.0) ∙ next_row (widths f) e.0 (omega (arith, length-map f.exits (λ x. words_for (formals_at f.inputs x)), lt))

-- a method that has a node has an input
pub has_input : (inputs : List (Option MethodInput)) (n : NodeId) (m : MethodId) → IsMethodOfNode inputs n m → HasInput inputs m
has_input inputs n m (None, at, has) = absurd has
has_input inputs n m (Some i, at, has) = (i, at)

-- the width of the row of an exit, from its method's formals
pub width_from : (f : Facts) (e : ExitId) (n : NodeId) (m : MethodId) (k : ℕ) → IsExitAt f e n → IsMethodOfNode f.inputs n m → HasFormals f m k → words_for k ≡ width f e
width_from f e n m k at (None, there, has) formals = absurd has
width_from f e n m k at (Some i, there, has) formals =
    let same : i ≡ formals.0 = same_Some i formals.0 (same_Some (Some i) (Some formals.0) (sym there ∙ formals.1)) in
    ap words_for (formals.2 ∙ ap formal_count (sym same)) ∙ sym (width_at f e n at ∙ ap words_for (formals_are f n m.0 i there has.0 has.1))
