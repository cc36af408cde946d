-- How many nodes rows have, and how many of these are formals and exits.
use Rattle.std.proofs.Common.{◌≡◌, ◌⊎◌, ◌↔◌, ◌<◌, ◌≤◌, ◌+◌, ◌*◌, ◌/◌, ◌++◌, ℕ, suc, Bool, true, false, cond, List, [], ◌∷◌, Contains, length, length-append, get_or, take, Some, inl, inr, refl, sym, ap, subst, ◌∙◌, arith}
use Rattle.std.specs.Prelude.{count_by, nat_lt, slice_get, sum_by}
use Rattle.std.specs.Ordering.{nat_cmp}
use Rattle.std.proofs.lemmas.Bool.{cases_eq, cases_lt}
use Rattle.std.proofs.lemmas.List.{take_all}
use Rattle.std.proofs.lemmas.List.Elements.{All-contains}
use Rattle.std.proofs.lemmas.List.Sums.{sum_by-cons, sum_by-append}
use Rattle.std.proofs.lemmas.Option.{same_Some, slice_get_within}
use Rattle.slicer_ids.specs.Sets.{IsOrderedListOf}
use Rattle.slicer_ids.specs.declared.ids.MethodId.{MethodId}
use Rattle.class_form.specs.declared.body.Body.{Body}
use Rattle.class_form.specs.declared.body.Instr.{Instr}
use Rattle.class_form.proofs.Indices.{later}
use Rattle.dep_form.specs.declared.node.Node.{Node}
use Rattle.dep_form.specs.declared.node.Node.TheVariants.{Formal, HeapIn, Own, Argument, Result, Exception, HeapArg, HeapResult, Return, Thrown, HeapOut}
use Rattle.dep_form.specs.Nodes.{ComesBefore, is_exit, is_formal, rank}
use Rattle.dep_form.specs.Orders.{RiseBy}
use Rattle.dep_form.specs.declared.effects.ModRef.{ModRef}
use Rattle.dep_form.specs.declared.system.System.{System}
use Rattle.dep_form.specs.PointsTo.{Reached}
use Rattle.dep_form.specs.Constraints.{SystemHolds}
use Rattle.fact_form.specs.FactTables.{words_in}
use Rattle.fact_form.proofs.ItemLists.{joined}
use Rattle.worklists.specs.Growth.{FromOne}
use Rattle.worklists.proofs.Growing.{FromBelow}
use Rattle.node_tables.specs.Rows.{AreAllTotals, AreRows, AreTotals, AtBody, AtEntryNumber, AtMethod, AtReached, AtRoot, HasNodes, IsBodyAt, IsCounted}
use Rattle.node_tables.specs.Segments.{AddsNodes}
use Rattle.node_tables.specs.Statements.{AtEntry, AtExit, AtInstr}
use Rattle.node_tables.specs.declared.scene.Scene.{Scene}
use Rattle.node_tables.proofs.Joining.{ordered_none, ordered_same}
use Rattle.node_tables.proofs.InstrLoops.{body_nodes, instrs_more}
use Rattle.node_tables.proofs.MethodRows.{body_group, method_listed, number_place, root_more}

-- ---- lengths of lists of nodes
pub nodes_of : (P : Node → Type 0) (old new : List Node) (n : ℕ) → old ≡ [] → n ≡ length new → AddsNodes old new P → HasNodes P n
nodes_of P old new n none size (more, e, o) =
    let same : new ≡ more = e ∙ ap (λ (xs : List Node). xs ++ more) none in
    (more, o, size ∙ ap (λ (xs : List Node). length xs) same)

pub nodes_none : (P : Node → Type 0) → ((x : Node) → P x → ⊥) → HasNodes P 0
nodes_none P never = ([], ordered_none ComesBefore P never, refl)

pub nodes_then : (P Q R : Node → Type 0) (a b : ℕ) → ((old mid new : List Node) → AddsNodes old mid P → AddsNodes mid new Q → AddsNodes old new R) → HasNodes P a → HasNodes Q b → HasNodes R (a + b)
nodes_then P Q R a b join (ks, o, e) (ls, u, f) =
    let (more, g, w) = join [] ks (ks ++ ls) (ks, refl, o) (ls, refl, u) in
    (more, w, omega (arith, e, f, length-append ks ls, ap (λ (xs : List Node). length xs) g))

-- ---- the instructions of a body
module _ (s : System) (mr : ModRef) (b : Body) (xs : List Instr) where
  pub instrs_none : HasNodes (FromOne (AtInstr s mr b) (take 0 xs)) 0
  instrs_none = nodes_none (FromOne (AtInstr s mr b) (take 0 xs)) (λ x f. omega (arith, f.1.1))

  pub instrs_counted : (i : ℕ) (d : Instr) (a n sum : ℕ) → RiseBy nat_cmp (λ (z : Instr). z.pc) xs → i < length xs → sum ≡ a + n → HasNodes (FromOne (AtInstr s mr b) (take i xs)) a → HasNodes (AtInstr s mr b (get_or xs i d)) n
      → HasNodes (FromOne (AtInstr s mr b) (take (i + 1) xs)) sum
  instrs_counted i d a n sum rise lt is g h =
      subst (λ k. HasNodes (FromOne (AtInstr s mr b) (take (i + 1) xs)) k) (sym is)
      (nodes_then (FromOne (AtInstr s mr b) (take i xs)) (AtInstr s mr b (get_or xs i d)) (FromOne (AtInstr s mr b) (take (i + 1) xs)) a n (λ old mid new p q. instrs_more s mr b xs i d old mid new rise lt p q) g h)

  pub instrs_all : (i n : ℕ) → length xs ≤ i → HasNodes (FromOne (AtInstr s mr b) (take i xs)) n → HasNodes (FromOne (AtInstr s mr b) xs) n
  instrs_all i n le h = subst (λ (ys : List Instr). HasNodes (FromOne (AtInstr s mr b) ys) n) (take_all i xs le) h

pub body_counted : (x : Scene) → RiseBy nat_cmp (λ (b : Body). b.method.0) x.bodies.now → (m : MethodId) (k : ℕ) (b : Body) (n : ℕ) → IsBodyAt x.bodies.now m k b → HasNodes (FromOne (AtInstr x.system.now x.effects.now b) b.instrs) n
    → HasNodes (AtBody x m) n
body_counted x rise m k b n is (ks, o, e) =
    let (more, g, w) = body_nodes x rise m k b [] ks is (ks, refl, o) in
    (more, w, e ∙ ap (λ (xs : List Node). length xs) g)

-- ---- formals and exits
abbrev weight : Bool → ℕ
weight b = cond b 1 0

pub all_counted : (p : Node → Bool) (xs : List Node) → ((x : Node) → Contains xs x → p x ≡ true) → count_by p xs ≡ length xs
all_counted p [] h = refl
all_counted p (x ∷ xs) h =
    let here : weight (p x) ≡ 1 = ap weight (h x (0, omega arith, refl)) in
    omega (arith, sum_by-cons (λ y. weight (p y)) x xs, here, all_counted p xs (λ z c. h z (later x z xs c)))

pub none_counted : (p : Node → Bool) (xs : List Node) → ((x : Node) → Contains xs x → p x ≡ false) → count_by p xs ≡ 0
none_counted p [] h = refl
none_counted p (x ∷ xs) h =
    let here : weight (p x) ≡ 0 = ap weight (h x (0, omega arith, refl)) in
    omega (arith, sum_by-cons (λ y. weight (p y)) x xs, here, none_counted p xs (λ z c. h z (later x z xs c)))

-- a node of a statement is neither
statement_kind : (n : Node) → (rank n).group ≡ 2 → (is_formal n ≡ false) × (is_exit n ≡ false)
statement_kind (Formal i) e = absurd (omega (arith, e))
statement_kind (HeapIn l) e = absurd (omega (arith, e))
statement_kind (Own pc) e = (refl, refl)
statement_kind (Argument pc i) e = (refl, refl)
statement_kind (Result pc) e = (refl, refl)
statement_kind (Exception pc) e = (refl, refl)
statement_kind (HeapArg pc l) e = (refl, refl)
statement_kind (HeapResult pc l) e = (refl, refl)
statement_kind Return e = absurd (omega (arith, e))
statement_kind Thrown e = absurd (omega (arith, e))
statement_kind (HeapOut l) e = absurd (omega (arith, e))

entry_kind : (s : System) (mr : ModRef) (m : MethodId) (n : Node) → AtEntry s mr m n → (is_formal n ≡ true) × (is_exit n ≡ false)
entry_kind s mr m n (inl (v, i, vars, lt, e)) = subst (λ z. (is_formal z ≡ true) × (is_exit z ≡ false)) (sym e) (refl, refl)
entry_kind s mr m n (inr (l, used, e)) = subst (λ z. (is_formal z ≡ true) × (is_exit z ≡ false)) (sym e) (refl, refl)

exit_kind : (s : System) (mr : ModRef) (m : MethodId) (answers : Bool) (n : Node) → AtExit s mr m answers n → (is_formal n ≡ false) × (is_exit n ≡ true)
exit_kind s mr m answers n (inl (a, e)) = subst (λ z. (is_formal z ≡ false) × (is_exit z ≡ true)) (sym e) (refl, refl)
exit_kind s mr m answers n (inr (inl (v, h, vars, has_it, e))) = subst (λ z. (is_formal z ≡ false) × (is_exit z ≡ true)) (sym e) (refl, refl)
exit_kind s mr m answers n (inr (inr (l, changed, e))) = subst (λ z. (is_formal z ≡ false) × (is_exit z ≡ true)) (sym e) (refl, refl)

module _ (x : Scene) (m : MethodId) (answers : Bool) (f i e before nodes : ℕ) (entry : HasNodes (AtEntry x.system.now x.effects.now m) f) (body : HasNodes (AtBody x m) i)
    (exit : HasNodes (AtExit x.system.now x.effects.now m answers) e) (first : before ≡ f + i) (sum : nodes ≡ before + e) where
  pub method_counted : IsCounted (AtMethod x m answers) nodes f e
  method_counted =
      let ks = entry.0 in
      let ls = body.0 in
      let ms = exit.0 in
      let kf = all_counted is_formal ks (λ n c. (entry_kind x.system.now x.effects.now m n (All-contains (AtEntry x.system.now x.effects.now m) ks n entry.1.each c)).0) in
      let ke = none_counted is_exit ks (λ n c. (entry_kind x.system.now x.effects.now m n (All-contains (AtEntry x.system.now x.effects.now m) ks n entry.1.each c)).1) in
      let lf = none_counted is_formal ls (λ n c. (statement_kind n (body_group x m n (All-contains (AtBody x m) ls n body.1.each c))).0) in
      let le = none_counted is_exit ls (λ n c. (statement_kind n (body_group x m n (All-contains (AtBody x m) ls n body.1.each c))).1) in
      let mf = none_counted is_formal ms (λ n c. (exit_kind x.system.now x.effects.now m answers n (All-contains (AtExit x.system.now x.effects.now m answers) ms n exit.1.each c)).0) in
      let me = all_counted is_exit ms (λ n c. (exit_kind x.system.now x.effects.now m answers n (All-contains (AtExit x.system.now x.effects.now m answers) ms n exit.1.each c)).1) in
      record {
        row = ks ++ ls ++ ms;
        listed = method_listed x m answers [] ks (ks ++ ls) (ks ++ ls ++ ms) (ks, refl, entry.1) (ls, refl, body.1) (ms, refl, exit.1) refl;
        size = omega (arith, first, sum, entry.2, body.2, exit.2, length-append (ks ++ ls) ms, length-append ks ls);
        formals_are = omega (arith, entry.2, kf, lf, mf, sum_by-append (λ n. weight (is_formal n)) (ks ++ ls) ms, sum_by-append (λ n. weight (is_formal n)) ks ls);
        exits_are = omega (arith, exit.2, ke, le, me, sum_by-append (λ n. weight (is_exit n)) (ks ++ ls) ms, sum_by-append (λ n. weight (is_exit n)) ks ls);
      }

pub counted_same : (P Q : Node → Type 0) (nodes formals exits : ℕ) → ((x : Node) → P x → Q x) → ((x : Node) → Q x → P x) → IsCounted P nodes formals exits → IsCounted Q nodes formals exits
counted_same P Q nodes formals exits to from c =
    record { row = c.row; listed = ordered_same ComesBefore c.row P Q to from c.listed; size = c.size; formals_are = c.formals_are; exits_are = c.exits_are }

pub counted_none : (P : Node → Type 0) → ((x : Node) → P x → ⊥) → IsCounted P 0 0 0
counted_none P never = record { row = []; listed = ordered_none ComesBefore P never; size = refl; formals_are = refl; exits_are = refl }

-- ---- sums over methods
pub no_totals : (x : Scene) → AreTotals x 0 0 0
no_totals x = ([], refl, λ m ks e. absurd (omega (arith, slice_get_within [] m.0 ks e)), refl, refl)

module _ (x : Scene) (m : MethodId) (nodes words n f e w more_nodes more_words : ℕ) (c : IsCounted (AtReached x m) n f e) (is : w ≡ e * (2 * suc ((f + 63) / 64)))
    (sum : more_nodes ≡ nodes + n) (sums : more_words ≡ words + w) where
  words_are : w ≡ words_in c.row
  words_are = is ∙ ap (λ z. z * (2 * suc ((f + 63) / 64))) c.exits_are ∙ ap (λ z. count_by is_exit c.row * (2 * suc ((z + 63) / 64))) c.formals_are

  pub totals_more : AreTotals x m.0 nodes words → AreTotals x (m.0 + 1) more_nodes more_words
  totals_more (rows, size, each, a, b) = (
    rows ++ c.row ∷ [],
    omega (arith, size, length-append rows (c.row ∷ [])),
    λ k ks at. elim (joined rows (c.row ∷ []) k.0 ks at) [
      | inl here ↦ each k ks here
      | inr there ↦
          let first : there.0 ≡ 0 = omega (arith, slice_get_within (c.row ∷ []) there.0 ks there.2) in
          let row : c.row ≡ ks = same_Some c.row ks (subst (λ i. slice_get (c.row ∷ []) i ≡ Some ks) first there.2) in
          let same : m ≡ k = ap (λ (i : ℕ). record { 0 = i }) (omega (arith, there.1, first, size)) in
          subst (λ (z : MethodId). IsOrderedListOf ComesBefore ks (AtReached x z)) same (subst (λ (zs : List Node). IsOrderedListOf ComesBefore zs (AtReached x m)) row c.listed)
    ],
    omega (arith, sum, a, c.size, sum_by-append (λ (zs : List Node). length zs) rows (c.row ∷ []), sum_by-cons (λ (zs : List Node). length zs) c.row []),
    omega (arith, sums, b, words_are, sum_by-append words_in rows (c.row ∷ []), sum_by-cons words_in c.row []),
  )

-- ---- .. and the root
root_words : (x : Scene) (ks : List Node) → IsOrderedListOf ComesBefore ks (AtRoot x) → words_in ks ≡ 0
root_words x ks o =
    let none : count_by is_exit ks ≡ 0 = none_counted is_exit ks (λ n c. let h = All-contains (AtRoot x) ks n o.each c in (statement_kind n (number_place x h.0 n (h.1, h.2, h.3)).0).1) in
    ap (λ z. z * (2 * suc ((count_by is_formal ks + 63) / 64))) none ∙ zero_times (2 * suc ((count_by is_formal ks + 63) / 64))
  where
    zero_times : (k : ℕ) → 0 * k ≡ 0
    zero_times k = omega arith

pub all_totals : (x : Scene) (nodes words root sum : ℕ) → sum ≡ nodes + root → AreTotals x (length x.system.now.methods) nodes words → HasNodes (AtRoot x) root → AreAllTotals x sum words
all_totals x nodes words root sum is (rows, size, each, a, b) (ks, o, e) = (
  rows ++ ks ∷ [],
  record {
    count = omega (arith, size, length-append rows (ks ∷ []));
    methods = λ m ls lt at. elim (joined rows (ks ∷ []) m.0 ls at) [ inl here ↦ each m ls here | inr there ↦ absurd (omega (arith, lt, size, there.1)) ];
    root = λ ls at. elim (joined rows (ks ∷ []) (length x.system.now.methods) ls at) [
      | inl here ↦ absurd (omega (arith, size, slice_get_within rows (length x.system.now.methods) ls here))
      | inr there ↦
          let first : there.0 ≡ 0 = omega (arith, slice_get_within (ks ∷ []) there.0 ls there.2) in
          let row : ks ≡ ls = same_Some ks ls (subst (λ i. slice_get (ks ∷ []) i ≡ Some ls) first there.2) in
          subst (λ (zs : List Node). IsOrderedListOf ComesBefore zs (AtRoot x)) row o
    ];
  },
  omega (arith, is, a, e, sum_by-append (λ (zs : List Node). length zs) rows (ks ∷ []), sum_by-cons (λ (zs : List Node). length zs) ks []),
  omega (arith, b, root_words x ks o, sum_by-append words_in rows (ks ∷ []), sum_by-cons words_in ks []),
)

pub root_none : (x : Scene) → HasNodes (FromBelow (AtEntryNumber x) 0) 0
root_none x = nodes_none (FromBelow (AtEntryNumber x) 0) (λ n h. omega (arith, h.1))

pub root_counted : (x : Scene) (k a n sum : ℕ) → sum ≡ a + n → HasNodes (FromBelow (AtEntryNumber x) k) a → HasNodes (AtEntryNumber x k) n → HasNodes (FromBelow (AtEntryNumber x) (k + 1)) sum
root_counted x k a n sum is g h =
    subst (λ i. HasNodes (FromBelow (AtEntryNumber x) (k + 1)) i) (sym is)
    (nodes_then (FromBelow (AtEntryNumber x) k) (AtEntryNumber x k) (FromBelow (AtEntryNumber x) (k + 1)) a n (λ old mid new p q. root_more x k old mid new p q) g h)

pub root_all : (x : Scene) (k n : ℕ) → length x.entries.now ≡ k → HasNodes (FromBelow (AtEntryNumber x) k) n → HasNodes (AtRoot x) n
root_all x k n len (ks, o, e) =
    (ks, ordered_same ComesBefore ks (FromBelow (AtEntryNumber x) k) (AtRoot x) (λ n h. (h.0, h.2.0, h.2.1, h.2.2)) (λ n h. (h.0, omega (arith, len, slice_get_within x.entries.now h.0 h.1 h.2), (h.1, h.2, h.3))) o, e)
