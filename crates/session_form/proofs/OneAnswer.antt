-- In a state a command gets one answer.
use Rattle.std.proofs.Common.{◌≡◌, ◌≢◌, ◌⊎◌, ◌<◌, ℕ, List, [], Contains, Option, Some, None, inl, inr, refl, sym, ap, subst, ◌∙◌, arith}
use Rattle.std.specs.Prelude.{slice_get, get_or}
use Rattle.std.proofs.lemmas.Bool.{cases_lt}
use Rattle.std.proofs.lemmas.Option.{get_or_from_slice_get, slice_get_within}
use Rattle.std.specs.declared.cmp.Ordering.{Ordering}
use Rattle.std.specs.declared.cmp.Ordering.TheVariants.{Less, Equal, Greater}
use Rattle.std.specs.Ordering.{ordering_reverse}
use Rattle.std.specs.Cmp.{IsTotalOrder}
use Rattle.std.proofs.lemmas.Cmp.{nat_list_cmp_total, tied_itself}
use Rattle.slicer_ids.specs.Order.{StatementBefore, SiteBefore}
use Rattle.slicer_ids.specs.Sets.{IsOrderedListOf}
use Rattle.slicer_ids.specs.declared.ids.ClassId.{ClassId}
use Rattle.slicer_ids.specs.declared.ids.MethodId.{MethodId}
use Rattle.slicer_ids.specs.declared.ids.SiteId.{SiteId}
use Rattle.slicer_ids.specs.declared.ids.Statement.{Statement}
use Rattle.slicer_ids.proofs.Ordered.{one_ordered}
use Rattle.dep_form.specs.declared.access.Access.{Access}
use Rattle.dep_form.specs.declared.access.Explanation.{Explanation}
use Rattle.dep_form.specs.declared.facts.Facts.{Facts}
use Rattle.dep_form.specs.Orders.{RiseBy}
use Rattle.dep_form.specs.Keys.{key_of_text, key_of_line, key_of_access}
use Rattle.dep_form.specs.LookUps.{IsClassNamed, IsMethodNamed, IsStatement, IsAccessAt, AreAtLine}
use Rattle.dep_form.specs.Explaining.{IsExplanation, Brings}
use Rattle.dep_form.proofs.Searching.{statement_total, line_total, method_total, same_line, same_method}
use Rattle.script.specs.declared.command.Command.{Command}
use Rattle.script.specs.declared.command.Place.{Place}
use Rattle.report.specs.declared.reply.CommandError.{CommandError}
use Rattle.report.specs.declared.reply.LinePlace.{LinePlace}
use Rattle.report.specs.Replies.{Answer, Statements, Lines, Explained, Error}
use Rattle.session_form.specs.Places.{NamesMethod, NamesStatement, NamesNone, no_class, no_method, no_statement, IsAccess, NamesAccess, NamesNoAccess, no_place, no_access, NamesNoLine, no_such_class, no_such_line}
use Rattle.session_form.specs.States.{State, Gains, IsLesserLine, LineBefore, InSlice, InFullSlice, IsLineOfSlice}
use Rattle.session_form.specs.Answers.{Answers, seeds, seeds_line, resets, expands, expands_all, slices, slices_full, lists_lines, explains, refuses_seed, refuses_line, refuses_expansion, refuses_first, refuses_second, refuses_slice, refuses_full, refuses_lines}

-- ---- lists whose keys rise have a key at one place
module _ {X Y : Type 0} {R : Y → Y → Ordering} (o : IsTotalOrder R) (key : X → Y) (xs : List X) (rise : RiseBy R key xs) where
  less_there : (i j : ℕ) (x y : X) → slice_get xs i ≡ Some x → slice_get xs j ≡ Some y → i < j → R (key x) (key y) ≡ Less
  less_there i j x y at there lt =
      ap (λ z. R (key z) (key y)) (sym (get_or_from_slice_get xs i x x at))
      ∙ ap (λ z. R (key (get_or xs i x)) (key z)) (sym (get_or_from_slice_get xs j y x there))
      ∙ rise i j x lt (slice_get_within xs j y there)

  pub one_index : (i j : ℕ) (x y : X) → slice_get xs i ≡ Some x → slice_get xs j ≡ Some y → R (key x) (key y) ≡ Equal → i ≡ j
  one_index i j x y at there equal = elim (cases_lt i j) [
    | inl lt ↦ let less = less_there i j x y at there lt in absurd (cc (less, equal))
    | inr le ↦ elim (cases_lt j i) [
      | inl gt ↦
          let less = less_there j i y x there at gt in
          let more : R (key x) (key y) ≡ Greater = o.antisymm (key x) (key y) ∙ ap ordering_reverse less in
          absurd (cc (more, equal))
      | inr ge ↦ omega (arith, le, ge)
    ]
  ]

  pub one_item : (i j : ℕ) (x y : X) → slice_get xs i ≡ Some x → slice_get xs j ≡ Some y → R (key x) (key y) ≡ Equal → x ≡ y
  one_item i j x y at there equal =
      let same = one_index i j x y at there equal in
      some_is x y (sym at ∙ ap (λ k. slice_get xs k) same ∙ there)
    where
      some_is : (a b : X) → Some a ≡ Some b → a ≡ b
      some_is a b e = cc e

-- ---- what is named is one
module _ (f : Facts) where
  pub one_class : (name : List ℕ) (c d : ClassId) → IsClassNamed f name c → IsClassNamed f name d → c ≡ d
  one_class name c d p q =
      ap (λ n. record { 0 = n }) (one_index nat_list_cmp_total (λ (x : List ℕ). x) f.classes f.classes_rise c.0 d.0 name name p q (tied_itself nat_list_cmp_total name))

  pub one_method_there : (c : ClassId) (name descriptor : List ℕ) (m n : MethodId) → IsMethodNamed f c name descriptor m → IsMethodNamed f c name descriptor n → m ≡ n
  one_method_there c name descriptor m n p q =
      ap (λ k. record { 0 = k }) (one_index method_total key_of_text f.methods f.methods_rise m.0 n.0 p.0 q.0 p.1 q.1
      (same_method (key_of_text p.0) (key_of_text q.0) (p.2 ∙ sym q.2) (p.3 ∙ sym q.3) (p.4 ∙ sym q.4)))

  pub one_named_method : (p : Place) (m n : MethodId) → NamesMethod f p m → NamesMethod f p n → m ≡ n
  one_named_method p m n a b =
      one_method_there a.0 p.name p.descriptor m n a.2 (subst (λ c. IsMethodNamed f c p.name p.descriptor n) (one_class p.class b.0 a.0 b.1 a.1) b.2)

  pub one_named : (p : Place) (s t : Statement) → NamesStatement f p s → NamesStatement f p t → s ≡ t
  one_named p s t a b =
      ap (λ (m : MethodId). record { method = m; pc = s.pc }) (one_named_method p s.method t.method a.0 b.0)
      ∙ ap (λ (n : ℕ). record { method = t.method; pc = n }) (a.1 ∙ sym b.1)

  pub one_access : (s : Statement) (a b : Access) → IsAccessAt f s a → IsAccessAt f s b → a ≡ b
  one_access s a b p q =
      let pairs : (s, a) ≡ (s, b) = one_item statement_total key_of_access f.accesses f.accesses_rise p.0 q.0 (s, a) (s, b) p.1 q.1 (tied_itself statement_total s) in
      ap (λ x. x.1) pairs

  pub one_at_line : (c : ClassId) (line : ℕ) (ss ts : List Statement) → AreAtLine f c line ss → AreAtLine f c line ts → ss ≡ ts
  one_at_line c line ss ts (inl a) (inl b) =
      let items : a.1 ≡ b.1 = one_item line_total key_of_line f.lines f.lines_rise a.0 b.0 a.1 b.1 a.2 b.2
      (same_line (key_of_line a.1) (key_of_line b.1) (a.3 ∙ sym b.3) (a.4 ∙ sym b.4)) in
      sym a.5 ∙ ap (λ x. x.2) items ∙ b.5
  one_at_line c line ss ts (inl a) (inr b) = absurd (b.1 a.0 a.1 a.2 a.3 a.4)
  one_at_line c line ss ts (inr a) (inl b) = absurd (a.1 b.0 b.1 b.2 b.3 b.4)
  one_at_line c line ss ts (inr a) (inr b) = a.0 ∙ sym b.0

  -- ---- why there is none is one
  one_refused : (p : Place) (d e : CommandError) → NamesNone f p d → NamesNone f p e → d ≡ e
  one_refused p _ _ (no_class h) (no_class g) = refl
  one_refused p _ _ (no_class h) (no_method c q n) = absurd (h c q)
  one_refused p _ _ (no_class h) (no_statement m q n) = absurd (h q.0 q.1)
  one_refused p _ _ (no_method c q n) (no_class h) = absurd (h c q)
  one_refused p _ _ (no_method c q n) (no_method d r k) = refl
  one_refused p _ _ (no_method c q n) (no_statement m r k) =
      absurd (n m (subst (λ x. IsMethodNamed f x p.name p.descriptor m) (one_class p.class r.0 c r.1 q) r.2))
  one_refused p _ _ (no_statement m q n) (no_class h) = absurd (h q.0 q.1)
  one_refused p _ _ (no_statement m r k) (no_method c q n) =
      absurd (n m (subst (λ x. IsMethodNamed f x p.name p.descriptor m) (one_class p.class r.0 c r.1 q) r.2))
  one_refused p _ _ (no_statement m q n) (no_statement o r k) = refl

  -- a place names a statement or none
  not_both : (p : Place) (s : Statement) (e : CommandError) → NamesStatement f p s → NamesNone f p e → ⊥
  not_both p s _ a (no_class h) = h a.0.0 a.0.1
  not_both p s _ a (no_method c q n) = n s.method (subst (λ x. IsMethodNamed f x p.name p.descriptor s.method) (one_class p.class a.0.0 c a.0.1 q) a.0.2)
  not_both p s _ a (no_statement m q n) =
      n (subst (IsStatement f) (ap (λ (x : MethodId). record { method = x; pc = s.pc }) (one_named_method p s.method m a.0 q)
      ∙ ap (λ (k : ℕ). record { method = m; pc = k }) a.1) a.2)

  one_no_access : (p : Place) (d e : CommandError) → NamesNoAccess f p d → NamesNoAccess f p e → d ≡ e
  one_no_access p _ _ (no_place {e = d} h) (no_place {e} g) = one_refused p d e h g
  one_no_access p _ _ (no_place {e = d} h) (no_access s a n) = absurd (not_both p s d a h)
  one_no_access p _ _ (no_access s a n) (no_place {e} h) = absurd (not_both p s e a h)
  one_no_access p _ _ (no_access s a n) (no_access t b k) = refl

  not_both_accesses : (p : Place) (s : Statement) (a : Access) (e : CommandError) → NamesAccess f p s a → NamesNoAccess f p e → ⊥
  not_both_accesses p s a _ h (no_place {e} g) = not_both p s e h.0 g
  not_both_accesses p s a _ h (no_access t b n) = n (subst (IsAccess f) (one_named p s t h.0 b) (a, h.1))

  one_named_access : (p : Place) (s t : Statement) (a b : Access) → NamesAccess f p s a → NamesAccess f p t b → (s ≡ t) × (a ≡ b)
  one_named_access p s t a b h g =
      let same = one_named p s t h.0 g.0 in
      (same, one_access s a b h.1 (subst (λ x. IsAccessAt f x b) (sym same) g.1))

  one_no_line : (name : List ℕ) (line : ℕ) (d e : CommandError) → NamesNoLine f name line d → NamesNoLine f name line e → d ≡ e
  one_no_line name line _ _ (no_such_class h) (no_such_class g) = refl
  one_no_line name line _ _ (no_such_class h) (no_such_line c q n) = absurd (h c q)
  one_no_line name line _ _ (no_such_line c q n) (no_such_class h) = absurd (h c q)
  one_no_line name line _ _ (no_such_line c q n) (no_such_line d r k) = refl

  not_both_lines : (name : List ℕ) (line : ℕ) (c : ClassId) (ss : List Statement) (e : CommandError) → IsClassNamed f name c → AreAtLine f c line ss →
      ss ≢ [] → NamesNoLine f name line e → ⊥
  not_both_lines name line c ss _ h at some (no_such_class g) = g c h
  not_both_lines name line c ss _ h at some (no_such_line d q n) =
      some (one_at_line c line ss [] at (subst (λ x. AreAtLine f x line []) (one_class name d c q h) n))

-- ---- the orders tell which of two comes first
pub statements_asym : (a b : Statement) → StatementBefore a b → StatementBefore b a → ⊥
statements_asym a b (inl h) (inl g) = omega (arith, h, g)
statements_asym a b (inl h) (inr g) = omega (arith, h, ap (λ (m : MethodId). m.0) g.0)
statements_asym a b (inr h) (inl g) = omega (arith, g, ap (λ (m : MethodId). m.0) h.0)
statements_asym a b (inr h) (inr g) = omega (arith, h.1, g.1)

lesser_asym : (l m : Option ℕ) → IsLesserLine l m → IsLesserLine m l → ⊥
lesser_asym None None h g = h
lesser_asym None (Some m) h g = g
lesser_asym (Some l) None h g = h
lesser_asym (Some l) (Some m) h g = omega (arith, h, g)

lines_asym : (a b : LinePlace) → LineBefore a b → LineBefore b a → ⊥
lines_asym a b (inl h) (inl g) = omega (arith, h, g)
lines_asym a b (inl h) (inr g) = omega (arith, h, ap (λ (m : MethodId). m.0) g.0)
lines_asym a b (inr h) (inl g) = omega (arith, g, ap (λ (m : MethodId). m.0) h.0)
lines_asym a b (inr h) (inr g) = lesser_asym a.line b.line h.1 g.1

one_list : (P : Statement → Type 0) (ss ts : List Statement) → IsOrderedListOf StatementBefore ss P → IsOrderedListOf StatementBefore ts P → ss ≡ ts
one_list P ss ts = one_ordered StatementBefore P ss ts (λ a b p q. statements_asym a b)

same_parts : (x y : Explanation) → x.objects ≡ y.objects → x.left ≡ y.left → x.right ≡ y.right → x ≡ y
same_parts x y a b c = rw (← a, ← b, ← c) refl

one_explanation : (f : Facts) (a b : Access) (x y : Explanation) → IsExplanation f a b x → IsExplanation f a b y → x ≡ y
one_explanation f a b x y h g =
    let objects : x.objects ≡ y.objects = one_ordered SiteBefore (λ (s : SiteId). Contains a.sites s × Contains b.sites s) x.objects y.objects (λ s t p q before after. omega (arith, before, after)) h.objects g.objects in
    let left : x.left ≡ y.left = one_list (Brings f a x.objects) x.left y.left h.left (subst (λ os. IsOrderedListOf StatementBefore y.left (Brings f a os)) (sym objects) g.left) in
    let right : x.right ≡ y.right = one_list (Brings f b x.objects) x.right y.right h.right (subst (λ os. IsOrderedListOf StatementBefore y.right (Brings f b os)) (sym objects) g.right) in
    same_parts x y objects left right

abbrev Same : Answer → Answer → State → State → Type 0
Same a b s t = (a ≡ b) × (s ≡ t)

module _ (f : Facts) where
  pub one_answer : (c : Command) (before : State) (a b : Answer) (s t : State) → Answers f before c a s → Answers f before c b t → Same a b s t
  one_answer _ st _ _ _ _ (seeds {p} {s} {after = xs} n g) (seeds {s = t} {after = ys} m h) =
      (refl, ap (λ zs. record st { seeds = zs }) (one_list (λ x. Contains st.seeds x ⊎ (x ≡ s)) xs ys g (subst (λ y. Gains st.seeds (λ x. x ≡ y) ys) (sym (one_named f p s t n m)) h)))
  one_answer _ st _ _ _ _ (seeds {p} {s} n g) (refuses_seed {e} h) = absurd (not_both f p s e n h)
  one_answer _ st _ _ _ _ (refuses_seed {p} {e} h) (seeds {s} n g) = absurd (not_both f p s e n h)
  one_answer _ st _ _ _ _ (refuses_seed {p} {e = d} h) (refuses_seed {e} g) = (ap Error (one_refused f p d e h g), refl)
  one_answer _ st _ _ _ _ (seeds_line {name} {line} {c} {ss} {after = xs} n at some g) (seeds_line {c = d} {ss = ts} {after = ys} m there more h) =
      let same : ss ≡ ts = one_at_line f c line ss ts at (subst (λ x. AreAtLine f x line ts) (one_class f name d c m n) there) in
      (refl, ap (λ zs. record st { seeds = zs }) (one_list (λ x. Contains st.seeds x ⊎ Contains ss x) xs ys g (subst (λ zs. Gains st.seeds (Contains zs) ys) (sym same) h)))
  one_answer _ st _ _ _ _ (seeds_line {name} {line} {c} {ss} n at some g) (refuses_line {e} h) = absurd (not_both_lines f name line c ss e n at some h)
  one_answer _ st _ _ _ _ (refuses_line {name} {line} {e} h) (seeds_line {c} {ss} n at some g) = absurd (not_both_lines f name line c ss e n at some h)
  one_answer _ st _ _ _ _ (refuses_line {name} {line} {e = d} h) (refuses_line {e} g) = (ap Error (one_no_line f name line d e h g), refl)
  one_answer _ st _ _ _ _ resets resets = (refl, refl)
  one_answer _ st _ _ _ _ (expands {p} {s} {a} {after = xs} n g) (expands {s = t} {a = b} {after = ys} m h) =
      let same = one_named_access f p s t a b n m in
      (refl, ap (λ zs. record st { expanded = zs }) (one_list (λ x. Contains st.expanded x ⊎ (x ≡ s)) xs ys g (subst (λ y. Gains st.expanded (λ x. x ≡ y) ys) (sym same.0) h)))
  one_answer _ st _ _ _ _ (expands {p} {s} {a} n g) (refuses_expansion {e} h) = absurd (not_both_accesses f p s a e n h)
  one_answer _ st _ _ _ _ (refuses_expansion {p} {e} h) (expands {s} {a} n g) = absurd (not_both_accesses f p s a e n h)
  one_answer _ st _ _ _ _ (refuses_expansion {p} {e = d} h) (refuses_expansion {e} g) = (ap Error (one_no_access f p d e h g), refl)
  one_answer _ st _ _ _ _ (expands_all {after = xs} g) (expands_all {after = ys} h) = (refl, ap (λ zs. record st { expanded = zs }) (one_list (IsAccess f) xs ys g h))
  one_answer _ st _ _ _ _ (slices {ss} some g) (slices {ss = ts} more h) = (ap Statements (one_list (InSlice f st) ss ts g h), refl)
  one_answer _ st _ _ _ _ (slices some g) (refuses_slice none) = absurd (some none)
  one_answer _ st _ _ _ _ (refuses_slice none) (slices some g) = absurd (some none)
  one_answer _ st _ _ _ _ (refuses_slice none) (refuses_slice empty) = (refl, refl)
  one_answer _ st _ _ _ _ (slices_full {ss} some g) (slices_full {ss = ts} more h) = (ap Statements (one_list (InFullSlice f st) ss ts g h), refl)
  one_answer _ st _ _ _ _ (slices_full some g) (refuses_full none) = absurd (some none)
  one_answer _ st _ _ _ _ (refuses_full none) (slices_full some g) = absurd (some none)
  one_answer _ st _ _ _ _ (refuses_full none) (refuses_full empty) = (refl, refl)
  one_answer _ st _ _ _ _ (lists_lines {ls} some g) (lists_lines {ls = ks} more h) = (ap Lines (one_ordered LineBefore (IsLineOfSlice f st) ls ks (λ a b p q. lines_asym a b) g h), refl)
  one_answer _ st _ _ _ _ (lists_lines some g) (refuses_lines none) = absurd (some none)
  one_answer _ st _ _ _ _ (refuses_lines none) (lists_lines some g) = absurd (some none)
  one_answer _ st _ _ _ _ (refuses_lines none) (refuses_lines empty) = (refl, refl)
  one_answer _ st _ _ _ _ (explains {p} {q} {s} {t} {a} {b} {x} n m g) (explains {s = s2} {t = t2} {a = a2} {b = b2} {x = y} k l h) =
      let first = one_named_access f p s s2 a a2 n k in
      let second = one_named_access f q t t2 b b2 m l in
      let moved : IsExplanation f a b y = subst (λ z. IsExplanation f z b y) (sym first.1) (subst (λ z. IsExplanation f a2 z y) (sym second.1) h) in
      (ap Explained (one_explanation f a b x y g moved), refl)
  one_answer _ st _ _ _ _ (explains {p} {s} {a} n m g) (refuses_first {e} h) = absurd (not_both_accesses f p s a e n h)
  one_answer _ st _ _ _ _ (explains {q} {t} {b} n m g) (refuses_second {e} k h) = absurd (not_both_accesses f q t b e m h)
  one_answer _ st _ _ _ _ (refuses_first {p} {e} h) (explains {s} {a} n m g) = absurd (not_both_accesses f p s a e n h)
  one_answer _ st _ _ _ _ (refuses_first {p} {e = d} h) (refuses_first {e} g) = (ap Error (one_no_access f p d e h g), refl)
  one_answer _ st _ _ _ _ (refuses_first {p} {e = d} h) (refuses_second {s} {a} n g) = absurd (not_both_accesses f p s a d n h)
  one_answer _ st _ _ _ _ (refuses_second {q} {e} n h) (explains {t} {b} k m g) = absurd (not_both_accesses f q t b e m h)
  one_answer _ st _ _ _ _ (refuses_second {p} {s} {a} n h) (refuses_first {e} g) = absurd (not_both_accesses f p s a e n g)
  one_answer _ st _ _ _ _ (refuses_second {q} {e = d} n h) (refuses_second {e} m g) = (ap Error (one_no_access f q d e h g), refl)
