-- What follows from facts that hold follows from finitely many of them, so the facts that hold are closed under the rules.
use Rattle.std.proofs.Common.{ℕ, Bool, List, [], ◌∷◌, ◌++◌, Some, inl, inr}
use Rattle.std.specs.Prelude.{Contains}
use Rattle.std.proofs.lemmas.List.Elements.{Contains-append_left, Contains-append_right}
use Rattle.slicer_ids.specs.declared.ids.Statement.{Statement}
use Rattle.dep_form.specs.declared.rules.OutsideRule.{OutsideRule}
use Rattle.dep_form.specs.PointsTo.{Reached, Has, Cell, Calls, OutsideAt, OutsideArgument, OneMayBe, Gives, Writes}
use Rattle.dep_form.proofs.Derived.{FromSome, both_hold, first, second, in_rest, derived}
use Rattle.program_form.specs.Programs.{Program}
use Rattle.program_form.specs.Sites.{Site}
use Rattle.program_form.specs.Facts.{ProgramFact, ResultOf, ThrownBy, ExceptionOf, FieldName, Elements, variable_of, field_name, Follows, Holds, OperandHas, IsRaised, IsState, IsElements, enters, given, given_elements, entry_initializes, initializes, allocates, nests, reads_fresh, copies, casts, answers, reads_field, reads_element, reads_static, writes_field, writes_element, writes_static, calls, calls_enter, calls_receive, goes_outside, goes_outside_at, selects, selects_enter, selects_receive, selects_outside, passes, receives, throws, catches, leaves, answers_fresh, outside_gives, outside_writes}
use Rattle.program_form.proofs.Closed.{one_may_be, gives_wider, writes_wider, wider}

module _ (p : Program) (K : ProgramFact → Type 0) where
  some_raised : (s : Statement) (h : Site) → IsRaised p K s h → FromSome K (λ L. IsRaised p L s h)
  some_raised s h (inl x) = (Reached s.method ∷ Has (variable_of s.method x.1.0) h ∷ [], (x.0.0, (x.1.2, tt)), inl (((first (Reached s.method) (Has (variable_of s.method x.1.0) h ∷ [])), x.0.1), (x.1.0, x.1.1, (second (Reached s.method) (Has (variable_of s.method x.1.0) h) []))))
  some_raised s h (inr x) = (Reached s.method ∷ Has (ExceptionOf s) h ∷ [], (x.0.0, (x.1, tt)), inr (((first (Reached s.method) (Has (ExceptionOf s) h ∷ [])), x.0.1), (second (Reached s.method) (Has (ExceptionOf s) h) [])))

  some_outside : (s : Statement) (b : Bool) (r : OutsideRule) (i : ℕ) (h : Site) →
      OutsideArgument K s b r (OperandHas p K s) (IsState p) i h → FromSome K (λ L. OutsideArgument L s b r (OperandHas p L s) (IsState p) i h)
  some_outside s b r i h (inl x) = (OutsideAt s (Some h) ∷ [], (x.1, tt), inl (x.0, first (OutsideAt s (Some h)) []))
  some_outside s b r i h (inr x) = (OutsideAt s x.1.0 ∷ Has (variable_of s.method x.2.0) h ∷ [], (x.1.1, (x.2.2, tt)), inr (x.0, (x.1.0, (first (OutsideAt s x.1.0) (Has (variable_of s.method x.2.0) h ∷ []))), (x.2.0, x.2.1, (second (OutsideAt s x.1.0) (Has (variable_of s.method x.2.0) h) []))))

  some_one : (s : Statement) (b : Bool) (r : OutsideRule) (is : List ℕ) (h : Site) →
      OneMayBe K s b r (OperandHas p K s) (IsState p) is h → FromSome K (λ L. OneMayBe L s b r (OperandHas p L s) (IsState p) is h)
  some_one s b r is h x = let a = some_outside s b r x.0 h x.2 in (a.0, a.1, (x.0, x.1, a.2))

  some_gives : (s : Statement) (b : Bool) (r : OutsideRule) (is : List ℕ) (h : Site) →
      Gives K s b r (OperandHas p K s) (IsState p) is h → FromSome K (λ L. Gives L s b r (OperandHas p L s) (IsState p) is h)
  some_gives s b r is h (inl x) = let a = some_one s b r is h x in (a.0, a.1, inl a.2)
  some_gives s b r is h (inr x) =
      let a = some_one s b r is x.0 x.2 in
      let cell : ProgramFact = Cell x.0 x.1 h in (
        cell ∷ a.0,
        (x.4, a.1),
        inr (x.0, x.1, one_may_be p (Contains a.0) (Contains (cell ∷ a.0)) (λ g c. in_rest cell a.0 g c) s b r is x.0 a.2, x.3, first cell a.0),
      )

  some_writes : (s : Statement) (b : Bool) (r : OutsideRule) (a : Site) (f : FieldName) →
      Writes K s b r (OperandHas p K s) (IsState p) (IsElements p) a f → FromSome K (λ L. Writes L s b r (OperandHas p L s) (IsState p) (IsElements p) a f)
  some_writes s b r a f (inl x) = let q = some_one s b r r.states a x.0 in (q.0, q.1, inl (q.2, x.1))
  some_writes s b r a f (inr x) = let q = some_one s b r r.arrays a x.0 in (q.0, q.1, inr (q.2, x.1))

  from_some : {f : ProgramFact} → Follows p K f → FromSome K (λ L. Follows p L f)
  from_some (enters c) = ([], tt, enters c)
  from_some (given c a) = ([], tt, given c a)
  from_some given_elements = ([], tt, given_elements)
  from_some (entry_initializes c k i) = ([], tt, entry_initializes c k i)
  from_some (initializes {s} r n i) = (Reached s.method ∷ [], (r.0, tt), initializes ((first (Reached s.method) []), r.1) n i)
  from_some (allocates {s} r t) = (Reached s.method ∷ [], (r.0, tt), allocates ((first (Reached s.method) []), r.1) t)
  from_some (nests {s} r t u) = (Reached s.method ∷ [], (r.0, tt), nests ((first (Reached s.method) []), r.1) t u)
  from_some (reads_fresh {s} r n t) = (Reached s.method ∷ [], (r.0, tt), reads_fresh ((first (Reached s.method) []), r.1) n t)
  from_some (copies {s} {h} r o) = (Reached s.method ∷ Has (variable_of s.method o.0) h ∷ [], (r.0, (o.2, tt)), copies ((first (Reached s.method) (Has (variable_of s.method o.0) h ∷ [])), r.1) (o.0, o.1, (second (Reached s.method) (Has (variable_of s.method o.0) h) [])))
  from_some (casts {s} {h} r o n q) = (Reached s.method ∷ Has (variable_of s.method o.0) h ∷ [], (r.0, (o.2, tt)), casts ((first (Reached s.method) (Has (variable_of s.method o.0) h ∷ [])), r.1) (o.0, o.1, (second (Reached s.method) (Has (variable_of s.method o.0) h) [])) n q)
  from_some (answers {s} {h} r o) = (Reached s.method ∷ Has (variable_of s.method o.0) h ∷ [], (r.0, (o.2, tt)), answers ((first (Reached s.method) (Has (variable_of s.method o.0) h ∷ [])), r.1) (o.0, o.1, (second (Reached s.method) (Has (variable_of s.method o.0) h) [])))
  from_some (reads_field {s} f {b} {h} r n o x) = (Reached s.method ∷ Has (variable_of s.method o.0) b ∷ Cell b (field_name f) h ∷ [], (r.0, (o.2, (x, tt))), reads_field f ((first (Reached s.method) (Has (variable_of s.method o.0) b ∷ Cell b (field_name f) h ∷ [])), r.1) n (o.0, o.1, (second (Reached s.method) (Has (variable_of s.method o.0) b) (Cell b (field_name f) h ∷ []))) (in_rest (Reached s.method) (Has (variable_of s.method o.0) b ∷ Cell b (field_name f) h ∷ []) _ (second (Has (variable_of s.method o.0) b) (Cell b (field_name f) h) [])))
  from_some (reads_element {s} {b} {h} r o x) = (Reached s.method ∷ Has (variable_of s.method o.0) b ∷ Cell b Elements h ∷ [], (r.0, (o.2, (x, tt))), reads_element ((first (Reached s.method) (Has (variable_of s.method o.0) b ∷ Cell b Elements h ∷ [])), r.1) (o.0, o.1, (second (Reached s.method) (Has (variable_of s.method o.0) b) (Cell b Elements h ∷ []))) (in_rest (Reached s.method) (Has (variable_of s.method o.0) b ∷ Cell b Elements h ∷ []) _ (second (Has (variable_of s.method o.0) b) (Cell b Elements h) [])))
  from_some (reads_static {s} {v} {h} r e x) = (Reached s.method ∷ Has v h ∷ [], (r.0, (x, tt)), reads_static ((first (Reached s.method) (Has v h ∷ [])), r.1) e (second (Reached s.method) (Has v h) []))
  from_some (writes_field {s} f {b} {h} r n o x) = (Reached s.method ∷ Has (variable_of s.method o.0) b ∷ Has (variable_of s.method x.0) h ∷ [], (r.0, (o.2, (x.2, tt))), writes_field f ((first (Reached s.method) (Has (variable_of s.method o.0) b ∷ Has (variable_of s.method x.0) h ∷ [])), r.1) n (o.0, o.1, (second (Reached s.method) (Has (variable_of s.method o.0) b) (Has (variable_of s.method x.0) h ∷ []))) (x.0, x.1, (in_rest (Reached s.method) (Has (variable_of s.method o.0) b ∷ Has (variable_of s.method x.0) h ∷ []) _ (second (Has (variable_of s.method o.0) b) (Has (variable_of s.method x.0) h) []))))
  from_some (writes_element {s} {b} {h} r o x) = (Reached s.method ∷ Has (variable_of s.method o.0) b ∷ Has (variable_of s.method x.0) h ∷ [], (r.0, (o.2, (x.2, tt))), writes_element ((first (Reached s.method) (Has (variable_of s.method o.0) b ∷ Has (variable_of s.method x.0) h ∷ [])), r.1) (o.0, o.1, (second (Reached s.method) (Has (variable_of s.method o.0) b) (Has (variable_of s.method x.0) h ∷ []))) (x.0, x.1, (in_rest (Reached s.method) (Has (variable_of s.method o.0) b ∷ Has (variable_of s.method x.0) h ∷ []) _ (second (Has (variable_of s.method o.0) b) (Has (variable_of s.method x.0) h) []))))
  from_some (writes_static {s} {h} r v o) = (Reached s.method ∷ Has (variable_of s.method o.0) h ∷ [], (r.0, (o.2, tt)), writes_static ((first (Reached s.method) (Has (variable_of s.method o.0) h ∷ [])), r.1) v (o.0, o.1, (second (Reached s.method) (Has (variable_of s.method o.0) h) [])))
  from_some (calls {s} r g) = (Reached s.method ∷ [], (r.0, tt), calls ((first (Reached s.method) []), r.1) g)
  from_some (calls_enter {s} r g) = (Reached s.method ∷ [], (r.0, tt), calls_enter ((first (Reached s.method) []), r.1) g)
  from_some (calls_receive {s} {h} r g f o) = (Reached s.method ∷ Has (variable_of s.method o.0) h ∷ [], (r.0, (o.2, tt)), calls_receive ((first (Reached s.method) (Has (variable_of s.method o.0) h ∷ [])), r.1) g f (o.0, o.1, (second (Reached s.method) (Has (variable_of s.method o.0) h) [])))
  from_some (goes_outside {s} r n) = (Reached s.method ∷ [], (r.0, tt), goes_outside ((first (Reached s.method) []), r.1) n)
  from_some (goes_outside_at {s} {h} r n o) = (Reached s.method ∷ Has (variable_of s.method o.0) h ∷ [], (r.0, (o.2, tt)), goes_outside_at ((first (Reached s.method) (Has (variable_of s.method o.0) h ∷ [])), r.1) n (o.0, o.1, (second (Reached s.method) (Has (variable_of s.method o.0) h) [])))
  from_some (selects {s} {h} r o t) = (Reached s.method ∷ Has (variable_of s.method o.0) h ∷ [], (r.0, (o.2, tt)), selects ((first (Reached s.method) (Has (variable_of s.method o.0) h ∷ [])), r.1) (o.0, o.1, (second (Reached s.method) (Has (variable_of s.method o.0) h) [])) t)
  from_some (selects_enter {s} {h} r o t) = (Reached s.method ∷ Has (variable_of s.method o.0) h ∷ [], (r.0, (o.2, tt)), selects_enter ((first (Reached s.method) (Has (variable_of s.method o.0) h ∷ [])), r.1) (o.0, o.1, (second (Reached s.method) (Has (variable_of s.method o.0) h) [])) t)
  from_some (selects_receive {s} {h} r o t) = (Reached s.method ∷ Has (variable_of s.method o.0) h ∷ [], (r.0, (o.2, tt)), selects_receive ((first (Reached s.method) (Has (variable_of s.method o.0) h ∷ [])), r.1) (o.0, o.1, (second (Reached s.method) (Has (variable_of s.method o.0) h) [])) t)
  from_some (selects_outside {s} {h} r o t) = (Reached s.method ∷ Has (variable_of s.method o.0) h ∷ [], (r.0, (o.2, tt)), selects_outside ((first (Reached s.method) (Has (variable_of s.method o.0) h ∷ [])), r.1) (o.0, o.1, (second (Reached s.method) (Has (variable_of s.method o.0) h) [])) t)
  from_some (passes {s} {t} {h} r x a n f o) = (Reached s.method ∷ Calls s t ∷ Has (variable_of s.method o.0) h ∷ [], (r.0, (x, (o.2, tt))), passes ((first (Reached s.method) (Calls s t ∷ Has (variable_of s.method o.0) h ∷ [])), r.1) (second (Reached s.method) (Calls s t) (Has (variable_of s.method o.0) h ∷ [])) a n f (o.0, o.1, (in_rest (Reached s.method) (Calls s t ∷ Has (variable_of s.method o.0) h ∷ []) _ (second (Calls s t) (Has (variable_of s.method o.0) h) []))))
  from_some (receives {s} {t} {h} r x y) = (Reached s.method ∷ Calls s t ∷ Has (ResultOf t) h ∷ [], (r.0, (x, (y, tt))), receives ((first (Reached s.method) (Calls s t ∷ Has (ResultOf t) h ∷ [])), r.1) (second (Reached s.method) (Calls s t) (Has (ResultOf t) h ∷ [])) (in_rest (Reached s.method) (Calls s t ∷ Has (ResultOf t) h ∷ []) _ (second (Calls s t) (Has (ResultOf t) h) [])))
  from_some (throws {s} {t} {h} r x y) = (Reached s.method ∷ Calls s t ∷ Has (ThrownBy t) h ∷ [], (r.0, (x, (y, tt))), throws ((first (Reached s.method) (Calls s t ∷ Has (ThrownBy t) h ∷ [])), r.1) (second (Reached s.method) (Calls s t) (Has (ThrownBy t) h ∷ [])) (in_rest (Reached s.method) (Calls s t ∷ Has (ThrownBy t) h ∷ []) _ (second (Calls s t) (Has (ThrownBy t) h) [])))
  from_some (catches {s} {h} x c t) = let q = some_raised s h x in (q.0, q.1, catches q.2 c t)
  from_some (leaves {s} {h} x m) = let q = some_raised s h x in (q.0, q.1, leaves q.2 m)
  from_some (answers_fresh {s} {o} r x t) = (Reached s.method ∷ OutsideAt s o ∷ [], (r.0, (x, tt)), answers_fresh ((first (Reached s.method) (OutsideAt s o ∷ [])), r.1) (second (Reached s.method) (OutsideAt s o) []) t)
  from_some (outside_gives {s} {instance = b} {r} {h} q o t x) =
      let a = some_gives s b r r.reads h x in
      let reached : ProgramFact = Reached s.method in (
        reached ∷ a.0,
        (q.0, a.1),
        outside_gives (first reached a.0, q.1) o t (gives_wider p (Contains a.0) (Contains (reached ∷ a.0)) (λ g c. in_rest reached a.0 g c) s b r r.reads h a.2),
      )
  from_some (outside_writes {s} {instance = b} {r} {b = a} {h} {f} q o x y) =
      let w = some_writes s b r a f x in
      let t = some_gives s b r r.written h y in
      let reached : ProgramFact = Reached s.method in
      let both = w.0 ++ t.0 in (
        reached ∷ both,
        (q.0, both_hold K w.0 t.0 w.1 t.1),
        outside_writes (first reached both, q.1) o (writes_wider p (Contains w.0) (Contains (reached ∷ both)) (λ g c. in_rest reached both g (Contains-append_left w.0 t.0 g c)) s b r a f w.2) (gives_wider p (Contains t.0) (Contains (reached ∷ both)) (λ g c. in_rest reached both g (Contains-append_right w.0 t.0 g c)) s b r r.written h t.2),
      )

-- what follows from facts that hold holds
pub closed : (p : Program) (f : ProgramFact) → Follows p (Holds p) f → Holds p f
closed p f r = derived (Follows p) (λ K L w g x. wider p K L w x) f (from_some p (Holds p) r)
