-- What follows from facts of a program that can be added to any derivation can be added too.
use Rattle.std.proofs.Common.{ℕ, inl, inr}
use Rattle.dep_form.specs.PointsTo.{Reached, Gives, Writes}
use Rattle.program_form.specs.Programs.{Program}
use Rattle.program_form.specs.Sites.{Site}
use Rattle.program_form.specs.Facts.{ProgramFact, Follows, Holds, OperandHas, IsState, IsElements, enters, given, given_elements, entry_initializes, initializes, allocates, nests, reads_fresh, copies, casts, answers, reads_field, reads_element, reads_static, writes_field, writes_element, writes_static, calls, calls_enter, calls_receive, goes_outside, goes_outside_at, selects, selects_enter, selects_receive, selects_outside, passes, receives, throws, catches, leaves, answers_fresh, outside_gives, outside_writes}
use Rattle.slicer_ids.specs.declared.ids.Statement.{Statement}
use Rattle.program_form.proofs.Closed.{all_in}
use Rattle.constraint_form.proofs.Adding.{Widens, Extends, Adds, both, made, made0, made1, made2, made3}
use Rattle.constraint_form.proofs.OutsideAdds.{gives_extends, writes_extends, writes_wide}

module _ (p : Program) where
  abbrev pub Known : ProgramFact → Type 0
  Known = Adds (Follows p)

  operand_wide : (s : Statement) (i : ℕ) (h : Site) → Widens (λ (K : ProgramFact → Type 0). OperandHas p K s i h)
  operand_wide s i h K L w x = (x.0, x.1, w _ x.2)

  operand_extends : (s : Statement) (i : ℕ) (h : Site) → OperandHas p Known s i h → Extends (Follows p) (λ K. OperandHas p K s i h)
  operand_extends s i h (d, is, x) = λ base e. let y = x base e in (y.0, y.1, y.2, (d, is, y.3))

  pub known : {f : ProgramFact} → Follows p Known f → Known f
  known (enters c) = made0 (Follows p) (λ K. enters c)
  known (given c a) = made0 (Follows p) (λ K. given c a)
  known given_elements = made0 (Follows p) (λ K. given_elements)
  known (entry_initializes c k i) = made0 (Follows p) (λ K. entry_initializes c k i)
  known (initializes (k, o) n i) = made1 (Follows p) k (λ K a. initializes (a, o) n i)
  known (allocates (k, o) t) = made1 (Follows p) k (λ K a. allocates (a, o) t)
  known (nests (k, o) t u) = made1 (Follows p) k (λ K a. nests (a, o) t u)
  known (reads_fresh (k, o) n t) = made1 (Follows p) k (λ K a. reads_fresh (a, o) n t)
  known (copies (k, o) (d, is, x)) = made2 (Follows p) k x (λ K a b. copies (a, o) (d, is, b))
  known (casts (k, o) (d, is, x) n q) = made2 (Follows p) k x (λ K a b. casts (a, o) (d, is, b) n q)
  known (answers (k, o) (d, is, x)) = made2 (Follows p) k x (λ K a b. answers (a, o) (d, is, b))
  known (reads_field f (k, o) n (d, is, x) c) = made3 (Follows p) k x c (λ K a b c. reads_field f (a, o) n (d, is, b) c)
  known (reads_element (k, o) (d, is, x) c) = made3 (Follows p) k x c (λ K a b c. reads_element (a, o) (d, is, b) c)
  known (reads_static (k, o) v x) = made2 (Follows p) k x (λ K a b. reads_static (a, o) v b)
  known (writes_field f (k, o) n (d, is, x) (e, has, y)) = made3 (Follows p) k x y (λ K a b c. writes_field f (a, o) n (d, is, b) (e, has, c))
  known (writes_element (k, o) (d, is, x) (e, has, y)) = made3 (Follows p) k x y (λ K a b c. writes_element (a, o) (d, is, b) (e, has, c))
  known (writes_static (k, o) v (d, is, x)) = made2 (Follows p) k x (λ K a b. writes_static (a, o) v (d, is, b))
  known (calls (k, o) g) = made1 (Follows p) k (λ K a. calls (a, o) g)
  known (calls_enter (k, o) g) = made1 (Follows p) k (λ K a. calls_enter (a, o) g)
  known (calls_receive (k, o) g f (d, is, x)) = made2 (Follows p) k x (λ K a b. calls_receive (a, o) g f (d, is, b))
  known (goes_outside (k, o) n) = made1 (Follows p) k (λ K a. goes_outside (a, o) n)
  known (goes_outside_at (k, o) n (d, is, x)) = made2 (Follows p) k x (λ K a b. goes_outside_at (a, o) n (d, is, b))
  known (selects (k, o) (d, is, x) t) = made2 (Follows p) k x (λ K a b. selects (a, o) (d, is, b) t)
  known (selects_enter (k, o) (d, is, x) t) = made2 (Follows p) k x (λ K a b. selects_enter (a, o) (d, is, b) t)
  known (selects_receive (k, o) (d, is, x) t) = made2 (Follows p) k x (λ K a b. selects_receive (a, o) (d, is, b) t)
  known (selects_outside (k, o) (d, is, x) t) = made2 (Follows p) k x (λ K a b. selects_outside (a, o) (d, is, b) t)
  known (passes (k, o) c i n f (d, is, x)) = made3 (Follows p) k c x (λ K a b e. passes (a, o) b i n f (d, is, e))
  known (receives (k, o) c x) = made3 (Follows p) k c x (λ K a b e. receives (a, o) b e)
  known (throws (k, o) c x) = made3 (Follows p) k c x (λ K a b e. throws (a, o) b e)
  known (catches (inl ((k, o), (d, is, x))) c t) = made2 (Follows p) k x (λ K a b. catches (inl ((a, o), (d, is, b))) c t)
  known (catches (inr ((k, o), x)) c t) = made2 (Follows p) k x (λ K a b. catches (inr ((a, o), b)) c t)
  known (leaves (inl ((k, o), (d, is, x))) m) = made2 (Follows p) k x (λ K a b. leaves (inl ((a, o), (d, is, b))) m)
  known (leaves (inr ((k, o), x)) m) = made2 (Follows p) k x (λ K a b. leaves (inr ((a, o), b)) m)
  known (answers_fresh (k, o) c t) = made2 (Follows p) k c (λ K a b. answers_fresh (a, o) b t)
  known (outside_gives {s} {instance} {r} {h} (k, o) rule t g) =
      made (Follows p) (λ K. K (Reached s.method) × Gives K s instance r (OperandHas p K s) (IsState p) r.reads h) _
      (both (Follows p) (λ K. K (Reached s.method)) (λ K. Gives K s instance r (OperandHas p K s) (IsState p) r.reads h) (λ K L w a. w _ a) k
      (gives_extends (Follows p) s instance r (λ K. OperandHas p K s) (operand_wide s) (operand_extends s) (IsState p) r.reads h g))
      (λ K a. outside_gives (a.0, o) rule t a.1)
  known (outside_writes {s} {instance} {r} {b} {h} {f} (k, o) rule w g) =
      made (Follows p) (λ K. K (Reached s.method) × (Writes K s instance r (OperandHas p K s) (IsState p) (IsElements p) b f × Gives K s instance r (OperandHas p K s) (IsState p) r.written h)) _
      (both (Follows p) (λ K. K (Reached s.method)) (λ K. Writes K s instance r (OperandHas p K s) (IsState p) (IsElements p) b f × Gives K s instance r (OperandHas p K s) (IsState p) r.written h) (λ K L w a. w _ a) k
      (both (Follows p) (λ K. Writes K s instance r (OperandHas p K s) (IsState p) (IsElements p) b f) (λ K. Gives K s instance r (OperandHas p K s) (IsState p) r.written h)
      (writes_wide (Follows p) s instance r (λ K. OperandHas p K s) (operand_wide s) (operand_extends s) (IsState p) (IsElements p) b f)
      (writes_extends (Follows p) s instance r (λ K. OperandHas p K s) (operand_wide s) (operand_extends s) (IsState p) (IsElements p) b f w)
      (gives_extends (Follows p) s instance r (λ K. OperandHas p K s) (operand_wide s) (operand_extends s) (IsState p) r.written h g)))
      (λ K a. outside_writes (a.0, o) rule a.1.0 a.1.1)

  -- each fact that holds can be added
  pub holds_known : (f : ProgramFact) → Holds p f → Known f
  holds_known f h = all_in p Known (λ g x. known x) h.0 h.1 f h.2
