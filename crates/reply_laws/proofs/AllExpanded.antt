-- Where each access is expanded, a slice is the full slice.
use Rattle.std.proofs.Common.{◌≡◌, ◌≢◌, ◌<◌, ℕ, suc, List, [], Contains, length, get_or, Option, Some, None, refl, sym, ap, subst, ◌∙◌, inl, inr, arith}
use Rattle.std.proofs.Math.Logic.{∥∥₁_elim}
use Rattle.std.proofs.Props.{props}
use Rattle.std.proofs.lemmas.List.Elements.{All-contains}
use Rattle.slicer_ids.specs.Sets.{IsOrderedListOf}
use Rattle.slicer_ids.specs.Order.{StatementBefore}
use Rattle.slicer_ids.specs.declared.ids.MethodId.{MethodId}
use Rattle.slicer_ids.specs.declared.ids.Statement.{Statement}
use Rattle.slicer_ids.proofs.Ordered.{one_ordered}
use Rattle.class_form.proofs.Indices.{index_in}
use Rattle.dep_form.specs.declared.access.Access.{Access}
use Rattle.dep_form.specs.declared.facts.Facts.{Facts}
use Rattle.dep_form.specs.declared.node.Edge.{Edge}
use Rattle.dep_form.specs.declared.node.Label.TheVariants.{Base}
use Rattle.dep_form.specs.declared.node.Node.{Node}
use Rattle.dep_form.specs.declared.node.Node.TheVariants.{Formal, HeapIn, Own, Argument, Result, Exception, HeapArg, HeapResult, Return, Thrown, HeapOut}
use Rattle.dep_form.specs.Nodes.{pc_of, own_pc}
use Rattle.dep_form.specs.Inputs.{IsEdge, BelongsTo}
use Rattle.dep_form.specs.LookUps.{HasLine}
use Rattle.dep_form.specs.Slices.{Expanded, FullEdges}
use Rattle.dep_form.specs.WithinFacts.{AreFacts, IsFit, IsOfMethod}
use Rattle.dep_form.proofs.Monotone.{slice-plained, slice-unplained}
use Rattle.script.specs.declared.command.Command.TheVariants as command
use Rattle.report.specs.declared.reply.LinePlace.{LinePlace}
use Rattle.report.specs.Replies.{Answer, Statements, Lines}
use Rattle.session_form.specs.Places.{IsAccess}
use Rattle.session_form.specs.States.{State, IsLesserLine, LineBefore, SeedNodes, InSlice, InFullSlice, IsLineOfSlice}
use Rattle.session_form.specs.Answers.{Answers, expands_all, slices, slices_full, lists_lines, refuses_slice, refuses_full, refuses_lines}
use Rattle.session_form.proofs.OneAnswer.{statements_asym}
use Rattle.reply_laws.proofs.Equalities.{same_statements, same_places}

own_is_there : (k : Node) (pc : ℕ) → own_pc k ≡ Some pc → pc_of k ≡ Some pc
own_is_there (Own p) pc e = e
own_is_there (Formal i) pc e = absurd (cc e)
own_is_there (HeapIn l) pc e = absurd (cc e)
own_is_there (Argument p i) pc e = absurd (cc e)
own_is_there (Result p) pc e = absurd (cc e)
own_is_there (Exception p) pc e = absurd (cc e)
own_is_there (HeapArg p l) pc e = absurd (cc e)
own_is_there (HeapResult p l) pc e = absurd (cc e)
own_is_there Return pc e = absurd (cc e)
own_is_there Thrown pc e = absurd (cc e)
own_is_there (HeapOut l) pc e = absurd (cc e)

lesser_asym : (l m : Option ℕ) → IsLesserLine l m → IsLesserLine m l → ⊥
lesser_asym None None h g = h
lesser_asym None (Some m) h g = g
lesser_asym (Some l) None h g = h
lesser_asym (Some l) (Some m) h g = omega (arith, h, g)

lines_asym : (a b : LinePlace) → LineBefore a b → LineBefore b a → ⊥
lines_asym a b (inl h) (inl g) = omega (arith, h, g)
lines_asym a b (inl h) (inr g) = omega (arith, h, ap (λ (m : MethodId). m.0) g.0)
lines_asym a b (inr h) (inl g) = omega (arith, g, ap (λ (m : MethodId). m.0) h.0)
lines_asym a b (inr h) (inr g) = lesser_asym a.line b.line h.1 g.1

-- a list of what is P is one of what is Q
listed : {A : Type 0} (B : A → A → Type 0) (P Q : A → Type 0) (xs : List A) → ((x : A) → P x → Q x) → ((x : A) → Q x → P x) → IsOrderedListOf B xs P → IsOrderedListOf B xs Q
listed B P Q xs to from h = record { each = λ k d lt. to (get_or xs k d) (h.each k d lt); order = h.order; whole = λ x is. h.whole x (from x is) }

module _ (f : Facts) (st : State) where
  -- what the facts keep
  abbrev Kept : Type 0
  Kept = AreFacts f.inputs f.exits f.classes f.methods f.sites f.lines f.accesses f.values

  -- each access is expanded
  abbrev pub AreExpanded : Type 0
  AreExpanded = (x : Statement) → IsAccess f x → Contains st.expanded x

  abbrev IsEnd : Edge → Statement → Type 0
  IsEnd e s = Contains st.expanded s × BelongsTo f.inputs e.to s

  base_ends : Kept → AreExpanded → (e : Edge) → IsEdge f.inputs e → e.label ≡ Base → (s : Statement) × IsEnd e s
  base_ends w all e is base =
      let (within, s, a, k, among, node, own) = subst (IsFit f.inputs f.accesses e) base (w.fit e is) in
      let place = index_in f.accesses (s, a) among in
      let low = All-contains (λ (x : Statement × Access). IsOfMethod (length f.methods) x.0) f.accesses (s, a) w.access_places among in
      (s, (all s (a, (place.0, place.1)), (k, node, own_is_there k s.pc own, omega (arith, low, w.root))))

  abbrev LineOfFullSlice : LinePlace → Type 0
  LineOfFullSlice l = (x : Statement) × InFullSlice f st x × (l.method ≡ x.method) × HasLine f x l.line

  module _ (w : Kept) (all : AreExpanded) where
    in_full : (s : Statement) → InSlice f st s → InFullSlice f st s
    in_full s (n, is, belongs) =
        (n, slice-plained (Expanded f.inputs (Contains st.expanded)) (FullEdges f.inputs) (λ e p. (e, p.0, refl)) (SeedNodes f st) n is, belongs)

    in_slice : (s : Statement) → InFullSlice f st s → InSlice f st s
    in_slice s (n, is, belongs) = (
      n,
      slice-unplained (Expanded f.inputs (Contains st.expanded)) (FullEdges f.inputs)
          (λ e p. (p.0, (p.1, λ h. let b = base_ends w all p.0 p.1 h in (b.0, b.1.0, b.1.1)), p.2)) (SeedNodes f st) n is,
      belongs,
    )

    same_slices : (ss ts : List Statement) → IsOrderedListOf StatementBefore ss (InSlice f st) → IsOrderedListOf StatementBefore ts (InFullSlice f st) → ss ≡ ts
    same_slices ss ts g h = one_ordered StatementBefore (InFullSlice f st) ss ts (λ a b p q. statements_asym a b) (listed StatementBefore (InSlice f st) (InFullSlice f st) ss in_full in_slice g) h

    to_full : (l : LinePlace) → IsLineOfSlice f st l → LineOfFullSlice l
    to_full l (x, is, method, line) = (x, in_full x is, method, line)

    from_full : (l : LinePlace) → LineOfFullSlice l → IsLineOfSlice f st l
    from_full l (x, is, method, line) = (x, in_slice x is, method, line)

    same_lines : (ls ks : List LinePlace) → IsOrderedListOf LineBefore ls (IsLineOfSlice f st) → IsOrderedListOf LineBefore ks LineOfFullSlice → ls ≡ ks
    same_lines ls ks g h = one_ordered LineBefore LineOfFullSlice ls ks (λ a b p q. lines_asym a b) (listed LineBefore (IsLineOfSlice f st) LineOfFullSlice ls to_full from_full g) h

  module _ (all : AreExpanded) where
    one_slice : (ss ts : List Statement) → IsOrderedListOf StatementBefore ss (InSlice f st) → IsOrderedListOf StatementBefore ts (InFullSlice f st) → ss ≡ ts
    one_slice ss ts g h = elim (same_statements ss ts) [
      | inl e ↦ e
      | inr apart ↦ absurd (∥∥₁_elim f.sound (hlevel props) (λ w. apart (same_slices w all ss ts g h)))
    ]

    one_lines : (ls ks : List LinePlace) → IsOrderedListOf LineBefore ls (IsLineOfSlice f st) → IsOrderedListOf LineBefore ks LineOfFullSlice → ls ≡ ks
    one_lines ls ks g h = elim (same_places ls ks) [
      | inl e ↦ e
      | inr apart ↦ absurd (∥∥₁_elim f.sound (hlevel props) (λ w. apart (same_lines w all ls ks g h)))
    ]

pub one_reply : (f : Facts) (st s t : State) (a b : Answer) → AreExpanded f st → Answers f st command.Slice a s → Answers f st command.Full b t → a ≡ b
one_reply f st _ _ _ _ all (slices {ss} some g) (slices_full {ss = ts} more h) = ap Statements (one_slice f st all ss ts g h)
one_reply f st _ _ _ _ all (slices some g) (refuses_full none) = absurd (some none)
one_reply f st _ _ _ _ all (refuses_slice none) (slices_full some g) = absurd (some none)
one_reply f st _ _ _ _ all (refuses_slice none) (refuses_full empty) = refl

pub full_lines : (f : Facts) (st s : State) (a : Answer) (ks : List LinePlace) → AreExpanded f st → st.seeds ≢ [] → Answers f st command.Lines a s → IsOrderedListOf LineBefore ks (LineOfFullSlice f st) →
    a ≡ Lines ks
full_lines f st _ _ ks all some (lists_lines {ls} more g) h = ap Lines (one_lines f st all ls ks g h)
full_lines f st _ _ ks all some (refuses_lines none) h = absurd (some none)

pub all_expanded : (f : Facts) (before after : State) (done : Answer) → Answers f before command.ExpandAll done after → AreExpanded f after
all_expanded f before _ _ (expands_all h) x is = h.whole x is
