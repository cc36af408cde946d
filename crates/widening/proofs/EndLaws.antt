-- All that leads to a seed is marked in the end.
use Rattle.std.proofs.Common.{List, length, take, Contains, Option, inl, inr, sym, subst, arith}
use Rattle.std.proofs.lemmas.List.{take_all}
use Rattle.slicer_ids.specs.declared.ids.NodeId.{NodeId}
use Rattle.slicer_ids.specs.declared.ids.ExitId.{ExitId}
use Rattle.dep_form.specs.declared.facts.Facts.{Facts}
use Rattle.dep_form.specs.declared.node.Edge.{Edge}
use Rattle.dep_form.specs.Phases.{Level, stay, thin, base, call, Down as GoesDown, level, enter, GoesUpThenDown, down, leave}
use Rattle.dep_form.specs.Paths.{IsInSlice}
use Rattle.dep_form.specs.Summaries.{IsExitAt}
use Rattle.dep_form.proofs.Realizable.{by_cases}
use Rattle.thin_slice.specs.declared.needs.Phase.{Phase}
use Rattle.thin_slice.specs.declared.needs.Phase.TheVariants.{Up, Down}
use Rattle.thin_slice.specs.Steps.{Flows, Moves}
use Rattle.thin_slice.specs.Marks.{found}
use Rattle.tabulate.specs.declared.method.Method.{Method}
use Rattle.widening.specs.declared.state.State.{State}
use Rattle.widening.specs.Edges.{Widened}
use Rattle.widening.specs.Marks.{IsMarking, IsAsked}
use Rattle.widening.specs.States.{IsSliced}
use Rattle.widening.proofs.MarkLaws.{in_slice}

module _ (f : Facts) (E : Edge → Type 0) (phase : Phase) (ms : List (Option Method)) (asked : List ExitId) (nodes : List NodeId) (t : IsMarking f E phase ms asked (length nodes) nodes) where
  all_taken : (n : NodeId) → Contains nodes n → Contains (take (length nodes) nodes) n
  all_taken n c = subst (λ (xs : List NodeId). Contains xs n) (sym (take_all (length nodes) nodes (omega arith))) c

  pub move_found : (n q : NodeId) → Contains nodes n → Moves E phase n q → Contains nodes q
  move_found n q c m = t.moves n q (all_taken n c) m

  flow_moves : (n q : NodeId) → Flows E n q → (p : Phase) → Moves E p n q
  flow_moves n q h Up = inl h
  flow_moves n q h Down = inl h

  pub level_found : {a b : NodeId} → Level E a b → Contains nodes b → Contains nodes a
  level_found stay c = c
  level_found (thin {a} {b} e x) c = move_found b a (level_found x c) (flow_moves b a (inl e) phase)
  level_found (base {a} {b} e x) c = move_found b a (level_found x c) (flow_moves b a (inr e) phase)
  level_found (call {a} {b} {c} {d} {e} {k} g x r y) there = t.passes d a (all_taken d (level_found y there)) (k, c, r, (b, g, x))

  pub served_found : (n : NodeId) → Contains nodes n → IsAsked f E ms asked n
  served_found n c = t.served n (all_taken n c)

module _ (f : Facts) (seeds : List NodeId) (ms : List (Option Method)) (s : State) (t : IsSliced f seeds ms s) where
  abbrev E : Edge → Type 0
  E = Widened f s.expansions

  down_found : {a b : NodeId} → GoesDown E a b → Contains (found s.up) b → Contains (found s.up) a
  down_found (level x) c = level_found f E Up ms s.pairs.asked.items (found s.up) t.up_steps x c
  down_found (enter {a} {b} {c} {d} {k} x e y) there = level_found f E Up ms s.pairs.asked.items (found s.up) t.up_steps x (move_found f E Up ms s.pairs.asked.items (found s.up) t.up_steps c b (down_found y there) (inr (k, e)))

  up_found : {a b : NodeId} → GoesUpThenDown E a b → Contains (found s.up) b → Contains (found s.down) a
  up_found (down {a} x) c = t.ups a (down_found x c)
  up_found (leave {a} {b} {c} {d} {k} x e y) there = level_found f E Down ms s.pairs.asked.items (found s.down) t.down_steps x (move_found f E Down ms s.pairs.asked.items (found s.down) t.down_steps c b (up_found y there) (inr (k, e)))

  -- the nodes of the second phase are the slice
  pub slice_of : (n : NodeId) → Contains (found s.down) n → IsInSlice E (Contains seeds) n
  slice_of n c = in_slice E seeds Down n (t.down_leads n c)

  pub of_slice : (n : NodeId) → IsInSlice E (Contains seeds) n → Contains (found s.down) n
  of_slice n h = up_found (by_cases E n h.0 h.2) (t.there h.0 h.1)

  -- each exit that the slice needs was asked for
  pub asked_for : (d : ExitId) (x : NodeId) → IsExitAt f d x → IsInSlice E (Contains seeds) x → Contains s.pairs.asked.items d
  asked_for d x at h = (served_found f E Down ms s.pairs.asked.items (found s.down) t.down_steps x (of_slice x h)).own d at
