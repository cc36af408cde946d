use Rattle.std.proofs.Common.{◌≡◌, ◌∷◌, ◌∙◌, ◌⊎◌, ℕ, List, [], length, Contains, inl, inr, refl, sym, subst, ap, arith}
use Rattle.slicer_ids.specs.declared.ids.NodeId.{NodeId}
use Rattle.slicer_ids.specs.declared.ids.ExitId.{ExitId}
use Rattle.std.specs.Prelude.{map}
use Rattle.tabulate.specs.declared.found.Found.{Found}
use Rattle.tabulate.specs.declared.table.Table.{Table}
use Rattle.tabulate.specs.States.{Holds, AreWanting, IsRowFound}
use Rattle.tabulate.specs.Tables.{IsFirst, exits_of}
use Rattle.tabulate.proofs.Blank.{blank_total}
use Rattle.tabulate.proofs.Starting.{holds_start, done_start}
use Rattle.tabulate.proofs.Backward.{asked_there}
use Rattle.tabulate.proofs.TableLaws.{is_table, is_counted}
use Rattle.tabulate.proofs.tabulation.tabulate_with.Goals as goal

pub start-requires-clause-holds : goal.start-requires-clause-holds
start-requires-clause-holds g c =
    let p = c.args.f.now in
    let count = ap length c.items-count.ensures in
    subst (λ (ys : List ExitId). Holds p c.args.mode (IsFirst c.args.e c.args.more.now) (λ _. ⊥) c.in_ok-methods.methods.items c.new-hands.result ys c.in_ok-found.found.items c.new-queue.result.items) (sym c.new-asked.ensures.items)
    (subst (λ (ys : List NodeId). Holds p c.args.mode (IsFirst c.args.e c.args.more.now) (λ _. ⊥) c.in_ok-methods.methods.items c.new-hands.result [] c.in_ok-found.found.items ys) (sym c.new-queue.ensures.items)
    (holds_start p c.args.mode c.in_ok-found.found.items c.in_ok-found.ensures.blank (IsFirst c.args.e c.args.more.now) c.in_ok-methods.methods.items c.new-hands.result (omega (arith, c.in_ok-methods.ensures.len, count)) c.in_ok-methods.ensures.none c.new-hands.ensures (omega (arith, c.in_ok-found.ensures.len, count))))

pub run-requires-clause-done : goal.run-requires-clause-done
run-requires-clause-done g c = done_start c.args.f.now c.args.mode c.in_ok-found.found.items c.in_ok-found.ensures.blank c.new-hands.result c.start.new.hands c.new-asked.result.items c.start.new.asked.items c.start.new.found.items c.in_ok-start.ensures.meets

pub rows_of-requires-clause-exits : goal.rows_of-requires-clause-exits
rows_of-requires-clause-exits g c = λ d k. asked_there c.args.f.now c.args.mode (IsFirst c.args.e c.args.more.now) (λ y. g.R.Rows.surely c.run.new.rows y c.args.mode) c.run.new.methods.items c.run.new.hands c.run.new.asked.items c.run.new.found.items c.run.new.queue.items c.in_ok-run.ensures.holds d (subst (λ (ys : List ExitId). Contains ys d) c.deref.ensures.value k)

pub returns-clause-table : goal.returns-clause-table
returns-clause-table g c =
    let p = c.args.f.now in
    let r = c.in_ok-run.ensures in
    let asked : List ExitId = c.run.new.asked.items in
    let ts : List Found = c.run.new.found.items in
    let s : Holds p c.args.mode (IsFirst c.args.e c.args.more.now) (λ y. g.R.Rows.surely c.run.new.rows y c.args.mode) c.run.new.methods.items c.run.new.hands asked ts [] =
    subst (λ (ys : List NodeId). Holds p c.args.mode (IsFirst c.args.e c.args.more.now) (λ y. g.R.Rows.surely c.run.new.rows y c.args.mode) c.run.new.methods.items c.run.new.hands asked ts ys) r.idle r.holds in
    let b = c.in_ok-start.ensures in
    let want : AreWanting (λ y. g.R.Rows.surely c.args.rows.now y c.args.mode) (c.args.e ∷ []) asked = λ d k. elim (r.wanting d k) [ inl o ↦ b.wanting d o | inr n ↦ inr (λ had. n (g.met.R.Rows.later_surely c.args.rows.now c.start.new.rows d c.args.mode c.start.ensures.rows.1 had)) ] in
    let own : Contains asked c.args.e = r.more c.args.e b.own in
    let firsts : (d : ExitId) → IsFirst c.args.e c.args.more.now d → Contains asked d ⊎ g.R.Rows.surely c.run.new.rows d c.args.mode = λ d is. elim is [
      | inl same ↦ inl (subst (λ (y : ExitId). Contains asked y) (sym same) own)
      | inr k ↦ elim (b.known d k) [ inl a ↦ inl (r.more d a) | inr has ↦ inr (g.met.R.Rows.later_surely c.start.new.rows c.run.new.rows d c.args.mode c.run.ensures.rows.1 has) ]
    ] in
    let t : Table = record { exit = c.args.e; mode = c.args.mode; rows = c.from_vec.result } in
    let exits_are : exits_of t ≡ asked = ap (map (λ (y : ExitId × List ℕ). y.0)) c.from_vec.ensures ∙ c.in_ok-rows.ensures.exits ∙ c.deref.ensures.value in
    let rows : (k : ExitId) (row : List ℕ) → Contains t.rows (k, row) → IsRowFound p ts k row = λ k row m. c.in_ok-rows.ensures.rows k row (subst (λ (ys : List (ExitId × List ℕ)). Contains ys (k, row)) c.from_vec.ensures m) in
    is_table p c.args.mode (IsFirst c.args.e c.args.more.now) (λ y. g.R.Rows.surely c.run.new.rows y c.args.mode) c.run.new.methods.items c.run.new.hands asked ts s r.done c.args.e (λ y. g.R.Rows.surely c.args.rows.now y c.args.mode) want own firsts t refl refl exits_are rows

pub returns-clause-turns : goal.returns-clause-turns
returns-clause-turns g c =
    let p = c.args.f.now in
    let r = c.in_ok-run.ensures in
    let asked : List ExitId = c.run.new.asked.items in
    let ts : List Found = c.run.new.found.items in
    let s : Holds p c.args.mode (IsFirst c.args.e c.args.more.now) (λ y. g.R.Rows.surely c.run.new.rows y c.args.mode) c.run.new.methods.items c.run.new.hands asked ts [] =
    subst (λ (ys : List NodeId). Holds p c.args.mode (IsFirst c.args.e c.args.more.now) (λ y. g.R.Rows.surely c.run.new.rows y c.args.mode) c.run.new.methods.items c.run.new.hands asked ts ys) r.idle r.holds in
    let b = c.in_ok-start.ensures in
    let want : AreWanting (λ y. g.R.Rows.surely c.args.rows.now y c.args.mode) (c.args.e ∷ []) asked = λ d k. elim (r.wanting d k) [ inl o ↦ b.wanting d o | inr n ↦ inr (λ had. n (g.met.R.Rows.later_surely c.args.rows.now c.start.new.rows d c.args.mode c.start.ensures.rows.1 had)) ] in
    let own : Contains asked c.args.e = r.more c.args.e b.own in
    let firsts : (d : ExitId) → IsFirst c.args.e c.args.more.now d → Contains asked d ⊎ g.R.Rows.surely c.run.new.rows d c.args.mode = λ d is. elim is [
      | inl same ↦ inl (subst (λ (y : ExitId). Contains asked y) (sym same) own)
      | inr k ↦ elim (b.known d k) [ inl a ↦ inl (r.more d a) | inr has ↦ inr (g.met.R.Rows.later_surely c.start.new.rows c.run.new.rows d c.args.mode c.run.ensures.rows.1 has) ]
    ] in
    let t : Table = record { exit = c.args.e; mode = c.args.mode; rows = c.from_vec.result } in
    let exits_are : exits_of t ≡ asked = ap (map (λ (y : ExitId × List ℕ). y.0)) c.from_vec.ensures ∙ c.in_ok-rows.ensures.exits ∙ c.deref.ensures.value in
    let rows : (k : ExitId) (row : List ℕ) → Contains t.rows (k, row) → IsRowFound p ts k row = λ k row m. c.in_ok-rows.ensures.rows k row (subst (λ (ys : List (ExitId × List ℕ)). Contains ys (k, row)) c.from_vec.ensures m) in
    is_counted p c.args.mode (IsFirst c.args.e c.args.more.now) (λ y. g.R.Rows.surely c.run.new.rows y c.args.mode) c.run.new.methods.items c.run.new.hands asked ts s r.done c.args.e (λ y. g.R.Rows.surely c.args.rows.now y c.args.mode) want own firsts t refl refl exits_are rows c.args.steps.now c.run.new.steps (omega (arith, b.turns, r.turns, blank_total p c.in_ok-found.found.items c.in_ok-found.ensures.blank))
