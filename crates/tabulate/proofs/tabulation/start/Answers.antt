use Rattle.std.proofs.Common.{◌≡◌, ◌∷◌, List, [], Contains, inl, inr, sym, subst, arith}
use Rattle.bit_rows.proofs.Counting.{here}
use Rattle.slicer_ids.specs.declared.ids.ExitId.{ExitId}
use Rattle.tabulate.specs.States.{AreWanting}
use Rattle.tabulate.specs.Tables.{IsFirst}
use Rattle.tabulate.proofs.MeetLaws.{holds_on, meets_then}
use Rattle.tabulate.proofs.tabulation.start.Goals as goal

pub meet_all-requires-clause-demanded : goal.meet_all-requires-clause-demanded
meet_all-requires-clause-demanded g c = λ d k. (c.requires.exits d k, inl (inr k))

pub meet_all-requires-clause-holds : goal.meet_all-requires-clause-holds
meet_all-requires-clause-holds g c = holds_on c.args.f.now c.args.mode (IsFirst c.args.e c.args.more.now) (λ _. ⊥) (λ d. g.R.Rows.surely c.args.rows.now d c.args.mode) (λ d k. absurd k) c.begin.new.methods.items c.begin.new.methods.items c.in_ok-begin.ensures.holds.methods (λ k x is. is) c.args.hands.now c.begin.new.asked.items c.begin.new.found.items c.begin.new.queue.items c.in_ok-begin.ensures.holds

pub returns-clause-holds : goal.returns-clause-holds
returns-clause-holds g c = c.in_ok-meet_all.ensures.step.holds

pub returns-clause-meets : goal.returns-clause-meets
returns-clause-meets g c = meets_then c.args.f.now c.args.hands.now c.args.hands.now c.meet_all.new.hands c.args.asked.now.items c.begin.new.asked.items c.meet_all.new.asked.items c.args.found.now.items c.begin.new.found.items c.meet_all.new.found.items c.in_ok-begin.ensures.meets c.in_ok-meet_all.ensures.step.meets

pub returns-clause-own : goal.returns-clause-own
returns-clause-own g c = c.in_ok-meet_all.ensures.step.meets.more c.args.e (subst (λ (ys : List ExitId). Contains ys c.args.e) (sym c.in_ok-begin.ensures.asked) (here c.args.e []))

pub returns-clause-known : goal.returns-clause-known
returns-clause-known g c = λ d k. elim (c.in_ok-meet_all.ensures.step.known d k) [ inl a ↦ inl a | inr t ↦ inr (c.in_ok-meet_all.ensures.step.holds.hands.known d t.0 t.1) ]

pub returns-clause-wanting : goal.returns-clause-wanting
returns-clause-wanting g c = subst (λ (ys : List ExitId). AreWanting (λ d. g.R.Rows.surely c.args.rows.now d c.args.mode) ys c.meet_all.new.asked.items) c.in_ok-begin.ensures.asked c.in_ok-meet_all.ensures.step.wanting
