-- What commands do that tell a session something.
use Rattle.std.proofs.Common.{◌≡◌, ◌≢◌, ◌⊎◌, ◌<◌, ◌≤◌, ◌+◌, Bool, true, false, ℕ, List, [], Contains, length, inl, inr, refl, sym, ap, subst, arith}
use Rattle.std.specs.Prelude.{◌||◌, if◌then◌else◌}
use Rattle.slicer_ids.specs.declared.ids.ClassId.{ClassId}
use Rattle.slicer_ids.specs.declared.ids.Statement.{Statement}
use Rattle.slicer_ids.specs.Sets.{IsOrderedListOf}
use Rattle.slicer_ids.specs.Order.{StatementBefore}
use Rattle.dep_form.specs.declared.access.Access.{Access}
use Rattle.dep_form.specs.declared.facts.Facts.{Facts}
use Rattle.dep_form.specs.LookUps.{IsClassNamed, AreAtLine}
use Rattle.script.specs.declared.command.Place.{Place}
use Rattle.script.specs.declared.command.Command.TheVariants as command
use Rattle.report.specs.Replies.{Done}
use Rattle.session_form.specs.Places.{NamesStatement, NamesAccess, IsAccess}
use Rattle.session_form.specs.States.{State, Gains, at_first}
use Rattle.session_form.specs.Answers.{Answers, seeds, seeds_line, expands, expands_all, resets}
use Rattle.session_state.specs.declared.told.Told.{Told}
use Rattle.session_state.specs.declared.told.Told.TheVariants.{Same, Other}
use Rattle.session_state.specs.Telling.{answer_of}

pub neither : (a b : Bool) → (a || b) ≡ false → (a ≡ false) × (b ≡ false)
neither true b e = absurd cc
neither false b e = (refl, e)

pub one_of : (a b : Bool) → (a || b) ≡ true → (a ≡ true) ⊎ (b ≡ true)
one_of true b e = inl refl
one_of false b e = inr e

pub no_less : (xs ys : List Statement) (b : Bool) → (b ≡ false → ys ≡ xs) → (b ≡ true → length ys ≡ length xs + 1) → length xs ≤ length ys
no_less xs ys false same more = omega (arith, ap length (same refl))
no_less xs ys true same more = omega (arith, more refl)

done : (b : Bool) (t : Told) → t ≡ (if b then Other else Same) → answer_of t ≡ Done
done true t e = ap answer_of e
done false t e = ap answer_of e

module _ (f : Facts) (st : State) (ss xs : List Statement) (is : ◌≡◌ {A = State} (record { seeds = ss; expanded = xs }) st) where
  pub seeded : (p : Place) (s : Statement) (after : List Statement) (b : Bool) (t : Told) → NamesStatement f p s → Gains ss (λ u. u ≡ s) after → t ≡ (if b then Other else Same)
      → Answers f st (command.Seed p) (answer_of t) (record { seeds = after; expanded = xs })
  seeded p s after b t n g e =
      subst (λ a. Answers f st (command.Seed p) a (record { seeds = after; expanded = xs })) (sym (done b t e))
      (subst (λ z. Answers f z (command.Seed p) Done (record { seeds = after; expanded = xs })) is (seeds n g))

  pub seeded_line : (name : List ℕ) (line : ℕ) (c : ClassId) (found after : List Statement) (b : Bool) (t : Told) → IsClassNamed f name c → AreAtLine f c line found → found ≢ []
      → Gains ss (Contains found) after → t ≡ (if b then Other else Same) → Answers f st (command.SeedLine name line) (answer_of t) (record { seeds = after; expanded = xs })
  seeded_line name line c found after b t n l some g e =
      subst (λ a. Answers f st (command.SeedLine name line) a (record { seeds = after; expanded = xs })) (sym (done b t e))
      (subst (λ z. Answers f z (command.SeedLine name line) Done (record { seeds = after; expanded = xs })) is (seeds_line n l some g))

  pub expanded_one : (p : Place) (s : Statement) (a : Access) (after : List Statement) → NamesAccess f p s a → Gains xs (λ u. u ≡ s) after
      → Answers f st (command.Expand p) Done (record { seeds = ss; expanded = after })
  expanded_one p s a after n g = subst (λ z. Answers f z (command.Expand p) Done (record { seeds = ss; expanded = after })) is (expands n g)

  pub expanded_all : (after : List Statement) → IsOrderedListOf StatementBefore after (IsAccess f) → Answers f st command.ExpandAll Done (record { seeds = ss; expanded = after })
  expanded_all after all = subst (λ z. Answers f z command.ExpandAll Done (record { seeds = ss; expanded = after })) is (expands_all all)

pub nothing_told : (f : Facts) (st : State) (ss xs : List Statement) → ss ≡ [] → xs ≡ [] → Answers f st command.Reset Done (record { seeds = ss; expanded = xs })
nothing_told f st ss xs e g =
    subst (λ ys. Answers f st command.Reset Done (record { seeds = ys; expanded = xs })) (sym e) (subst (λ ys. Answers f st command.Reset Done (record { seeds = []; expanded = ys })) (sym g) resets)
