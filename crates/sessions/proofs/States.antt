-- What commands do to what a session was told, and to the slice that it keeps.
use Rattle.std.proofs.Common.{◌≡◌, ◌≢◌, ◌⊎◌, ◌↔◌, ◌∙◌, ℕ, List, [], Contains, Option, Some, None, inl, inr, refl, sym, ap, subst}
use Rattle.std.specs.Prelude.{IfSome}
use Rattle.std.proofs.lemmas.List.Elements.{All-contains}
use Rattle.slicer_ids.specs.declared.ids.MethodId.{MethodId}
use Rattle.slicer_ids.specs.declared.ids.NodeId.{NodeId}
use Rattle.slicer_ids.specs.declared.ids.Statement.{Statement}
use Rattle.dep_form.specs.declared.access.Access.{Access}
use Rattle.dep_form.specs.declared.facts.Facts.{Facts}
use Rattle.dep_form.specs.LookUps.{IsMethodNamed, IsStatement, IsAccessAt}
use Rattle.dep_form.specs.Slices.{NodesOf}
use Rattle.script.specs.declared.command.Place.{Place}
use Rattle.script.specs.declared.command.Command.{Command}
use Rattle.script.specs.declared.command.Command.TheVariants as command
use Rattle.report.specs.declared.reply.CommandError.{CommandError}
use Rattle.report.specs.Replies.{Answer}
use Rattle.session_form.specs.Places.{NamesStatement, NamesNone, no_class, no_method, no_statement, IsAccess, NamesAccess, NamesNoAccess, no_place, no_access}
use Rattle.session_form.specs.States.{State, at_first, SeedNodes}
use Rattle.session_form.specs.Answers.{Answers, seeds, seeds_line, resets, expands, expands_all, slices, slices_full, lists_lines, explains, refuses_seed, refuses_line, refuses_expansion, refuses_first, refuses_second, refuses_slice, refuses_full, refuses_lines}
use Rattle.session_form.proofs.OneAnswer.{one_class, one_named_method, one_named, one_access}
use Rattle.session_state.specs.declared.told.Told.{Told}
use Rattle.session_state.specs.declared.told.Told.TheVariants.{Same, Other, Refused}
use Rattle.session_state.specs.Telling.{TellsSeeds}
use Rattle.widening.specs.Widened.{seeds_of}
use Rattle.sessions.specs.declared.widened.Widened.{Widened}
use Rattle.sessions.specs.Widened.{IsOfState, IsKeptOf, KeepsSlice}
use Rattle.sessions.specs.Sessions.{IsStateOf}
use Rattle.sessions.specs.Answering.{IsKeptBySeeds, left_by}
use Rattle.sessions.proofs.Listing.{nothing}
use Rattle.sessions.proofs.Widening.{no_order}

module _ (f : Facts) where
  -- ---- the state after a command is one too
  opened : (before after : List Statement) (s : Statement) (a : Access) → ((t : Statement) → Contains before t → IsAccess f t) → IsAccessAt f s a → ((t : Statement) → Contains after t → Contains before t ⊎ (t ≡ s))
      → (t : Statement) → Contains after t → IsAccess f t
  opened before after s a had at from t c = elim (from t c) [ inl h ↦ had t h | inr e ↦ subst (IsAccess f) (sym e) (a, at) ]

  pub state_after : (st st' : State) (c : Command) (a : Answer) → Answers f st c a st' → IsStateOf f st → IsStateOf f st'
  state_after _ _ _ _ (seeds n g) h = record { seeds = g.order; expanded = h.expanded; accesses = h.accesses }
  state_after _ _ _ _ (seeds_line n at some g) h = record { seeds = g.order; expanded = h.expanded; accesses = h.accesses }
  state_after _ _ _ _ resets h = record { seeds = no_order [] refl; expanded = no_order [] refl; accesses = λ s c. absurd (nothing [] s refl c) }
  state_after st _ _ _ (expands {s} {a} {after = ys} n g) h = record {
    seeds = h.seeds;
    expanded = g.order;
    accesses = opened st.expanded ys s a h.accesses n.1 (λ t c. All-contains (λ u. Contains st.expanded u ⊎ (u ≡ s)) ys t g.each c);
  }
  state_after _ _ _ _ (expands_all {after = ys} g) h = record { seeds = h.seeds; expanded = g.order; accesses = λ s c. All-contains (IsAccess f) ys s g.each c }
  state_after _ _ _ _ (slices some g) h = h
  state_after _ _ _ _ (slices_full some g) h = h
  state_after _ _ _ _ (lists_lines some g) h = h
  state_after _ _ _ _ (explains n m g) h = h
  state_after _ _ _ _ (refuses_seed n) h = h
  state_after _ _ _ _ (refuses_line n) h = h
  state_after _ _ _ _ (refuses_expansion n) h = h
  state_after _ _ _ _ (refuses_first n) h = h
  state_after _ _ _ _ (refuses_second n m) h = h
  state_after _ _ _ _ (refuses_slice n) h = h
  state_after _ _ _ _ (refuses_full n) h = h
  state_after _ _ _ _ (refuses_lines n) h = h

  -- ---- what stays expanded
  abbrev pub Stays : State → State → Type 0
  Stays st st' = (s : Statement) → Contains st.expanded s → Contains st'.expanded s

  pub seed_stays : (st st' : State) (p : Place) (a : Answer) → Answers f st (command.Seed p) a st' → Stays st st'
  seed_stays _ _ _ _ (seeds n g) s c = c
  seed_stays _ _ _ _ (refuses_seed n) s c = c

  pub line_stays : (st st' : State) (name : List ℕ) (line : ℕ) (a : Answer) → Answers f st (command.SeedLine name line) a st' → Stays st st'
  line_stays _ _ _ _ _ (seeds_line n at some g) s c = c
  line_stays _ _ _ _ _ (refuses_line n) s c = c

  pub expand_stays : (st st' : State) (p : Place) (a : Answer) → Answers f st (command.Expand p) a st' → Stays st st'
  expand_stays _ _ _ _ (expands n g) s c = g.whole s (inl c)
  expand_stays _ _ _ _ (refuses_expansion n) s c = c

  pub expand_seeds : (st st' : State) (p : Place) (a : Answer) → Answers f st (command.Expand p) a st' → st'.seeds ≡ st.seeds
  expand_seeds _ _ _ _ (expands n g) = refl
  expand_seeds _ _ _ _ (refuses_expansion n) = refl

  pub all_stay : (st st' : State) (a : Answer) → IsStateOf f st → Answers f st command.ExpandAll a st' → Stays st st'
  all_stay _ _ _ h (expands_all g) s c = g.whole s (h.accesses s c)

  pub all_seeds : (st st' : State) (a : Answer) → Answers f st command.ExpandAll a st' → st'.seeds ≡ st.seeds
  all_seeds _ _ _ (expands_all g) = refl

  -- ---- what is kept is of the state after it
  pub kept_same : (st st' : State) (kept : Option Widened) → IsKeptOf f st kept → st'.seeds ≡ st.seeds → Stays st st' → IsKeptOf f st' kept
  kept_same st st' None h e on = tt
  kept_same st st' (Some w) h e on = record {
    of_seeds = record { widened = h.of_seeds.widened; seeds = subst (λ (ss : List Statement). (n : NodeId) → Contains (seeds_of w.wide) n ↔ NodesOf f.inputs (Contains ss) n) (sym e) h.of_seeds.seeds };
    within = λ s c. on s (h.within s c);
  }

  pub kept_told : (st st' : State) (t : Told) (kept kept' : Option Widened) → IsKeptOf f st kept → TellsSeeds t st st' → kept' ≡ left_by t kept → Stays st st' → IsKeptOf f st' kept'
  kept_told st st' t kept kept' h tells e on = subst (IsKeptOf f st') (sym e) (by_cases t tells)
    where
      by_cases : (u : Told) → TellsSeeds u st st' → IsKeptOf f st' (left_by u kept)
      by_cases Same is = kept_same st st' kept h is on
      by_cases Other is = tt
      by_cases (Refused x) is = kept_same st st' kept h is on

  -- ---- a place names an access or none
  not_both : (p : Place) (s : Statement) (e : CommandError) → NamesStatement f p s → NamesNone f p e → ⊥
  not_both p s _ a (no_class h) = h a.0.0 a.0.1
  not_both p s _ a (no_method c q n) = n s.method (subst (λ x. IsMethodNamed f x p.name p.descriptor s.method) (one_class f p.class a.0.0 c a.0.1 q) a.0.2)
  not_both p s _ a (no_statement m q n) =
      n (subst (IsStatement f) (ap (λ (x : MethodId). record { method = x; pc = s.pc }) (one_named_method f p s.method m a.0 q)
      ∙ ap (λ (k : ℕ). record { method = m; pc = k }) a.1) a.2)

  pub not_both_accesses : (p : Place) (s : Statement) (a : Access) (e : CommandError) → NamesAccess f p s a → NamesNoAccess f p e → ⊥
  not_both_accesses p s a _ h (no_place {e} g) = not_both p s e h.0 g
  not_both_accesses p s a _ h (no_access t b n) = n (subst (IsAccess f) (one_named f p s t h.0 b) (a, h.1))

  pub one_named_access : (p : Place) (s t : Statement) (a b : Access) → NamesAccess f p s a → NamesAccess f p t b → a ≡ b
  one_named_access p s t a b h g = one_access f s a b h.1 (subst (λ x. IsAccessAt f x b) (sym (one_named f p s t h.0 g.0)) g.1)

-- ---- what is kept, by what was told
pub left_seeds : (st st' : State) (t : Told) (kept kept' : Option Widened) → TellsSeeds t st st' → kept' ≡ left_by t kept → IsKeptBySeeds st st' kept kept'
left_seeds st st' Same kept kept' tells e = record { same = λ _. e; other = λ n. absurd (n tells) }
left_seeds st st' Other kept kept' tells e = record { same = λ s. absurd (tells s); other = λ _. e }
left_seeds st st' (Refused x) kept kept' tells e = record { same = λ _. e; other = λ n. absurd (n tells) }

pub left_same : (st st' : State) (t : Told) (kept kept' : Option Widened) → TellsSeeds t st st' → st'.seeds ≡ st.seeds → kept' ≡ left_by t kept → kept' ≡ kept
left_same st st' Same kept kept' tells s e = e
left_same st st' Other kept kept' tells s e = absurd (tells s)
left_same st st' (Refused x) kept kept' tells s e = e

pub keeps_itself : (kept : Option Widened) → KeepsSlice kept kept
keeps_itself kept before e = (before, e, λ s c. c)
