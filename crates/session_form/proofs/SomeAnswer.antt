-- A command isn't without an answer.
use Rattle.std.proofs.Common.{◌≡◌, ◌≢◌, ◌⊎◌, ◌++◌, ℕ, zero, suc, List, [], ◌∷◌, map, Contains, Some, refl, sym, ap, subst, inl, inr, arith}
use Rattle.std.specs.Prelude.{slice_get}
use Rattle.std.proofs.lemmas.Bool.{cases_eq}
use Rattle.std.proofs.lemmas.List.Elements.{Contains-append_left, Contains-append_right, Contains-append_cases}
use Rattle.slicer_ids.specs.Order.{StatementBefore, SiteBefore}
use Rattle.slicer_ids.specs.Sets.{IsOrderedListOf}
use Rattle.slicer_ids.specs.declared.ids.SiteId.{SiteId}
use Rattle.slicer_ids.specs.declared.ids.Statement.{Statement}
use Rattle.slicer_ids.proofs.Ordered.{Contains-cons_cases}
use Rattle.dep_form.specs.declared.access.Access.{Access}
use Rattle.dep_form.specs.declared.access.Explanation.{Explanation}
use Rattle.dep_form.specs.declared.facts.Facts.{Facts}
use Rattle.dep_form.specs.Explaining.{IsExplanation, Brings}
use Rattle.script.specs.declared.command.Command.{Command}
use Rattle.script.specs.declared.command.Command.TheVariants as command
use Rattle.report.specs.Replies.{Answer}
use Rattle.session_form.specs.Places.{IsAccess}
use Rattle.session_form.specs.States.{State, Gains, LineBefore, InSlice, InFullSlice, IsLineOfSlice}
use Rattle.session_form.specs.Answers.{Answers, seeds, seeds_line, resets, expands, expands_all, slices, slices_full, lists_lines, explains, refuses_seed, refuses_line, refuses_expansion, refuses_first, refuses_second, refuses_slice, refuses_full, refuses_lines}
use Rattle.slicer_ids.proofs.Ordering.{Decided, in_order}
use Rattle.session_form.proofs.Orders.{site_first, site_trans, statement_first, statement_trans, line_first, line_trans}
use Rattle.session_form.proofs.Candidates.{statements, is_there, lines, line_there, decided}
use Rattle.session_form.proofs.SomePlaces.{statement_told, access_told, line_told}

-- a list in order of the statements for which P holds, which are among those of a list
statements_of : (P : Statement → Type 0) (xs : List Statement) → ((x : Statement) → Contains xs x → Decided (P x)) → ((x : Statement) → P x → Contains xs x)
    → (ys : List Statement) × IsOrderedListOf StatementBefore ys P
statements_of P xs decide among = in_order StatementBefore statement_trans statement_first P xs decide among

-- one statement more, and the statements of a list more
with_one : (before : List Statement) (s : Statement) → (after : List Statement) × Gains before (λ t. t ≡ s) after
with_one before s =
    statements_of (λ t. Contains before t ⊎ (t ≡ s)) (s ∷ before) (λ x c. inl (elim (Contains-cons_cases s x before c) [ inl e ↦ inr (sym e) | inr old ↦ inl old ]))
    (λ x h. elim h [ inl old ↦ (suc old.0, omega (arith, old.1), old.2) | inr e ↦ (0, omega arith, sym e) ])

with_more : (before ss : List Statement) → (after : List Statement) × Gains before (Contains ss) after
with_more before ss =
    statements_of (λ t. Contains before t ⊎ Contains ss t) (before ++ ss) (λ x c. inl (Contains-append_cases before ss x c))
    (λ x h. elim h [ inl old ↦ Contains-append_left before ss x old | inr new ↦ Contains-append_right before ss x new ])

-- whether a site is in a list
listed_site : (hs : List SiteId) (h : SiteId) → Decided (Contains hs h)
listed_site [] h = inr (λ c. absurd (omega (arith, c.1)))
listed_site (x ∷ hs) h = elim (cases_eq x.0 h.0) [
  | inl e ↦ inl (0, omega arith, ap (λ n. record { 0 = n }) e)
  | inr other ↦ elim (listed_site hs h) [
    | inl c ↦ inl (suc c.0, omega (arith, c.1), c.2)
    | inr never ↦ inr (λ c. elim (Contains-cons_cases x h hs c) [ inl e ↦ other (ap (λ (y : SiteId). y.0) e) | inr more ↦ never more ])
  ]
]

abbrev Shared : Access → Access → SiteId → Type 0
Shared a b h = Contains a.sites h × Contains b.sites h

shared : (a b : Access) (h : SiteId) → Contains a.sites h → Decided (Shared a b h)
shared a b h c = elim (listed_site b.sites h) [ inl d ↦ inl (c, d) | inr never ↦ inr (λ e. never e.1) ]

module _ (f : Facts) where
  -- the accesses
  access_among : (xs : List (Statement × Access)) → ((k : ℕ) (x : Statement × Access) → slice_get xs k ≡ Some x → IsAccess f x.0) → (s : Statement) → Contains (map (λ x. x.0) xs) s → IsAccess f s
  access_among [] each s c = absurd (omega (arith, c.1))
  access_among (x ∷ xs) each s c = elim (Contains-cons_cases x.0 s (map (λ x. x.0) xs) c) [ inl e ↦ subst (IsAccess f) e (each 0 x refl) | inr more ↦ access_among xs (λ k y e. each (suc k) y e) s more ]

  there_at : (xs : List (Statement × Access)) (k : ℕ) (x : Statement × Access) → slice_get xs k ≡ Some x → Contains (map (λ x. x.0) xs) x.0
  there_at [] k x e = absurd (cc e)
  there_at (y ∷ xs) zero x e = (0, omega arith, cc e)
  there_at (y ∷ xs) (suc k) x e = let c = there_at xs k x e in (suc c.0, omega (arith, c.1), c.2)

  all_accesses : (after : List Statement) × IsOrderedListOf StatementBefore after (IsAccess f)
  all_accesses =
      statements_of (IsAccess f) (map (λ x. x.0) f.accesses) (λ x c. inl (access_among f.accesses (λ k y e. (y.1, (k, e))) x c)) (λ x h. there_at f.accesses h.1.0 (x, h.0) h.1.1)

  -- a set of statements that have nodes isn't without a list
  not_without : (P : Statement → Type 0) → ((s : Statement) → P s → Contains (statements f) s) → ((ss : List Statement) → IsOrderedListOf StatementBefore ss P → ⊥) → ⊥
  not_without P among none = decided P (statements f) (λ decide. let ss = statements_of P (statements f) decide among in none ss.0 ss.1)

  module _ (st : State) where
    abbrev HasNoAnswer : Command → Type 0
    HasNoAnswer c = (a : Answer) (next : State) → Answers f st c a next → ⊥

    not_without_slice : (st.seeds ≢ []) → HasNoAnswer command.Slice → ⊥
    not_without_slice some none = not_without (InSlice f st) (λ s h. is_there f h.0 s h.2) (λ ss is. none _ _ (slices some is))

    not_without_full : (st.seeds ≢ []) → HasNoAnswer command.Full → ⊥
    not_without_full some none = not_without (InFullSlice f st) (λ s h. is_there f h.0 s h.2) (λ ss is. none _ _ (slices_full some is))

    not_without_lines : (st.seeds ≢ []) → HasNoAnswer command.Lines → ⊥
    not_without_lines some none = decided (IsLineOfSlice f st) (lines f) (λ decide.
        let ls = in_order LineBefore line_trans line_first (IsLineOfSlice f st) (lines f) decide (λ l h. line_there f l h.0 h.2 h.3) in
        none _ _ (lists_lines some ls.1))

    not_without_explanation : (a b : Access) → ((x : Explanation) → IsExplanation f a b x → ⊥) → ⊥
    not_without_explanation a b none =
        let (hs, objects) = in_order SiteBefore site_trans site_first (Shared a b) a.sites (shared a b) (λ h c. c.0) in
        not_without (Brings f a hs) (λ s h. is_there f h.0.0 s h.0.2) (λ left lefts. not_without (Brings f b hs) (λ s h. is_there f h.0.0 s h.0.2) (λ right rights.
        none (record { objects = hs; left = left; right = right }) (record { objects = objects; left = lefts; right = rights })))

    no_seeds : (ss : List Statement) → (ss ≡ []) ⊎ (ss ≢ [])
    no_seeds [] = inl refl
    no_seeds (s ∷ ss) = inr (λ e. absurd (cc e))

    pub not_left_out : (c : Command) → c ≢ command.Blank → HasNoAnswer c → ⊥
    not_left_out command.Blank some none = some refl
    not_left_out (command.Seed p) some none = elim (statement_told f p) [
      | inl s ↦ let g = with_one st.seeds s.0 in none _ _ (seeds s.1 g.1)
      | inr e ↦ none _ _ (refuses_seed e.1)
    ]
    not_left_out (command.SeedLine name line) some none = elim (line_told f name line) [
      | inl (c, ss, is, at, few) ↦ let g = with_more st.seeds ss in none _ _ (seeds_line is at few g.1)
      | inr e ↦ none _ _ (refuses_line e.1)
    ]
    not_left_out command.Reset some none = none _ _ resets
    not_left_out (command.Expand p) some none = elim (access_told f p) [
      | inl (s, a, n) ↦ let g = with_one st.expanded s in none _ _ (expands n g.1)
      | inr e ↦ none _ _ (refuses_expansion e.1)
    ]
    not_left_out command.ExpandAll some none = none _ _ (expands_all all_accesses.1)
    not_left_out command.Slice some none = elim (no_seeds st.seeds) [ inl e ↦ none _ _ (refuses_slice e) | inr more ↦ not_without_slice more none ]
    not_left_out command.Full some none = elim (no_seeds st.seeds) [ inl e ↦ none _ _ (refuses_full e) | inr more ↦ not_without_full more none ]
    not_left_out command.Lines some none = elim (no_seeds st.seeds) [ inl e ↦ none _ _ (refuses_lines e) | inr more ↦ not_without_lines more none ]
    not_left_out (command.Explain p q) some none = elim (access_told f p) [
      | inr e ↦ none _ _ (refuses_first e.1)
      | inl (s, a, n) ↦ elim (access_told f q) [
        | inr e ↦ none _ _ (refuses_second n e.1)
        | inl (t, b, m) ↦ not_without_explanation a b (λ x is. none _ _ (explains n m is))
      ]
    ]
