-- What an answer leaves of a session, by the parts that it changed.
use Rattle.std.proofs.Common.{◌≡◌, ◌≢◌, ◌⊎◌, ◌↔◌, ℕ, List, [], Contains, Option, Some, None, Ok, Err, inl, inr, refl, sym, subst}
use Rattle.slicer_ids.specs.declared.ids.NoMemory.{NoMemory}
use Rattle.slicer_ids.specs.declared.ids.Mode.TheVariants.{Thin, Full}
use Rattle.slicer_ids.specs.declared.ids.NodeId.{NodeId}
use Rattle.slicer_ids.specs.declared.ids.Statement.{Statement}
use Rattle.slicer_ids.specs.Order.{StatementBefore}
use Rattle.slicer_ids.specs.Sets.{IsOrderedListOf}
use Rattle.dep_form.specs.declared.facts.Facts.{Facts}
use Rattle.dep_form.specs.Slices.{Nothing, StatementsOf}
use Rattle.script.specs.declared.command.Command.{Command}
use Rattle.script.specs.declared.command.Command.TheVariants as command
use Rattle.graph_store.specs.declared.pass.GraphPass.{GraphPass}
use Rattle.graph_store.specs.Store.{IsPassOf, HasInputsOf, Keeps}
use Rattle.summary_memo.specs.declared.memo.MemoSeat.{MemoSeat}
use Rattle.summary_memo.specs.declared.view.View.{View}
use Rattle.summary_memo.specs.Memo.{view_of, IsSeatOf}
use Rattle.summary_memo.specs.Rule.{Knows}
use Rattle.session_form.specs.States.{State, SeedNodes, InSlice, InFullSlice}
use Rattle.session_form.specs.Answers.{Answers}
use Rattle.session_slices.specs.declared.finder.SliceFinder.{SliceFinder}
use Rattle.session_slices.specs.Needs.{SliceOf}
use Rattle.session_slices.specs.Rooms.{IsFinderOf, statements_in}
use Rattle.sessions.specs.declared.kept.Kept.{Kept}
use Rattle.sessions.specs.declared.widened.Widened.{Widened}
use Rattle.sessions.specs.declared.shared.Shared.{Shared}
use Rattle.sessions.specs.declared.session.Session.{Session}
use Rattle.sessions.specs.Keeping.{answer_kept}
use Rattle.sessions.specs.Needed.{HasForReply, HasRowsForReply, IsPlain, TakesNoMemory}
use Rattle.sessions.specs.Turns.{TakesTurns}
use Rattle.sessions.specs.Widened.{IsKeptOf, accesses_in, AreAllIn, KeepsSlice}
use Rattle.sessions.specs.Sessions.{IsStateOf, IsSessionOf}
use Rattle.sessions.specs.Answering.{IsWide, AsksWide, LeavesKept, IsKeptBySlice, IsAnswered}
use Rattle.sessions.proofs.Listing.{nothing}
use Rattle.sessions.proofs.Widening.{itself, statements_to}
use Rattle.sessions.proofs.States.{keeps_itself}

pub pass_itself : (p : GraphPass) → Keeps p p
pass_itself p = record { known = λ m x k. k; given = λ m x k. k }

pub view_itself : (v : View) → Knows v v
view_itself v = record { about = refl; bits = λ x c. c; gates = λ x c. c }

module _ (sh : Shared) (s : Session) (h : IsSessionOf sh s) (c : Command) (n : ℕ) where
  -- ---- a command that looks for nothing
  pub told_ok : (st : State) (w : Option Widened) (k : Kept) → IsStateOf sh.facts st → IsKeptOf sh.facts st w → Answers sh.facts s.state c (answer_kept (statements_in s.finder) k) st
      → HasForReply sh.facts s.state c s.pass (view_of s.seat) → (AsksWide s.state c → ⊥) → LeavesKept c s.state st s.widened w
      → IsAnswered sh c (Ok k) s (record s { state = st; widened = w }) n n
  told_ok st w k is kept answer needed plain leaves = record {
    session = record { state = is; widened = kept; finder = h.finder; pass = h.pass; inputs = h.inputs; seat = h.seat };
    keeps = pass_itself s.pass;
    knows = view_itself (view_of s.seat);
    answer = answer;
    unchanged = tt;
    kept = tt;
    needed = needed;
    had = λ _ _. refl;
    rows = λ _ _. refl;
    free = λ _ _. (k, refl);
    turns = λ wide. absurd (plain wide);
    leaves = leaves;
  }

  -- .. and is given up
  pub told_none : (st : State) (e : NoMemory) → st ≡ s.state → (TakesNoMemory s.state c → ⊥) → IsAnswered sh c (Err e) s (record s { state = st }) n n
  told_none st e same no_free = record {
    session = record {
      state = subst (IsStateOf sh.facts) (sym same) h.state;
      widened = subst (λ (z : State). IsKeptOf sh.facts z s.widened) (sym same) h.widened;
      finder = h.finder;
      pass = h.pass;
      inputs = h.inputs;
      seat = h.seat;
    };
    keeps = pass_itself s.pass;
    knows = view_itself (view_of s.seat);
    answer = tt;
    unchanged = same;
    kept = keeps_itself s.widened;
    needed = tt;
    had = λ _ _. refl;
    rows = λ _ _. refl;
    free = λ f _. absurd (no_free f);
    turns = tt;
    leaves = tt;
  }

  -- ---- a command that finds a slice without expansions, or a full one
  module _ (x : SliceFinder) (p : GraphPass) (t : MemoSeat) (m : ℕ) (finder : IsFinderOf sh.facts x) (pass : IsPassOf sh.store.cells.items p) (inputs : HasInputsOf sh.facts p) (seat : IsSeatOf sh.memo t) (keeps : Keeps s.pass p)
      (knows : Knows (view_of s.seat) (view_of t)) (had : IsPlain s.state c → HasForReply sh.facts s.state c s.pass (view_of s.seat) → m ≡ n) (rows : IsPlain s.state c → HasRowsForReply sh.facts s.state c (view_of s.seat) → m ≡ n) where
    pub found_ok : (k : Kept) → Answers sh.facts s.state c (answer_kept (statements_in x) k) s.state → HasForReply sh.facts s.state c p (view_of t) → (AsksWide s.state c → ⊥) → LeavesKept c s.state s.state s.widened s.widened
        → IsAnswered sh c (Ok k) s (record s { finder = x; pass = p; seat = t }) n m
    found_ok k answer needed plain leaves = record {
      session = record { state = h.state; widened = h.widened; finder = finder; pass = pass; inputs = inputs; seat = seat };
      keeps = keeps;
      knows = knows;
      answer = answer;
      unchanged = tt;
      kept = tt;
      needed = needed;
      had = had;
      rows = rows;
      free = λ _ _. (k, refl);
      turns = λ wide. absurd (plain wide);
      leaves = leaves;
    }

    pub found_none : (e : NoMemory) → (TakesNoMemory s.state c → HasForReply sh.facts s.state c s.pass (view_of s.seat) → ⊥) → IsAnswered sh c (Err e) s (record s { finder = x; pass = p; seat = t }) n m
    found_none e no_free = record {
      session = record { state = h.state; widened = h.widened; finder = finder; pass = pass; inputs = inputs; seat = seat };
      keeps = keeps;
      knows = knows;
      answer = tt;
      unchanged = refl;
      kept = keeps_itself s.widened;
      needed = tt;
      had = had;
      rows = rows;
      free = λ f needed. absurd (no_free f needed);
      turns = tt;
      leaves = tt;
    }

  -- ---- a command that finds a slice with expansions
  module _ (p : GraphPass) (w : Option Widened) (m : ℕ) (kept : IsKeptOf sh.facts s.state w) (pass : IsPassOf sh.store.cells.items p) (inputs : HasInputsOf sh.facts p) (keeps : Keeps s.pass p) (slice : KeepsSlice s.widened w)
      (wide : IsPlain s.state c → ⊥) (no_free : TakesNoMemory s.state c → ⊥) where
    pub widened_ok : (k : Kept) → Answers sh.facts s.state c (answer_kept (statements_in s.finder) k) s.state → HasForReply sh.facts s.state c p (view_of s.seat)
        → TakesTurns sh.facts (Contains s.state.expanded) (SeedNodes sh.facts s.state) (accesses_in s.widened) n m → LeavesKept c s.state s.state s.widened w
        → IsAnswered sh c (Ok k) s (record s { pass = p; widened = w }) n m
    widened_ok k answer needed turns leaves = record {
      session = record { state = h.state; widened = kept; finder = h.finder; pass = pass; inputs = inputs; seat = h.seat };
      keeps = keeps;
      knows = view_itself (view_of s.seat);
      answer = answer;
      unchanged = tt;
      kept = tt;
      needed = needed;
      had = λ plain _. absurd (wide plain);
      rows = λ plain _. absurd (wide plain);
      free = λ _ _. (k, refl);
      turns = λ _. turns;
      leaves = leaves;
    }

    pub widened_none : (e : NoMemory) → IsAnswered sh c (Err e) s (record s { pass = p; widened = w }) n m
    widened_none e = record {
      session = record { state = h.state; widened = kept; finder = h.finder; pass = pass; inputs = inputs; seat = h.seat };
      keeps = keeps;
      knows = view_itself (view_of s.seat);
      answer = tt;
      unchanged = refl;
      kept = slice;
      needed = tt;
      had = λ plain _. absurd (wide plain);
      rows = λ plain _. absurd (wide plain);
      free = λ f _. absurd (no_free f);
      turns = tt;
      leaves = tt;
    }

-- ---- what is plain
pub none_expanded_by : (st : State) → (st.seeds ≡ []) ⊎ (st.expanded ≡ []) → st.seeds ≢ [] → st.expanded ≡ []
none_expanded_by st (inl e) some = absurd (some e)
none_expanded_by st (inr e) some = e

pub not_wide : (st : State) → (st.seeds ≡ []) ⊎ (st.expanded ≡ []) → IsWide st → ⊥
not_wide st (inl e) w = w.seeded e
not_wide st (inr e) w = w.expanded e

pub plain_leaves : (st : State) (w : Option Widened) → ((st.seeds ≡ []) ⊎ (st.expanded ≡ [])) → IsKeptBySlice st w w
plain_leaves st w plain = record { wide = λ wide. absurd (not_wide st plain wide); plain = λ _. refl }

pub wide_leaves : (st : State) (w w' : Option Widened) → IsWide st → AreAllIn st.expanded w' → IsKeptBySlice st w w'
wide_leaves st w w' wide all = record { wide = λ _. all; plain = λ no. absurd (no wide) }

-- the thin slice is the one with the expansions, where there are none
pub thin_is : (f : Facts) (st : State) (ss : List Statement) → st.expanded ≡ [] → IsOrderedListOf StatementBefore ss (StatementsOf f.inputs (SliceOf f Thin (SeedNodes f st))) → IsOrderedListOf StatementBefore ss (InSlice f st)
thin_is f st ss none is = statements_to f Nothing (Contains st.expanded) (λ s. (λ bad. absurd bad, λ c. absurd (nothing st.expanded s none c))) (SeedNodes f st) (SeedNodes f st) (itself (SeedNodes f st)) ss is

pub full_is : (f : Facts) (st : State) (ss : List Statement) → IsOrderedListOf StatementBefore ss (StatementsOf f.inputs (SliceOf f Full (SeedNodes f st))) → IsOrderedListOf StatementBefore ss (InFullSlice f st)
full_is f st ss is = is
