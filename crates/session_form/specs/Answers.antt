-- The reply to each command, and what the session has been told after it.
use Rattle.std.specs.Prelude.{◌≡◌, ◌≢◌, ℕ, List, [], Contains}
use Rattle.slicer_ids.specs.Sets.{IsOrderedListOf}
use Rattle.slicer_ids.specs.Order.{StatementBefore}
use Rattle.slicer_ids.specs.declared.ids.ClassId.{ClassId}
use Rattle.slicer_ids.specs.declared.ids.Statement.{Statement}
use Rattle.dep_form.specs.declared.access.Access.{Access}
use Rattle.dep_form.specs.declared.access.Explanation.{Explanation}
use Rattle.dep_form.specs.declared.facts.Facts.{Facts}
use Rattle.dep_form.specs.LookUps.{IsClassNamed, AreAtLine}
use Rattle.dep_form.specs.Explaining.{IsExplanation}
use Rattle.script.specs.declared.command.Place.{Place}
use Rattle.script.specs.declared.command.Command.{Command}
use Rattle.script.specs.declared.command.Command.TheVariants as command
use Rattle.report.specs.declared.reply.CommandError.{CommandError}
use Rattle.report.specs.declared.reply.CommandError.TheVariants.{NoSeed}
use Rattle.report.specs.declared.reply.LinePlace.{LinePlace}
use Rattle.report.specs.Replies.{Answer, Done, Statements, Lines, Explained, Error}
use Rattle.session_form.specs.Places.{NamesStatement, NamesNone, IsAccess, NamesAccess, NamesNoAccess, NamesNoLine}
use Rattle.session_form.specs.States.{State, at_first, Gains, LineBefore, InSlice, InFullSlice, IsLineOfSlice}

module _ (f : Facts) where
  -- in a state a command gets an answer, and leads to a state
  pub data Answers : State → Command → Answer → State → Type 0 where
    seeds : {st : State} {p : Place} {s : Statement} {after : List Statement} → NamesStatement f p s → Gains st.seeds (λ t. t ≡ s) after →
        Answers st (command.Seed p) Done (record st { seeds = after })
    seeds_line : {st : State} {name : List ℕ} {line : ℕ} {c : ClassId} {ss after : List Statement} → IsClassNamed f name c → AreAtLine f c line ss →
        ss ≢ [] → Gains st.seeds (Contains ss) after → Answers st (command.SeedLine name line) Done (record st { seeds = after })
    resets : {st : State} → Answers st command.Reset Done at_first
    expands : {st : State} {p : Place} {s : Statement} {a : Access} {after : List Statement} → NamesAccess f p s a → Gains st.expanded (λ t. t ≡ s) after →
        Answers st (command.Expand p) Done (record st { expanded = after })
    expands_all : {st : State} {after : List Statement} → IsOrderedListOf StatementBefore after (IsAccess f) →
        Answers st command.ExpandAll Done (record st { expanded = after })
    slices : {st : State} {ss : List Statement} → st.seeds ≢ [] → IsOrderedListOf StatementBefore ss (InSlice f st) →
        Answers st command.Slice (Statements ss) st
    slices_full : {st : State} {ss : List Statement} → st.seeds ≢ [] → IsOrderedListOf StatementBefore ss (InFullSlice f st) →
        Answers st command.Full (Statements ss) st
    lists_lines : {st : State} {ls : List LinePlace} → st.seeds ≢ [] → IsOrderedListOf LineBefore ls (IsLineOfSlice f st) →
        Answers st command.Lines (Lines ls) st
    explains : {st : State} {p q : Place} {s t : Statement} {a b : Access} {x : Explanation} → NamesAccess f p s a → NamesAccess f q t b →
        IsExplanation f a b x → Answers st (command.Explain p q) (Explained x) st
    -- what is refused leaves the state
    refuses_seed : {st : State} {p : Place} {e : CommandError} → NamesNone f p e → Answers st (command.Seed p) (Error e) st
    refuses_line : {st : State} {name : List ℕ} {line : ℕ} {e : CommandError} → NamesNoLine f name line e →
        Answers st (command.SeedLine name line) (Error e) st
    refuses_expansion : {st : State} {p : Place} {e : CommandError} → NamesNoAccess f p e → Answers st (command.Expand p) (Error e) st
    refuses_first : {st : State} {p q : Place} {e : CommandError} → NamesNoAccess f p e → Answers st (command.Explain p q) (Error e) st
    refuses_second : {st : State} {p q : Place} {s : Statement} {a : Access} {e : CommandError} → NamesAccess f p s a → NamesNoAccess f q e →
        Answers st (command.Explain p q) (Error e) st
    refuses_slice : {st : State} → st.seeds ≡ [] → Answers st command.Slice (Error NoSeed) st
    refuses_full : {st : State} → st.seeds ≡ [] → Answers st command.Full (Error NoSeed) st
    refuses_lines : {st : State} → st.seeds ≡ [] → Answers st command.Lines (Error NoSeed) st
