-- What the one facts answer the others do.
use Rattle.slicer_ids.specs.Order.{StatementBefore}
use Rattle.dep_form.specs.declared.facts.Facts.{Facts}
use Rattle.program_form.specs.Programs.{Program}
use Rattle.program_form.specs.Graphs.{Numbering}
use Rattle.script.specs.declared.command.Command.{Command}
use Rattle.report.specs.declared.reply.LinePlace.{LinePlace}
use Rattle.report.specs.Replies.{Answer}
use Rattle.session_form.specs.Places.{IsAccess}
use Rattle.session_form.specs.States.{State, LineBefore, InSlice, InFullSlice, IsLineOfSlice}
use Rattle.session_form.specs.Answers.{Answers, seeds, seeds_line, resets, expands, expands_all, slices, slices_full, lists_lines, explains, refuses_seed, refuses_line, refuses_expansion, refuses_first, refuses_second, refuses_slice, refuses_full, refuses_lines}
use Rattle.text_laws.proofs.TwoFacts.{AreOfOne, turned}
use Rattle.text_laws.proofs.SameSlices.{in_slice_there, in_full_there}
use Rattle.text_laws.proofs.SameNames.{class_there, line_there, at_line_there}
use Rattle.text_laws.proofs.SamePlaces.{names_statement, names_none, is_access, names_access, no_accesses, no_lines}
use Rattle.text_laws.proofs.SameExplanations.{listed_by, explanation_there}

line_of_slice : (p : Program) (ns ms : Numbering) (f g : Facts) → AreOfOne p ns ms f g → (st : State) (l : LinePlace) → IsLineOfSlice f st l → IsLineOfSlice g st l
line_of_slice p ns ms f g o st l (s, slice, method, line) = (s, in_slice_there p ns ms f g o st s slice, method, line_there p ns ms f g o s l.line line)

module _ (p : Program) (ns ms : Numbering) (f g : Facts) (o : AreOfOne p ns ms f g) where
  pub answers_there : {st next : State} {c : Command} {a : Answer} → Answers f st c a next → Answers g st c a next
  answers_there (seeds {p = q} {s} named gains) = seeds (names_statement p ns ms f g o q s named) gains
  answers_there (seeds_line {name} {line} {c} {ss} named at some gains) =
      seeds_line (class_there p ns ms f g o name c named) (at_line_there p ns ms f g o name c line ss named at) some gains
  answers_there resets = resets
  answers_there (expands {p = q} {s} {a} named gains) = let b = names_access p ns ms f g o q s a named in expands b.1 gains
  answers_there (expands_all {after} all) =
      expands_all (listed_by StatementBefore (IsAccess f) (IsAccess g) after (is_access p ns ms f g o) (is_access p ms ns g f (turned p ns ms f g o)) all)
  answers_there (slices {st} {ss} some all) =
      slices some (listed_by StatementBefore (InSlice f st) (InSlice g st) ss (in_slice_there p ns ms f g o st) (in_slice_there p ms ns g f (turned p ns ms f g o) st) all)
  answers_there (slices_full {st} {ss} some all) =
      slices_full some (listed_by StatementBefore (InFullSlice f st) (InFullSlice g st) ss (in_full_there p ns ms f g o st) (in_full_there p ms ns g f (turned p ns ms f g o) st) all)
  answers_there (lists_lines {st} {ls} some all) =
      lists_lines some (listed_by LineBefore (IsLineOfSlice f st) (IsLineOfSlice g st) ls (line_of_slice p ns ms f g o st) (line_of_slice p ms ns g f (turned p ns ms f g o) st) all)
  answers_there (explains {p = q} {q = r} {s} {t} {a} {b} {x} first second is) =
      let c = names_access p ns ms f g o q s a first in
      let d = names_access p ns ms f g o r t b second in
      explains c.1 d.1 (explanation_there p ns ms f g o s t a b c.0 d.0 x first.1 second.1 c.1.1 d.1.1 is)
  answers_there (refuses_seed {p = q} {e} none) = refuses_seed (names_none p ns ms f g o q e none)
  answers_there (refuses_line {name} {line} {e} none) = refuses_line (no_lines p ns ms f g o name line e none)
  answers_there (refuses_expansion {p = q} {e} none) = refuses_expansion (no_accesses p ns ms f g o q e none)
  answers_there (refuses_first {p = q} {e} none) = refuses_first (no_accesses p ns ms f g o q e none)
  answers_there (refuses_second {p = q} {q = r} {s} {a} {e} named none) =
      let b = names_access p ns ms f g o q s a named in
      refuses_second b.1 (no_accesses p ns ms f g o r e none)
  answers_there (refuses_slice none) = refuses_slice none
  answers_there (refuses_full none) = refuses_full none
  answers_there (refuses_lines none) = refuses_lines none
