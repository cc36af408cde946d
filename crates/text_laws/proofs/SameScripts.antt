-- A script has one text, whichever facts of the program it is asked of.
use Rattle.std.proofs.Common.{◌≡◌, ◌++◌, ℕ, Bool, true, false, List, [], ◌∷◌, refl, sym, ap, ◌∙◌}
use Rattle.std.specs.Prelude.{All}
use Rattle.std.specs.List.{flat_map}
use Rattle.std.proofs.Math.Logic.{∥∥₁_elim}
use Rattle.std.proofs.Props.{props}
use Rattle.class_form.specs.ClassRules.{IsClassFile}
use Rattle.dep_form.specs.declared.facts.Facts.{Facts}
use Rattle.program_form.specs.Programs.{Program}
use Rattle.program_form.specs.Graphs.{Numbering, AreFactsOf}
use Rattle.program_code.specs.Codes.{IsProgramOfCode}
use Rattle.constraint_form.specs.Asked.{IsReadProgram}
use Rattle.fact_form.proofs.Listing.{listed}
use Rattle.report.specs.Replies.{Answer, text}
use Rattle.session_form.specs.States.{State}
use Rattle.session_form.specs.Scripts.{AreReplies, none, blank, refused, answered, closing, IsScriptText}
use Rattle.session_form.proofs.OfFacts.{of_facts}
use Rattle.session_form.proofs.OneScript.{one_text}
use Rattle.text_laws.proofs.TwoFacts.{AreOfOne}
use Rattle.text_laws.proofs.SameAnswers.{answers_there}
use Rattle.text_laws.proofs.SameTexts.{text_same}

module _ (f g : Facts) where
  -- each answer has one text
  abbrev HaveOneText : List Answer → Type 0
  HaveOneText [] = Unit {0}
  HaveOneText (a ∷ rest) = (text f a ≡ text g a) × HaveOneText rest

  together : (xs : List Answer) → HaveOneText xs → flat_map (text f) xs ≡ flat_map (text g) xs
  together [] all = refl
  together (a ∷ rest) all = ap (λ z. z ++ flat_map (text f) rest) all.0 ∙ ap (λ z. text g a ++ z) (together rest all.1)

  closed : (xs : List Answer) (c : Bool) → HaveOneText xs → HaveOneText (xs ++ closing c)
  closed [] false all = tt
  closed [] true all = (refl, tt)
  closed (a ∷ rest) c all = (all.0, closed rest c all.1)

module _ (p : Program) (ns ms : Numbering) (f g : Facts) (o : AreOfOne p ns ms f g) where
  replies_there : {st last : State} {ls : List (List ℕ)} {rs : List Answer} → AreReplies f st ls rs last → AreReplies g st ls rs last
  replies_there none = none
  replies_there (blank trims says rest) = blank trims says (replies_there rest)
  replies_there (refused trims says why rest) = refused trims says why (replies_there rest)
  replies_there (answered trims says answer rest) = answered trims says (answers_there p ns ms f g o answer) (replies_there rest)

  texts_there : {st last : State} {ls : List (List ℕ)} {rs : List Answer} → AreReplies f st ls rs last → HaveOneText f g rs
  texts_there none = tt
  texts_there (blank trims says rest) = texts_there rest
  texts_there (refused trims says why rest) = (refl, texts_there rest)
  texts_there (answered {a} trims says answer rest) = (text_same p ns ms f g o a (of_facts f (listed p ns f o.first) answer), texts_there rest)

  script_there : (script a : List ℕ) → IsScriptText f script a → IsScriptText g script a
  script_there script a (answers, are, spells) = (
    answers,
    record {
      is_cut = are.is_cut;
      lines = are.lines;
      replies = are.replies;
      last = are.last;
      are_lines = are.are_lines;
      are_replies = replies_there are.are_replies;
      all = are.all;
    },
    spells ∙ ap (flat_map (text f)) are.all ∙ together f g (are.replies ++ closing are.is_cut) (closed f g are.replies are.is_cut (texts_there are.are_replies))
        ∙ ap (flat_map (text g)) (sym are.all),
  )

pub one_text_of_program : (p : Program) (ns ms : Numbering) (f g : Facts) (script a b : List ℕ) → IsReadProgram p → IsProgramOfCode p → All IsClassFile p.classes →
    AreFactsOf p ns f → AreFactsOf p ms g → IsScriptText f script a → IsScriptText g script b → a ≡ b
one_text_of_program p ns ms f g script a b asked coded files first second x y =
    ∥∥₁_elim f.sound (hlevel props) (λ keeps. ∥∥₁_elim g.sound (hlevel props) (λ keeps_too.
    one_text g script a b (script_there p ns ms f g (record { known = record { asked = asked; coded = coded; files = files }; first = first; second = second; keeps = keeps; keeps_too = keeps_too }) script a x) y))
