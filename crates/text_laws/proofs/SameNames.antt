-- Names, statements and lines are the same.
use Rattle.std.proofs.Common.{◌≡◌, ◌<◌, ℕ, List, [], length, Option, Some, sym, ap, subst, ◌∙◌, inl, inr, arith}
use Rattle.std.specs.Prelude.{slice_get}
use Rattle.std.proofs.lemmas.Option.{same_Some, slice_get_within}
use Rattle.std.proofs.lemmas.List.Elements.{All-contains}
use Rattle.slicer_ids.specs.Order.{StatementBefore}
use Rattle.slicer_ids.specs.declared.ids.ClassId.{ClassId}
use Rattle.slicer_ids.specs.declared.ids.MethodId.{MethodId}
use Rattle.slicer_ids.specs.declared.ids.Statement.{Statement}
use Rattle.slicer_ids.proofs.Ordered.{one_ordered}
use Rattle.class_form.specs.Classes.{Declared, IsMethod}
use Rattle.class_form.specs.Numbers.{IsThere}
use Rattle.class_form.specs.declared.class_file.ClassFile.{ClassFile}
use Rattle.class_form.specs.declared.class_file.Member.{Member}
use Rattle.class_form.proofs.Indices.{index_at, there_at}
use Rattle.dep_form.specs.declared.texts.MethodText.{MethodText}
use Rattle.dep_form.specs.declared.facts.Facts.{Facts}
use Rattle.dep_form.specs.LookUps.{IsClassNamed, IsMethodNamed, IsStatement, HasLine, AreAtLine}
use Rattle.program_form.specs.Programs.{Program, MethodOf, ClassOf}
use Rattle.program_form.specs.Effects.{IsStatement as IsOfProgram}
use Rattle.program_form.specs.Lines.{IsLineOf}
use Rattle.program_form.specs.Graphs.{Numbering}
use Rattle.session_form.specs.Places.{NamesNoLine, no_such_class, no_such_line}
use Rattle.session_form.proofs.OneAnswer.{one_class, statements_asym}
use Rattle.session_form.proofs.SomePlaces.{line_told}
use Rattle.report.specs.declared.reply.CommandError.{CommandError}
use Rattle.text_laws.proofs.TwoFacts.{AreOfOne}

-- what the facts say of a method besides its lines is the same
pub record AlikeTexts (t u : MethodText) : Type 0 where
  pub class : t.class ≡ u.class
  pub name : t.name ≡ u.name
  pub descriptor : t.descriptor ≡ u.descriptor

module _ (p : Program) (ns ms : Numbering) (f g : Facts) (o : AreOfOne p ns ms f g) where
  -- CLASSES AND METHODS

  pub class_there : (name : List ℕ) (c : ClassId) → IsClassNamed f name c → IsClassNamed g name c
  class_there name c at =
      let k = index_at p.classes c.0 (omega (arith, slice_get_within f.classes c.0 name at, o.first.class_count)) in
      let x = o.first.classes c.0 k.0 k.1 in
      let y = o.second.classes c.0 k.0 k.1 in
      let one : y.0 ≡ name = same_Some y.0 name (sym y.1 ∙ x.1 ∙ sym x.2 ∙ at) in
      y.2 ∙ ap (λ (z : List ℕ). Some z) one

  abbrev HasMethod : MethodId → Type 0
  HasMethod m = (d : Declared) × (x : Member) × (name : List ℕ) × (descriptor : List ℕ) × MethodOf p m d x name descriptor

  method_at : (m : MethodId) → m.0 < length p.methods → HasMethod m
  method_at m lt =
      let d = index_at p.methods m.0 lt in
      let x = All-contains (IsThere (IsMethod p.classes)) p.methods d.0 o.known.coded.methods.each (there_at p.methods m.0 d.0 d.1) in
      (d.0, x.0, x.1, x.2, (d.1, x.3))

  class_id : (a b : ClassId) → a.0 ≡ b.0 → a ≡ b
  class_id a b e = ap (λ k. record { 0 = k }) e

  pub text_there : (m : MethodId) (t : MethodText) → slice_get f.methods m.0 ≡ Some t → (u : MethodText) × (slice_get g.methods m.0 ≡ Some u) × AlikeTexts t u
  text_there m t at =
      let d = method_at m (omega (arith, slice_get_within f.methods m.0 t at, f.root, o.first.methods)) in
      let x = o.first.texts m d.0 d.1 d.2 d.3 d.4 in
      let y = o.second.texts m d.0 d.1 d.2 d.3 d.4 in
      let one : x.0 ≡ t = same_Some x.0 t (sym x.1 ∙ at) in (
        y.0,
        y.1,
        record {
          class = class_id t.class y.0.class (ap (λ (z : MethodText). z.class.0) (sym one) ∙ x.2 ∙ sym y.2);
          name = ap (λ (z : MethodText). z.name) (sym one) ∙ x.3 ∙ sym y.3;
          descriptor = ap (λ (z : MethodText). z.descriptor) (sym one) ∙ x.4 ∙ sym y.4;
        },
      )

  pub method_there : (c : ClassId) (name descriptor : List ℕ) (m : MethodId) → IsMethodNamed f c name descriptor m → IsMethodNamed g c name descriptor m
  method_there c name descriptor m (t, at, in_class, named, typed) =
      let u = text_there m t at in
      (u.0, u.1, sym u.2.class ∙ in_class, sym u.2.name ∙ named, sym u.2.descriptor ∙ typed)

  -- STATEMENTS AND LINES

  pub statement_there : (s : Statement) → IsStatement f s → IsStatement g s
  statement_there s is = (o.second.statements s).0 ((o.first.statements s).1 is)

  pub line_there : (s : Statement) (line : Option ℕ) → HasLine f s line → HasLine g s line
  line_there s line (t, at, (k, x, here, pc, is)) =
      let listed : IsOfProgram p s = (o.first.statements s).1 (t, at, (k, x, here, pc)) in
      (o.second.lines s line listed).1 ((o.first.lines s line listed).0 (t, at, (k, x, here, pc, is)))

  -- the statements at a line of the program
  abbrev IsAt : ClassId → ℕ → Statement → Type 0
  IsAt c line s = IsOfProgram p s × IsLineOf p s (Some line) × ((k : ClassFile) × ClassOf p s.method c.0 k)

  listed_there : (name : List ℕ) (c : ClassId) (line : ℕ) → IsClassNamed g name c → (ss : List Statement) × AreAtLine g c line ss
  listed_there name c line named = elim (line_told g name line) [
    | inl (d, ss, is, at, some) ↦ (ss, subst (λ z. AreAtLine g z line ss) (one_class g name d c is named) at)
    | inr (e, none) ↦ by_reason e none
  ]
    where
      by_reason : (e : CommandError) → NamesNoLine g name line e → (ss : List Statement) × AreAtLine g c line ss
      by_reason _ (no_such_class never) = absurd (never c named)
      by_reason _ (no_such_line d is at) = ([], subst (λ z. AreAtLine g z line []) (one_class g name d c is named) at)

  pub at_line_there : (name : List ℕ) (c : ClassId) (line : ℕ) (ss : List Statement) → IsClassNamed f name c → AreAtLine f c line ss → AreAtLine g c line ss
  at_line_there name c line ss named at =
      let ts = listed_there name c line (class_there name c named) in
      let one : ts.0 ≡ ss = one_ordered StatementBefore (IsAt c line) ts.0 ss (λ a b x y. statements_asym a b) (o.second.at_lines c line ts.0 ts.1) (o.first.at_lines c line ss at) in
      subst (AreAtLine g c line) one ts.1
