use Rattle.std.proofs.Common.{◌≡◌, ◌≢◌, ℕ, Bool, false, sym, subst, ◌∙◌, inl, inr}
use Rattle.std.specs.Prelude.{◌↔◌, IsTrue}
use Rattle.std.proofs.lemmas.Bool.{cases_eq, false≢true}
use Rattle.slicer_ids.specs.declared.ids.ExitId.{ExitId}
use Rattle.slicer_ids.specs.declared.ids.Mode.{Mode}
use Rattle.dep_form.specs.declared.facts.Facts.{Facts}
use Rattle.summary_memo.specs.declared.view.View.{View}
use Rattle.summary_memo.specs.Memo.{view_of, facts_of}
use Rattle.summary_memo.specs.Rule.{Knows, LooksOnce, FoundOpen}
use Rattle.summary_memo.proofs.Knowing.{knows_all}
use Rattle.summary_memo.proofs.memo.Memo.row_with.Goals as goal

-- a look that answered false found the gate open
found_open : (b : Bool) (v u w : View) (own f : Facts) (e : ExitId) (mode : Mode) → own ≡ f → b ≡ false → (found : ℕ) × (IsTrue b ↔ (found ≢ 0)) × LooksOnce v own e mode found u → Knows u w → FoundOpen v f e mode w
found_open b v u w own f e mode is refused (found, tells, once) more = elim (cases_eq found 0) [
  | inl zero_is ↦ (u, subst (λ (n : ℕ). LooksOnce v f e mode n u) zero_is (subst (λ (g : Facts). LooksOnce v g e mode found u) is once), more)
  | inr shut ↦ absurd (false≢true (sym refused ∙ tells.1 shut))
]

pub returns-in_err-make-clause-knows : goal.returns-in_err-make-clause-knows
returns-in_err-make-clause-knows g c = knows_all (view_of c.args.seat.now) (view_of c.look.new.seat) (view_of c.make.new.seat) c.look.ensures.knows c.make.ensures.knows

pub returns-in_err-make-clause-open : goal.returns-in_err-make-clause-open
returns-in_err-make-clause-open g c = λ _. found_open c.look.result (view_of c.args.seat.now) (view_of c.look.new.seat) (view_of c.make.new.seat) (facts_of c.args.self.now) c.args.f.now c.args.e c.args.mode c.requires.facts c.if-look.false c.look.ensures.looked c.make.ensures.knows

pub returns-clause-knows : goal.returns-clause-knows
returns-clause-knows g c = knows_all (view_of c.args.seat.now) (view_of c.look.new.seat) (view_of c.make.new.seat) c.look.ensures.knows c.make.ensures.knows

pub returns-clause-open : goal.returns-clause-open
returns-clause-open g c = λ _. found_open c.look.result (view_of c.args.seat.now) (view_of c.look.new.seat) (view_of c.make.new.seat) (facts_of c.args.self.now) c.args.f.now c.args.e c.args.mode c.requires.facts c.if-look.false c.look.ensures.looked c.make.ensures.knows
