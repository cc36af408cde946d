use Rattle.std.proofs.Common.{List, sym, ◌∙◌, subst}
use Rattle.std.specs.Prelude.{Contains, ◌↔◌}
use Rattle.std.proofs.lemmas.Bool.{false≢true}
use Rattle.std.proofs.lemmas.Result.{on_ok_weaker}
use Rattle.dep_form.specs.declared.rules.Var.{Var}
use Rattle.class_form.specs.Opcodes.{IsCheckCast}
use Rattle.constraint_form.specs.Rules.{IsDefined}
use Rattle.constraint_rules.specs.Settings.{place_of}
use Rattle.constraint_rules.specs.Statements.{IsKeptBy, IsValue}
use Rattle.constraint_rules.proofs.OfKind.{grown_by_kind, grown_by_no_kind}
use Rattle.constraint_rules.proofs.FormParts.{copies_grown, kept_grown, none_kept}
use Rattle.constraint_rules.proofs.values.push_casting.Goals as goal

pub returns-then-not-is_cast : goal.returns-then-not-is_cast
returns-then-not-is_cast c = λ p s names set placed.
    grown_by_no_kind c.args.t.now c.args.x.now p s names set placed IsCheckCast _ c.args.rules.now.items (λ is. false≢true (sym c.if-not-is_cast.true ∙ c.is_cast.ensures.1 is))

pub returns-in_ok-from-in-Some : goal.returns-in_ok-from-in-Some
returns-in_ok-from-in-Some c = λ p s names set placed.
    let at = place_of c.args.x.now in
    let defined = c.in_ok-from-in-Some.ensures p s names c.args.x.now.instr.now set.has set.of.read placed.at in
    on_ok_weaker c.push_copies.result (λ g. grown_by_kind c.args.t.now c.args.x.now p s names set placed IsCheckCast _ c.args.rules.now.items c.push_copies.new.rules.items (c.is_cast.ensures.0 c.if-not-is_cast.false)
    (kept_grown (IsKeptBy p at) (IsDefined p s names at 0) (IsValue p s names at) c.in-Some.keep c.args.rules.now.items c.push_copies.new.rules.items (c.in-Some.ensures p s names set placed)
    (copies_grown (Contains c.as_slice.result.now) (IsDefined p s names at 0) (IsValue p s names at) c.in-Some.keep c.value.result c.args.rules.now.items c.push_copies.new.rules.items
    (subst (λ (xs : List Var). (x : Var) → Contains xs x ↔ IsDefined p s names at 0 x) (sym c.as_slice.ensures.value) defined) (c.value.ensures p s names set) g))) c.push_copies.ensures

pub returns-in-None : goal.returns-in-None
returns-in-None c = λ p s names set placed.
    let at = place_of c.args.x.now in
    grown_by_kind c.args.t.now c.args.x.now p s names set placed IsCheckCast _ c.args.rules.now.items c.args.rules.now.items (c.is_cast.ensures.0 c.if-not-is_cast.false)
    (none_kept (IsKeptBy p at) (IsDefined p s names at 0) (IsValue p s names at) c.args.rules.now.items (c.in-None.ensures p s names set placed))
