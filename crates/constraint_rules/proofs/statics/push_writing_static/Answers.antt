use Rattle.std.proofs.Common.{◌⊎◌, List, sym, ◌∙◌, subst}
use Rattle.std.specs.Prelude.{Contains, ◌↔◌}
use Rattle.std.proofs.lemmas.Bool.{false≢true}
use Rattle.std.proofs.lemmas.Result.{on_ok_weaker}
use Rattle.dep_form.specs.declared.rules.Var.{Var}
use Rattle.class_form.specs.Opcodes.{IsPutStatic}
use Rattle.constraint_rules.specs.Statements.{IsStaticNumber}
use Rattle.constraint_form.specs.Rules.{IsDefined}
use Rattle.constraint_rules.specs.Settings.{place_of}
use Rattle.constraint_rules.proofs.OfKind.{grown_by_kind, grown_by_no_kind}
use Rattle.constraint_rules.proofs.FormParts.{copies_grown}
use Rattle.constraint_rules.proofs.statics.push_writing_static.Goals as goal

pub returns-then-not-is_put_static : goal.returns-then-not-is_put_static
returns-then-not-is_put_static c = λ p s names set placed.
    grown_by_no_kind c.args.t.now c.args.x.now p s names set placed (IsPutStatic) _ c.args.rules.now.items (λ is. false≢true (sym c.if-not-is_put_static.true ∙ c.is_put_static.ensures.1 is))

pub returns : goal.returns
returns c = λ p s names set placed.
    let at = place_of c.args.x.now in
    let defined = c.in_ok-from.ensures p s names c.args.x.now.instr.now set.has set.of.read placed.at in
    on_ok_weaker c.push_copies.result (λ g. grown_by_kind c.args.t.now c.args.x.now p s names set placed (IsPutStatic) _ c.args.rules.now.items c.push_copies.new.rules.items (c.is_put_static.ensures.0 c.if-not-is_put_static.false)
    (copies_grown (Contains c.as_slice.result.now) (IsDefined p s names at 0) (IsStaticNumber p s at) _ c.static_number.result c.args.rules.now.items c.push_copies.new.rules.items
    (subst (λ (xs : List Var). (x : Var) → Contains xs x ↔ IsDefined p s names at 0 x) (sym c.as_slice.ensures.value) defined) (c.static_number.ensures p s names set placed) g)) c.push_copies.ensures
