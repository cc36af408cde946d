-- Sites that are gathered.
use Rattle.std.proofs.Common.{◌≡◌, ◌⊎◌, ◌↔◌, ◌<◌, ◌++◌, List, Contains, Option, Some, None, inl, inr, sym, ap, subst, ◌∙◌, ℕ, refl}
use Rattle.std.specs.Prelude.{MatchOption, AllPairs}
use Rattle.std.proofs.lemmas.List.Elements.{All-contains}
use Rattle.std.proofs.lemmas.Option.{same_Some}
use Rattle.class_form.proofs.Indices.{index_in, there_at}
use Rattle.class_form.specs.Reaches.{AreDefsAt, DefBefore, IsReachOf}
use Rattle.class_form.specs.Reaching.{HoldsAt}
use Rattle.class_form.specs.declared.body.Def.{Def}
use Rattle.class_form.specs.declared.body.SlotUse.{SlotUse}
use Rattle.dep_form.specs.declared.rules.Var.{Var}
use Rattle.dep_form.specs.declared.system.System.{System}
use Rattle.fact_form.proofs.ItemLists.{all_of, join_left, join_right, joined}
use Rattle.mod_ref.specs.Gains.{Gains}
use Rattle.slicer_ids.specs.Order.{SiteBefore}
use Rattle.slicer_ids.specs.Sets.{IsOrderedListOf}
use Rattle.slicer_ids.specs.declared.ids.SiteId.{SiteId}
use Rattle.worklists.specs.Growth.{FromOne}
use Rattle.value_tables.specs.Methods.{FoundHas, IsMethod, IsVarOf, VarHas}
use Rattle.class_form.specs.declared.body.Point.{Point}
use Rattle.program_form.specs.Values.{PassesOn}
use Rattle.value_tables.specs.Values.{DefHas, OperandHas, PassedHas, SlotHas}
use Rattle.value_tables.specs.declared.method.Method.{Method}

pub gains_all_of : {A : Type 0} (old new more : List A) (P : A → Type 0) → ((x : A) → Contains more x ↔ P x) → new ≡ old ++ more → Gains old new P
gains_all_of {A} old new more P is e x = (
  λ c.
      let i = index_in (old ++ more) x (subst (λ (xs : List A). Contains xs x) e c) in
      elim (joined old more i.0 x i.1) [ inl h ↦ inl (there_at old i.0 x h) | inr w ↦ inr ((is x).0 (there_at more w.0 x w.2)) ],
  λ h. subst (λ (xs : List A). Contains xs x) (sym e) (elim h [
    | inl o ↦ let i = index_in old x o in there_at (old ++ more) i.0 x (join_left old more i.0 x i.1)
    | inr p ↦ let i = index_in more x ((is x).1 p) in there_at (old ++ more) _ x (join_right old more i.0 _ x refl i.1)
  ]),
)

pub found_has : (s : System) (o : Option Var) (v : Var) → o ≡ Some v → (h : SiteId) → VarHas s v h ↔ FoundHas s o h
found_has s o v is h = (λ g. (v, is, g), λ (w, e, g). subst (λ (x : Var). VarHas s x h) (same_Some w v (sym e ∙ is)) g)

pub def_has : (x : Method) (d : Def) (o : Option Var) → ((v : Var) → (o ≡ Some v) ↔ IsVarOf x.vars.now d v) → (h : SiteId) → FoundHas x.system.now o h ↔ DefHas x d h
def_has x d o is h = (λ (v, e, g). (v, (is v).0 e, g), λ (v, e, g). (v, (is v).1 e, g))

pub slot_has : (x : Method) (pc slot : ℕ) (defs : List Def) → IsReachOf x.body.now.shape x.body.now.reach → AreDefsAt x.body.now.reach pc slot defs → (h : SiteId) → FromOne (DefHas x) defs h ↔ SlotHas x pc slot h
slot_has x pc slot defs reach are h =
    let o = reach pc slot defs are in (
      λ (d, among, g). (d, All-contains (HoldsAt x.body.now.shape pc slot) defs d o.each among, g),
      λ (d, holds, g). (d, o.whole d holds, g),
    )

-- WHAT IS PASSED ON

abbrev PassesOne : ℕ → Option ℕ → Type 0
PassesOne op o = MatchOption o ((n : ℕ) → PassesOn n op → ⊥) (λ i. PassesOn i op × ((n : ℕ) → PassesOn n op → n ≡ i))

pub some_passed : (x : Method) (q : Point) (o : Option ℕ) (i : ℕ) → o ≡ Some i → PassesOne q.op o → (h : SiteId) → OperandHas x q i h ↔ PassedHas x q h
some_passed x q o i e is h =
    let w : PassesOne q.op (Some i) = subst (PassesOne q.op) e is in (
      λ has. (i, w.0, has),
      λ (n, passes, has). subst (λ (k : ℕ). OperandHas x q k h) (w.1 n passes) has,
    )

pub none_passed : (x : Method) (q : Point) (o : Option ℕ) → o ≡ None → PassesOne q.op o → (h : SiteId) → PassedHas x q h → ⊥
none_passed x q o e is h (n, passes, has) =
    let w : PassesOne q.op None = subst (PassesOne q.op) e is in
    w n passes

-- IN ORDER

pub listed_in_order : (all sorted : List SiteId) (P : SiteId → Type 0) → ((h : SiteId) → Contains all h ↔ P h) → AllPairs SiteBefore sorted → ((h : SiteId) → Contains sorted h ↔ Contains all h) → IsOrderedListOf SiteBefore sorted P
listed_in_order all sorted P is order same = record {
  each = all_of P sorted (λ k h at. (is h).0 ((same h).0 (there_at sorted k h at)));
  order = order;
  whole = λ h p. (same h).1 ((is h).1 p);
}
