-- Look-ups among rows that lie in memory.
use Rattle.std.proofs.Common.{◌≡◌, ◌+◌, ◌<◌, ◌∙◌, ◌++◌, ◌∷◌, [], ℕ, List, length, get_or, take, Contains, Option, Some, None, inl, inr, sym, subst}
use Rattle.std.specs.Prelude.{MatchOption}
use Rattle.std.proofs.lemmas.List.{take_more}
use Rattle.std.proofs.lemmas.List.Elements.{Contains-push_cases}
use Rattle.slicer_ids.specs.declared.ids.ExitId.{ExitId}
use Rattle.slicer_ids.specs.declared.ids.Mode.{Mode}
use Rattle.tabulate.specs.declared.table.Table.{Table}
use Rattle.tabulate.specs.OwnRows.{HasRow, IsRowOf}

pub match_map : {A : Type 0} (P P' : Type 0) (Q Q' : A → Type 0) (o : Option A) → (P → P') → ((x : A) → Q x → Q' x) → MatchOption o P Q → MatchOption o P' Q'
match_map P P' Q Q' None p q m = p m
match_map P P' Q Q' (Some x) p q m = q x m

-- one table more that hasn't the row
pub none_more : (e : ExitId) (mode : Mode) (tables : List Table) (i : ℕ) (x : Table) → i < length tables → x ≡ get_or tables i x → ((row : List ℕ) → HasRow (take i tables) e mode row → ⊥) → ((row : List ℕ) → IsRowOf x e mode row → ⊥) → (row : List ℕ) → HasRow (take (i + 1) tables) e mode row → ⊥
none_more e mode tables i x lt is old new row (t, c, h) = elim (Contains-push_cases (take i tables) (get_or tables i x) t (subst (λ (ys : List Table). Contains ys t) (take_more tables i x lt) c)) [
  | inl o ↦ old row (t, o, h)
  | inr same ↦ new row (subst (λ (y : Table). IsRowOf y e mode row) (sym (is ∙ same)) h)
]

-- a table was added
pub row_added : (P : ExitId → Mode → List ℕ → Type 0) (tables tables' : List Table) (t : Table) → tables' ≡ tables ++ t ∷ [] → ((e : ExitId) (mode : Mode) (row : List ℕ) → HasRow tables e mode row → P e mode row) → ((e : ExitId) (row : List ℕ) → Contains t.rows (e, row) → P e t.mode row) → (e : ExitId) (mode : Mode) (row : List ℕ) → HasRow tables' e mode row → P e mode row
row_added P tables tables' t grown old new e mode row (x, c, (is, h)) = elim (Contains-push_cases tables t x (subst (λ (ys : List Table). Contains ys x) grown c)) [
  | inl o ↦ old e mode row (x, o, (is, h))
  | inr same ↦ subst (λ (m : Mode). P e m row) is (subst (λ (y : Table). P e y.mode row) same (new e row (subst (λ (y : Table). Contains y.rows (e, row)) (sym same) h)))
]
