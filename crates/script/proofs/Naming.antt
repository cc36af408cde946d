-- The names of commands.
use Rattle.std.proofs.Common.{◌≡◌, ◌∙◌, ◌↔◌, ℕ, Bool, false, List, refl, sym}
use Rattle.std.proofs.lemmas.Bool.{false≢true}
use Rattle.std.specs.Prelude.{codes, IsTrue}
use Rattle.slicer_ids.specs.Escapes.{StandsFor}
use Rattle.script.specs.Commands.{Takes, seed, seed_line, reset, expand, expand_all, slice, full, lines, explain, IsUnknown}

pub names_none : (word : List ℕ) → (StandsFor word (codes "seed") → ⊥) → (StandsFor word (codes "seedline") → ⊥) → (StandsFor word (codes "reset") → ⊥)
    → (StandsFor word (codes "slice") → ⊥) → (StandsFor word (codes "full") → ⊥) → (StandsFor word (codes "lines") → ⊥) → (StandsFor word (codes "expand") → ⊥)
    → (StandsFor word (codes "expand-all") → ⊥) → (StandsFor word (codes "explain") → ⊥) → IsUnknown word
names_none word s sl r l f n e a x name k ns seed h = s h
names_none word s sl r l f n e a x name k ns seed_line h = sl h
names_none word s sl r l f n e a x name k ns reset h = r h
names_none word s sl r l f n e a x name k ns slice h = l h
names_none word s sl r l f n e a x name k ns full h = f h
names_none word s sl r l f n e a x name k ns lines h = n h
names_none word s sl r l f n e a x name k ns expand h = e h
names_none word s sl r l f n e a x name k ns expand_all h = a h
names_none word s sl r l f n e a x name k ns explain h = x h

pub takes_one : {name : List ℕ} {n m : ℕ} {ps qs : List ℕ} → Takes name n ps → Takes name m qs → (n ≡ m) × (ps ≡ qs)
takes_one seed seed = (refl, refl)
takes_one seed_line seed_line = (refl, refl)
takes_one reset reset = (refl, refl)
takes_one expand expand = (refl, refl)
takes_one expand_all expand_all = (refl, refl)
takes_one slice slice = (refl, refl)
takes_one full full = (refl, refl)
takes_one lines lines = (refl, refl)
takes_one explain explain = (refl, refl)

-- what a test that failed says
pub refuted : {P : Type 0} (r : Bool) → r ≡ false → IsTrue r ↔ P → P → ⊥
refuted r e h p = false≢true (sym e ∙ h.1 p)
