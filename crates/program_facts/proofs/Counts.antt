-- How many nodes the rows of a program have.
use Rattle.std.proofs.Common.{◌≡◌, ◌≤◌, ℕ, List, length, Contains, refl, sym, subst, arith}
use Rattle.std.proofs.lemmas.List.Elements.{All-contains}
use Rattle.dep_form.proofs.Sizes.{no_longer}
use Rattle.dep_form.specs.Summaries.{HasSize}
use Rattle.dep_form.specs.declared.system.System.{System}
use Rattle.dep_form.specs.Making.{IsMadeOf}
use Rattle.dep_form.specs.declared.effects.ModRef.{ModRef}
use Rattle.dep_form.specs.declared.facts.Facts.{Facts}
use Rattle.slicer_ids.specs.declared.ids.MethodId.{MethodId}
use Rattle.fact_form.specs.FactTables.{AreFactTables, IsFactSystem, Parts, parts_of}
use Rattle.fact_form.specs.Handed.{IsProgramWith}
use Rattle.class_form.specs.declared.class_file.ClassFile.{ClassFile}
use Rattle.class_form.specs.declared.body.Body.{Body}
use Rattle.program_form.specs.Programs.{Program}

-- a set has no more members than it is said to have
pub few_of : {A : Type 0} (P : A → Type 0) (n k most : ℕ) → HasSize P n → HasSize P k → k ≤ most → n ≤ most
few_of P n k most (xs, listed, e) (ys, all, f) le =
    omega (arith, e, f, le, no_longer xs ys listed.once (λ x c. all.whole x (All-contains P xs x listed.each c)))

-- the program with its own classes
pub as_own : (classes : List ClassFile) (bodies : List Body) (s : System) (p : Program) → IsProgramWith classes bodies s p → IsProgramWith p.classes bodies s p
as_own classes bodies s p of = record { classes_are = refl; bodies_are = of.bodies_are; asked = of.asked; coded = of.coded; constraints = of.constraints }

-- facts that are made of parts have them
same_parts : (a b : Parts) → a.inputs ≡ b.inputs → a.exits ≡ b.exits → a.classes ≡ b.classes → a.methods ≡ b.methods → a.sites ≡ b.sites → a.lines ≡ b.lines → a.accesses ≡ b.accesses → a.values ≡ b.values → a ≡ b
same_parts a b i e c m s l x v = rw (← i, ← e, ← c, ← m, ← s, ← l, ← x, ← v) refl

pub parts_are : (f : Facts) (t : Parts) → IsMadeOf t.inputs t.exits t.classes t.methods t.sites t.lines t.accesses t.values f → parts_of f ≡ t
parts_are f t made = same_parts (parts_of f) t made.inputs_are made.exits_are made.classes_are made.methods_are made.sites_are made.lines_are made.accesses_are made.values_are

-- .. so they are the facts of the program
pub facts_are : (p : Program) (s : System) (mr : ModRef) (entries : List MethodId) (f : Facts) (t : Parts) → parts_of f ≡ t → AreFactTables p s mr entries t → IsFactSystem p s mr f
facts_are p s mr entries f t e are = (entries, subst (λ (z : Parts). AreFactTables p s mr entries z) (sym e) are)
