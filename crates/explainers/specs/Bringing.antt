-- Sites in other lists, and statements whose value may be one of some objects.
use Rattle.std.specs.Prelude.{◌≡◌, ◌⊎◌, ◌++◌, ◌∷◌, [], List, Contains}
use Rattle.slicer_ids.specs.declared.ids.SiteId.{SiteId}
use Rattle.slicer_ids.specs.declared.ids.Statement.{Statement}
use Rattle.dep_form.specs.declared.facts.Facts.{Facts}
use Rattle.dep_form.specs.Explaining.{IsValueSite}

-- it is the site, which is in the other list
abbrev pub IsOneIn : List SiteId → SiteId → SiteId → Type 0
IsOneIn others site h = Contains others site × (h ≡ site)

-- the value of the statement may be one of the objects
abbrev pub HasOneOf : Facts → List SiteId → Statement → Type 0
HasOneOf f objects s = (h : SiteId) × Contains objects h × IsValueSite f s h

-- the item was added at the end where P holds of it
abbrev pub IsKept : {A : Type 0} → (A → Type 0) → A → List A → List A → Type 0
IsKept P x old new = (P x × (new ≡ old ++ x ∷ [])) ⊎ ((P x → ⊥) × (new ≡ old))
