-- The table of the sites of a program, and the numbers of a statement's sites.
use Rattle.std.specs.Prelude.{◌≡◌, ◌↔◌, ◌<◌, ◌≤◌, ◌+◌, ◌^◌, ◌++◌, ◌||◌, ◌&&◌, nat_lt, nat_eq, ℕ, zero, suc, Bool, true, false, List, [], ◌∷◌, AllPairs, Option, Some, None, MatchOption, length, codes}
use Rattle.slicer_ids.specs.Sets.{IsOrderedListOf}
use Rattle.slicer_ids.specs.declared.ids.ClassId.{ClassId}
use Rattle.slicer_ids.specs.declared.ids.SiteId.{SiteId}
use Rattle.slicer_ids.specs.declared.ids.Statement.{Statement}
use Rattle.slicer_ids.specs.declared.limits.LimitKind.TheVariants.{Sites}
use Rattle.worklists.specs.Growth.{FromOne}
use Rattle.class_form.specs.Classes.{IsNamed, IsOutside}
use Rattle.class_form.specs.declared.class_file.ClassFile.{ClassFile}
use Rattle.class_form.specs.declared.types.FieldType.{FieldType}
use Rattle.class_form.specs.declared.body.Body.{Body}
use Rattle.class_form.specs.declared.body.Point.{Point}
use Rattle.dep_form.specs.declared.rules.SiteInfo.{SiteInfo}
use Rattle.dep_form.specs.declared.rules.TooMany.{TooMany}
use Rattle.dep_form.specs.declared.rules.TooMany.TheVariants.{NoMemory, Limit}
use Rattle.program_form.specs.Programs.{Program}
use Rattle.program_form.specs.Sites.{Site, Made, OfRoot, HasType, SiteBefore, StandsAt, IsArraySite, IsObjectOf}
use Rattle.program_form.specs.Systems.{SiteNumber}
use Rattle.constraint_form.specs.ConstraintSystems.{AreSites}
use Rattle.signature_tables.specs.Programs.{IsOfClasses}
use Rattle.signature_tables.specs.Statements.{statement}
use Rattle.site_tables.specs.Making.{class_in}
use Rattle.site_tables.specs.declared.fresh.Fresh.{Fresh}
use Rattle.site_tables.specs.declared.table.Table.{Table}

-- the points of a body are in order
abbrev pub ArePointsInOrder : Body → Type 0
ArePointsInOrder b = AllPairs (λ (q r : Point). q.pc < r.pc) b.shape.points

abbrev pub IsSiteOf : Program → Site → Type 0
IsSiteOf p h = (t : FieldType) × HasType p h t

-- so many sites are too many
abbrev pub IsTooMany : List ClassFile → List Body → TooMany → Type 0
IsTooMany classes bodies NoMemory = Unit {0}
IsTooMany classes bodies (Limit kind n) =
    (kind ≡ Sites) × (2 ^ 20 < n)
    × ((p : Program) → IsOfClasses classes p → p.bodies ≡ bodies → (hs : List Site) × IsOrderedListOf SiteBefore hs (IsSiteOf p) × (n ≡ length hs))

-- what is kept of a site
pub record IsInfoOf (p : Program) (h : Site) (info : SiteInfo) : Type 0 where
  pub place : StandsAt h info.place info.k
  pub array : (info.array ≡ true) ↔ IsArraySite p h
  pub class : (c : ClassId) → (info.class ≡ Some c) ↔ ((name : List ℕ) × IsObjectOf p h name × IsNamed p.classes name c.0)

-- .. of each of a list
abbrev pub AreInfosOf : Program → List Site → List SiteInfo → Type 0
AreInfosOf p [] [] = Unit {0}
AreInfosOf p [] (info ∷ infos) = ⊥
AreInfosOf p (h ∷ hs) [] = ⊥
AreInfosOf p (h ∷ hs) (info ∷ infos) = IsInfoOf p h info × AreInfosOf p hs infos

-- the sites of which Q holds were added to the table in order: counted, and listed while they aren't too many
pub record Adds (p : Program) (old new : Table) (Q : Site → Type 0) : Type 0 where
  pub sites : List Site
  pub ordered : IsOrderedListOf SiteBefore sites Q
  pub count : new.count ≡ old.count + length sites
  pub listed : new.count ≤ 2 ^ 20 → (more : List SiteInfo) × (new.infos.items ≡ old.infos.items ++ more) × AreInfosOf p sites more

-- the sites of a statement
abbrev pub IsMadeAt : Program → Statement → Site → Type 0
IsMadeAt p t h = (k : ℕ) × (u : FieldType) × (h ≡ Made t k) × HasType p h u

-- .. of a body
abbrev pub IsMadeIn : Program → Body → Site → Type 0
IsMadeIn p b = FromOne (λ (q : Point). IsMadeAt p (statement b q.pc)) b.shape.points

-- .. of the root
abbrev pub IsOfRoot : Program → Site → Type 0
IsOfRoot p h = (k : ℕ) × (u : FieldType) × (h ≡ OfRoot k) × HasType p h u

-- the table of a program of the classes with these bodies
abbrev pub IsTableOf : List ClassFile → List Body → List SiteInfo → Type 0
IsTableOf classes bodies sites = (p : Program) → IsOfClasses classes p → p.bodies ≡ bodies → AreSites p sites

-- the sites of a statement have the numbers from the first on, so many
abbrev pub AreNumbersOf : Program → Statement → ℕ → ℕ → Type 0
AreNumbersOf p t first count = (n : SiteId) (k : ℕ) → SiteNumber p n (Made t k) ↔ ((k < count) × (n.0 ≡ first + k))

-- what is kept of the arrays of a statement
abbrev pub arrays_at : Statement → ℕ → List SiteInfo
arrays_at t zero = []
arrays_at t (suc k) = arrays_at t k ++ record { class = None; array = true; place = Some t; k = k } ∷ []

-- the class of this name, where the folder has it
abbrev pub IsFound : List ClassFile → List ℕ → Option ClassId → Type 0
IsFound classes name o = MatchOption o (IsOutside classes name) (λ c. IsNamed classes name c.0)

-- an object was added after the arrays of a statement, where it makes one
abbrev pub IsObjectAdded : List ClassFile → Statement → ℕ → Option (List ℕ) → List SiteInfo → List SiteInfo → Type 0
IsObjectAdded classes t k None old new = new ≡ old
IsObjectAdded classes t k (Some name) old new =
    (o : Option ClassId) × IsFound classes name o × (new ≡ old ++ record { class = o; array = false; place = Some t; k = k } ∷ [])

-- .. after the arrays
abbrev pub AreAdded : List ClassFile → Statement → Fresh → List SiteInfo → List SiteInfo → Type 0
AreAdded classes t x old new = IsObjectAdded classes t x.dims (class_in x) (old ++ arrays_at t x.dims) new

-- the root's array of strings was added, and a string
abbrev pub AreStringsAdded : List ClassFile → List SiteInfo → List SiteInfo → Type 0
AreStringsAdded classes old new =
    (o : Option ClassId) × IsFound classes (codes "java/lang/String") o
    × (new ≡ (old ++ record { class = None; array = true; place = None; k = 0 } ∷ []) ++ record { class = o; array = false; place = None; k = 1 } ∷ [])

-- the table has all sites
abbrev pub IsWhole : Program → Table → Type 0
IsWhole p table =
    (hs : List Site) × IsOrderedListOf SiteBefore hs (IsSiteOf p) × (table.count ≡ length hs)
    × (table.count ≤ 2 ^ 20 → AreInfosOf p hs table.infos.items)

-- the table is that of some program
abbrev pub HasSites : List SiteInfo → Type 0
HasSites sites = (p : Program) × AreSites p sites

abbrev pub earlier : Statement → Statement → Bool
earlier a b = nat_lt a.method.0 b.method.0 || (nat_eq a.method.0 b.method.0 && nat_lt a.pc b.pc)

-- the site is of a statement before this one
abbrev pub place_before : Statement → Option Statement → Bool
place_before t None = false
place_before t (Some s) = earlier s t

abbrev pub is_before : Statement → SiteInfo → Bool
is_before t info = place_before t info.place

-- the site is of the statement
abbrev pub place_at : Statement → Option Statement → Bool
place_at t None = false
place_at t (Some s) = nat_eq s.method.0 t.method.0 && nat_eq s.pc t.pc

abbrev pub is_at : Statement → SiteInfo → Bool
is_at t info = place_at t info.place
