-- A scan of the list of files finds what the map of them has, and a change at its place is a change of the map.
use Rattle.std.proofs.Common.{◌≡◌, ◌≢◌, ℕ, zero, suc, ◌<◌, Bool, true, false, cond, List, [], ◌∷◌, ◌++◌, length, get_or, set, Option, Some, None, refl, sym, ap, subst, ◌∙◌, arith, All, true≢false}
use Rattle.std.proofs.lemmas.Cmp.{eq_by_cmp_equiv, nat_list_cmp_total}
use Rattle.std.specs.declared.cmp.Ordering.{Ordering}
use Rattle.std.specs.declared.cmp.Ordering.TheVariants.{Less, Equal, Greater}
use Rattle.std.specs.Ordering.{nat_cmp, eq_by_cmp, is_eq}
use Rattle.std.specs.Cmp.Lexicographic.{slice_cmp}
use Rattle.std.specs.FinMap as map
use Rattle.edge_io.specs.declared.host.Entry.{Entry}
use Rattle.edge_io.specs.declared.host.Entry.TheVariants.{Folder, File}
use Rattle.edge_io.specs.Files.{Files, IsFile}
use Rattle.edge_io.specs.Paths.{IsPlaceOf, files_in}

abbrev pub Stored : Type 0
Stored = List ℕ × Entry

abbrev pub by_bytes : List ℕ → List ℕ → Ordering
by_bytes = slice_cmp nat_cmp

only_equal : map.IsAntisymmetric by_bytes
only_equal = map.slice_cmp-IsAntisymmetric map.nat_cmp-IsAntisymmetric

is_equal : (o : Ordering) → is_eq o ≡ true → o ≡ Equal
is_equal Less e = absurd (true≢false (sym e))
is_equal Equal e = refl
is_equal Greater e = absurd (true≢false (sym e))

-- keys that tie are the same
pub same : (q k : List ℕ) → eq_by_cmp by_bytes q k ≡ true → q ≡ k
same q k e = only_equal q k (is_equal (by_bytes q k) e)

ties : (q k : List ℕ) → q ≡ k → eq_by_cmp by_bytes q k ≡ true
ties q k e = subst (λ (x : List ℕ). eq_by_cmp by_bytes q x ≡ true) e ((eq_by_cmp_equiv nat_list_cmp_total).refl q)

apart : (q k : List ℕ) → q ≢ k → eq_by_cmp by_bytes q k ≡ false
apart q k ne = by (eq_by_cmp by_bytes q k) refl
  where
    by : (b : Bool) → eq_by_cmp by_bytes q k ≡ b → b ≡ false
    by true e = absurd (ne (same q k e))
    by false e = refl

place_after : (e : Stored) (es : List Stored) (path : List ℕ) (k : ℕ) → IsPlaceOf (e ∷ es) path (suc k) → IsPlaceOf es path k
place_after e es path k p =
    let lt : suc k < length (e ∷ es) = p.within in
    record { within = omega arith; there = λ d. p.there d; first = λ j d h. let later : suc j < suc k = omega arith in p.first (suc j) d later }

not_first : (e : Stored) (es : List Stored) (path : List ℕ) (k : ℕ) → IsPlaceOf (e ∷ es) path (suc k) → path ≢ e.0
not_first e es path k p = λ is. let early : 0 < suc k = omega arith in p.first zero e early (sym is)

find_at : (es : List Stored) (path : List ℕ) (k : ℕ) (d : Stored) → IsPlaceOf es path k → map.find by_bytes path es ≡ Some (get_or es k d).1
find_at [] path k d p = let lt : k < length {A = Stored} [] = p.within in absurd (omega arith)
find_at (e ∷ es) path zero d p = ap (λ (b : Bool). cond b (Some e.1) (map.find by_bytes path es)) (ties path e.0 (sym (p.there d)))
find_at (e ∷ es) path (suc k) d p =
    ap (λ (b : Bool). cond b (Some e.1) (map.find by_bytes path es)) (apart path e.0 (not_first e es path k p)) ∙ find_at es path k d (place_after e es path k p)

find_nowhere : (es : List Stored) (path : List ℕ) → All (λ e. e.0 ≢ path) es → map.find by_bytes path es ≡ None
find_nowhere [] path h = refl
find_nowhere (e ∷ es) path h =
    let here : path ≢ e.0 = λ is. let lt : 0 < length (e ∷ es) = omega arith in h zero e lt (sym is) in
    ap (λ (b : Bool). cond b (Some e.1) (map.find by_bytes path es)) (apart path e.0 here)
    ∙ find_nowhere es path (λ k d lt. let later : suc k < length (e ∷ es) = omega arith in h (suc k) d later)

-- what stands at the place of a path
pub there_is : (es : List Stored) (path : List ℕ) (k : ℕ) (d : Stored) → IsPlaceOf es path k → map.get (files_in es) path ≡ Some (get_or es k d).1
there_is es path k d p = map.get-from_entries nat_list_cmp_total es path ∙ find_at es path k d p

pub there_is_none : (es : List Stored) (path : List ℕ) → All (λ e. e.0 ≢ path) es → map.get (files_in es) path ≡ None
there_is_none es path h = map.get-from_entries nat_list_cmp_total es path ∙ find_nowhere es path h

shadowed : {A : Type 0} (b : Bool) (x y z : A) → cond b x z ≡ cond b x (cond b y z)
shadowed true x y z = refl
shadowed false x y z = refl

swapped : {A : Type 0} (a b : Bool) (x y z : A) → (a ≡ true → b ≡ true → ⊥) → cond a x (cond b y z) ≡ cond b y (cond a x z)
swapped true true x y z never = absurd (never refl refl)
swapped true false x y z never = refl
swapped false b x y z never = refl

find_set : (es : List Stored) (path : List ℕ) (k : ℕ) (x : Stored) (q : List ℕ) → IsPlaceOf es path k → x.0 ≡ path
    → map.find by_bytes q (set es k x) ≡ cond (eq_by_cmp by_bytes q path) (Some x.1) (map.find by_bytes q es)
find_set [] path k x q p is = let lt : k < length {A = Stored} [] = p.within in absurd (omega arith)
find_set (e ∷ es) path zero x q p is =
    ap (λ (n : List ℕ). cond (eq_by_cmp by_bytes q n) (Some x.1) (map.find by_bytes q es)) is
    ∙ shadowed (eq_by_cmp by_bytes q path) (Some x.1) (Some e.1) (map.find by_bytes q es)
    ∙ ap (λ (n : List ℕ). cond (eq_by_cmp by_bytes q path) (Some x.1) (cond (eq_by_cmp by_bytes q n) (Some e.1) (map.find by_bytes q es))) (sym (p.there x))
find_set (e ∷ es) path (suc k) x q p is =
    ap (λ (r : Option Entry). cond (eq_by_cmp by_bytes q e.0) (Some e.1) r) (find_set es path k x q (place_after e es path k p) is)
    ∙ swapped (eq_by_cmp by_bytes q e.0) (eq_by_cmp by_bytes q path) (Some e.1) (Some x.1) (map.find by_bytes q es) (λ a b. not_first e es path k p (sym (same q path b) ∙ same q e.0 a))

-- a change at the place of a path is a change of the map
pub set_is_insert : (es : List Stored) (path : List ℕ) (k : ℕ) (x : Stored) → IsPlaceOf es path k → x.0 ≡ path → files_in (set es k x) ≡ map.insert (files_in es) path x.1
set_is_insert es path k x p is =
    map.same_map nat_list_cmp_total only_equal (files_in (set es k x)) (map.insert (files_in es) path x.1)
    (λ q. map.get-from_entries nat_list_cmp_total (set es k x) q ∙ find_set es path k x q p is
    ∙ ap (λ (r : Option Entry). cond (eq_by_cmp by_bytes q path) (Some x.1) r) (sym (map.get-from_entries nat_list_cmp_total es q))
    ∙ sym (map.get-insert nat_list_cmp_total (files_in es) path x.1 q))

-- one more entry, at a path where nothing stands
pub push_is_insert : (es : List Stored) (path : List ℕ) (x : Stored) → All (λ e. e.0 ≢ path) es → x.0 ≡ path → files_in (es ++ x ∷ []) ≡ map.insert (files_in es) path x.1
push_is_insert es path x none is =
    subst (λ (n : List ℕ). files_in (es ++ (n, x.1) ∷ []) ≡ map.insert (files_in es) path x.1) (sym is)
    (map.from_entries_push nat_list_cmp_total only_equal es path x.1 (find_nowhere es path none))

-- what stands at each other path stays
pub insert_keeps : (m : map.FinMap by_bytes Entry) (path : List ℕ) (v : Entry) (q : List ℕ) → q ≢ path → map.get (map.insert m path v) q ≡ map.get m q
insert_keeps m path v q ne = map.get-insert nat_list_cmp_total m path v q ∙ ap (λ (b : Bool). cond b (Some v) (map.get m q)) (apart q path ne)

-- the same of a list that was pushed to
pub pushed_is_insert : (es after scanned : List Stored) (path sought : List ℕ) (x : Stored) → All (λ e. e.0 ≢ sought) scanned → scanned ≡ es → sought ≡ path → after ≡ es ++ x ∷ [] → x.0 ≡ path
    → files_in after ≡ map.insert (files_in es) path x.1
pushed_is_insert es after scanned path sought x none is_es is_path is_after here =
    let fresh : All (λ e. e.0 ≢ path) es = subst (λ (s : List Stored). All (λ e. e.0 ≢ path) s) is_es (subst (λ (q : List ℕ). All (λ e. e.0 ≢ q) scanned) is_path none) in
    ap (λ (s : List Stored). files_in s) is_after ∙ push_is_insert es path x fresh here

no_file_at_none : (m : Files) (path : List ℕ) → map.get m path ≡ None → ¬ (IsFile m path)
no_file_at_none m path e (bytes, is) = let bad : None ≡ Some (File bytes) = sym e ∙ is in cc

no_file_at_folder : (m : Files) (path : List ℕ) → map.get m path ≡ Some Folder → ¬ (IsFile m path)
no_file_at_folder m path e (bytes, is) = let bad : Some Folder ≡ Some (File bytes) = sym e ∙ is in cc

-- what a scan for a file found, of a list and a path that are known by equations
pub no_file_nowhere : (es scanned : List Stored) (path sought : List ℕ) → All (λ e. e.0 ≢ sought) scanned → scanned ≡ es → sought ≡ path → ¬ (IsFile (files_in es) path)
no_file_nowhere es scanned path sought none is_es is_path =
    no_file_at_none (files_in es) path
    (subst (λ (s : List Stored). map.get (files_in s) path ≡ None) is_es (subst (λ (q : List ℕ). map.get (files_in scanned) q ≡ None) is_path (there_is_none scanned sought none)))

pub place_moved : (es scanned : List Stored) (path sought : List ℕ) (k : ℕ) → IsPlaceOf scanned sought k → scanned ≡ es → sought ≡ path → IsPlaceOf es path k
place_moved es scanned path sought k p is_es is_path = subst (λ (s : List Stored). IsPlaceOf s path k) is_es (subst (λ (q : List ℕ). IsPlaceOf scanned q k) is_path p)

pub file_there : (es : List Stored) (path : List ℕ) (k : ℕ) (x : Stored) (bytes : List ℕ) → IsPlaceOf es path k → x ≡ get_or es k x → x.1 ≡ File bytes → IsFile (files_in es) path
file_there es path k x bytes p here is = (bytes, there_is es path k x p ∙ ap (λ (s : Stored). Some s.1) (sym here) ∙ ap (λ (e : Entry). Some e) is)

pub folder_there : (es : List Stored) (path : List ℕ) (k : ℕ) (x : Stored) → IsPlaceOf es path k → x ≡ get_or es k x → x.1 ≡ Folder → ¬ (IsFile (files_in es) path)
folder_there es path k x p here is = no_file_at_folder (files_in es) path (there_is es path k x p ∙ ap (λ (s : Stored). Some s.1) (sym here) ∙ ap (λ (e : Entry). Some e) is)
