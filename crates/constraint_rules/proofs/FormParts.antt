-- Constraints of a form, from what their parts may be.
use Rattle.std.proofs.Common.{◌≡◌, Option, Some, None, List, Contains, refl, sym, ap, subst, ◌∙◌}
use Rattle.std.specs.Prelude.{◌↔◌}
use Rattle.std.proofs.lemmas.Option.{same_Some}
use Rattle.slicer_ids.specs.declared.ids.ClassId.{ClassId}
use Rattle.slicer_ids.specs.declared.ids.MethodId.{MethodId}
use Rattle.slicer_ids.specs.declared.ids.SiteId.{SiteId}
use Rattle.slicer_ids.specs.declared.ids.FieldId.{FieldId}
use Rattle.slicer_ids.specs.declared.ids.CallId.{CallId}
use Rattle.worklists.specs.Growth.{Grows, FromOne}
use Rattle.worklists.proofs.Growing.{Grows-none, Grows-same}
use Rattle.dep_form.specs.declared.rules.Var.{Var}
use Rattle.dep_form.specs.declared.rules.Rule.{Rule}
use Rattle.dep_form.specs.declared.rules.Rule.TheVariants.{Enter, Alloc, Copy, Load, Store, Direct}
use Rattle.constraint_rules.specs.One.{IsOne, IsFound}
use Rattle.constraint_rules.specs.Forms.{EnterOf, AllocOf, CopyOf, LoadOf, StoreOf, DirectOf}
use Rattle.constraint_rules.proofs.Ones.{none_of, some_of, one_same}

copy_to : (F G T U : Var → Type 0) (keep : Option ClassId) → ((x : Var) → F x → G x) → ((y : Var) → T y → U y) → (r : Rule) → CopyOf F T keep r → CopyOf G U keep r
copy_to F G T U keep f g r (x, y, from, to, e) = (x, y, f x from, g y to, e)

alloc_to : (T U : Var → Type 0) (S R : SiteId → Type 0) → ((x : Var) → T x → U x) → ((n : SiteId) → S n → R n) → (r : Rule) → AllocOf T S r → AllocOf U R r
alloc_to T U S R f g r (x, n, to, site, e) = (x, n, f x to, g n site, e)

load_to : (B C : Var → Type 0) (F G : FieldId → Type 0) (T U : Var → Type 0) → ((x : Var) → B x → C x) → ((g : FieldId) → F g → G g) → ((y : Var) → T y → U y)
    → (r : Rule) → LoadOf B F T r → LoadOf C G U r
load_to B C F G T U f g h r (x, n, y, base, field, to, e) = (x, n, y, f x base, g n field, h y to, e)

store_to : (B C : Var → Type 0) (F G : FieldId → Type 0) (T U : Var → Type 0) → ((x : Var) → B x → C x) → ((g : FieldId) → F g → G g) → ((y : Var) → T y → U y)
    → (r : Rule) → StoreOf B F T r → StoreOf C G U r
store_to B C F G T U f g h r (x, n, y, base, field, to, e) = (x, n, y, f x base, g n field, h y to, e)

direct_to : (C D : CallId → Type 0) (M N : MethodId → Type 0) → ((c : CallId) → C c → D c) → ((m : MethodId) → M m → N m) → (r : Rule) → DirectOf C M r → DirectOf D N r
direct_to C D M N f g r (c, m, call, target, e) = (c, m, f c call, g m target, e)

-- ---- a form with the parts that were found is one with what they may be
pub alloc_one : (T : Var → Type 0) (S : SiteId → Type 0) (t : Option Var) (n : Option SiteId) (o : Option Rule) → IsOne T t → IsOne S n
    → IsOne (AllocOf (IsFound t) (IsFound n)) o → IsOne (AllocOf T S) o
alloc_one T S t n o x y one = one_same (AllocOf (IsFound t) (IsFound n)) (AllocOf T S) o
    (alloc_to (IsFound t) T (IsFound n) S (λ v. (x v).1) (λ v. (y v).1)) (alloc_to T (IsFound t) S (IsFound n) (λ v. (x v).0) (λ v. (y v).0)) one

pub copy_one : (F T : Var → Type 0) (keep : Option ClassId) (f t : Option Var) (o : Option Rule) → IsOne F f → IsOne T t
    → IsOne (CopyOf (IsFound f) (IsFound t) keep) o → IsOne (CopyOf F T keep) o
copy_one F T keep f t o x y one = one_same (CopyOf (IsFound f) (IsFound t) keep) (CopyOf F T keep) o
    (copy_to (IsFound f) F (IsFound t) T keep (λ v. (x v).1) (λ v. (y v).1)) (copy_to F (IsFound f) T (IsFound t) keep (λ v. (x v).0) (λ v. (y v).0)) one

pub load_one : (B : Var → Type 0) (F : FieldId → Type 0) (T : Var → Type 0) (b : Option Var) (f : Option FieldId) (t : Option Var) (o : Option Rule) → IsOne B b → IsOne F f → IsOne T t
    → IsOne (LoadOf (IsFound b) (IsFound f) (IsFound t)) o → IsOne (LoadOf B F T) o
load_one B F T b f t o x y z one = one_same (LoadOf (IsFound b) (IsFound f) (IsFound t)) (LoadOf B F T) o
    (load_to (IsFound b) B (IsFound f) F (IsFound t) T (λ v. (x v).1) (λ v. (y v).1) (λ v. (z v).1))
    (load_to B (IsFound b) F (IsFound f) T (IsFound t) (λ v. (x v).0) (λ v. (y v).0) (λ v. (z v).0)) one

pub store_one : (B : Var → Type 0) (F : FieldId → Type 0) (T : Var → Type 0) (b : Option Var) (f : Option FieldId) (t : Option Var) (o : Option Rule) → IsOne B b → IsOne F f → IsOne T t
    → IsOne (StoreOf (IsFound b) (IsFound f) (IsFound t)) o → IsOne (StoreOf B F T) o
store_one B F T b f t o x y z one = one_same (StoreOf (IsFound b) (IsFound f) (IsFound t)) (StoreOf B F T) o
    (store_to (IsFound b) B (IsFound f) F (IsFound t) T (λ v. (x v).1) (λ v. (y v).1) (λ v. (z v).1))
    (store_to B (IsFound b) F (IsFound f) T (IsFound t) (λ v. (x v).0) (λ v. (y v).0) (λ v. (z v).0)) one

pub direct_one : (C : CallId → Type 0) (M : MethodId → Type 0) (c : Option CallId) (m : Option MethodId) (o : Option Rule) → IsOne C c → IsOne M m
    → IsOne (DirectOf (IsFound c) (IsFound m)) o → IsOne (DirectOf C M) o
direct_one C M c m o x y one = one_same (DirectOf (IsFound c) (IsFound m)) (DirectOf C M) o
    (direct_to (IsFound c) C (IsFound m) M (λ v. (x v).1) (λ v. (y v).1)) (direct_to C (IsFound c) M (IsFound m) (λ v. (x v).0) (λ v. (y v).0)) one

-- ---- the same of lists that grew
pub copies_grown : (F G T : Var → Type 0) (keep : Option ClassId) (t : Option Var) (old new : List Rule) → ((x : Var) → F x ↔ G x) → IsOne T t
    → Grows old new (CopyOf F (IsFound t) keep) → Grows old new (CopyOf G T keep)
copies_grown F G T keep t old new x y g = Grows-same old new (CopyOf F (IsFound t) keep) (CopyOf G T keep)
    (copy_to F G (IsFound t) T keep (λ v. (x v).0) (λ v. (y v).1)) (copy_to G F T (IsFound t) keep (λ v. (x v).1) (λ v. (y v).0)) g

pub enters_grown : (M N : MethodId → Type 0) (old new : List Rule) → ((m : MethodId) → M m ↔ N m) → Grows old new (EnterOf M) → Grows old new (EnterOf N)
enters_grown M N old new x g = Grows-same old new (EnterOf M) (EnterOf N) (λ r h. (h.0, (x h.0).0 h.1, h.2)) (λ r h. (h.0, (x h.0).1 h.1, h.2)) g

pub copy_grown : (from to : Var) (keep : Option ClassId) (old new : List Rule) → Grows old new (λ r. r ≡ Copy from to keep) → Grows old new (CopyOf (λ x. x ≡ from) (IsFound (Some to)) keep)
copy_grown from to keep old new g = Grows-same old new (λ r. r ≡ Copy from to keep) (CopyOf (λ x. x ≡ from) (IsFound (Some to)) keep)
    (λ r e. (from, to, refl, refl, e)) (λ r (x, y, same, found, e). e ∙ ap (λ v. Copy v y keep) same ∙ ap (λ v. Copy from v keep) (sym (same_Some to y found))) g

pub no_copy : (from : Var) (keep : Option ClassId) (xs : List Rule) → Grows xs xs (CopyOf (λ x. x ≡ from) (IsFound None) keep)
no_copy from keep xs = Grows-none xs (CopyOf (λ x. x ≡ from) (IsFound None) keep) (λ r (x, y, same, found, e). cc found)

-- one form from each of a list is the form from all of them
pub each_copy : (xs : List Var) (to : Option Var) (keep : Option ClassId) (old new : List Rule) → Grows old new (FromOne (λ (v : Var). CopyOf (λ x. x ≡ v) (IsFound to) keep) xs)
    → Grows old new (CopyOf (Contains xs) (IsFound to) keep)
each_copy xs to keep old new g = Grows-same old new (FromOne (λ (v : Var). CopyOf (λ x. x ≡ v) (IsFound to) keep) xs) (CopyOf (Contains xs) (IsFound to) keep)
    (λ r (v, among, (x, y, same, found, e)). (x, y, subst (Contains xs) (sym same) among, found, e)) (λ r (x, y, among, found, e). (x, among, (x, y, refl, found, e))) g

pub enter_grown : (m : MethodId) (old new : List Rule) → Grows old new (λ r. r ≡ Enter m) → Grows old new (EnterOf (λ i. i ≡ m))
enter_grown m old new g = Grows-same old new (λ r. r ≡ Enter m) (EnterOf (λ i. i ≡ m)) (λ r e. (m, refl, e)) (λ r (i, same, e). e ∙ ap (λ k. Enter k) same) g

-- copies by a filter that is found
pub kept_grown : (K : Option ClassId → Type 0) (F T : Var → Type 0) (keep : Option ClassId) (old new : List Rule) → IsOne K (Some keep) → Grows old new (CopyOf F T keep)
    → Grows old new (λ r. (k : Option ClassId) × K k × CopyOf F T k r)
kept_grown K F T keep old new one g = Grows-same old new (CopyOf F T keep) (λ r. (k : Option ClassId) × K k × CopyOf F T k r)
    (λ r h. (keep, (one keep).1 refl, h)) (λ r (k, kept, h). subst (λ z. CopyOf F T z r) (sym (same_Some keep k ((one k).0 kept))) h) g

pub none_kept : (K : Option ClassId → Type 0) (F T : Var → Type 0) (xs : List Rule) → IsOne K None → Grows xs xs (λ r. (k : Option ClassId) × K k × CopyOf F T k r)
none_kept K F T xs one = Grows-none xs (λ r. (k : Option ClassId) × K k × CopyOf F T k r) (λ r (k, kept, h). let e = (one k).0 kept in cc e)
