-- What a told file has after it was written, and after a copy.
use Rattle.std.proofs.Common.{◌≡◌, ◌∙◌, ℕ, Bool, cond, List, [], Option, Some, None, IfSome, refl, sym, ap, subst}
use Rattle.std.specs.Option.{option_map}
use Rattle.std.specs.FinMap as map
use Rattle.std.specs.FinMap.{get-insert}
use Rattle.std.proofs.lemmas.Cmp.{eq_by_cmp_equiv, nat_list_cmp_total}
use Rattle.edge_io.specs.declared.host.Entry.TheVariants.{File}
use Rattle.edge_io.specs.Files.{Files, HasFile, file_set}
use Rattle.edge_io.specs.Reads.{appended}
use Rattle.class_form.specs.ClassRules.{Spells}
use Rattle.class_form.specs.declared.class_file.ClassFile.{ClassFile}

set_there : (m : Files) (path bytes : List ℕ) → HasFile (file_set m path bytes) path bytes
set_there m path bytes =
    map.get-insert nat_list_cmp_total m path (File bytes) path ∙ ap (λ (b : Bool). cond b (Some (File bytes)) (map.get m path)) ((eq_by_cmp_equiv nat_list_cmp_total).refl path)

-- a file that was made, written and closed
pub put_there : (old made closed : Option Files) (path label bytes : List ℕ) (empty written : Option (List ℕ))
    → made ≡ option_map (λ m. file_set m path []) old → IfSome old (λ _. empty ≡ Some []) → written ≡ appended bytes empty → label ≡ path
    → IfSome written (λ w. closed ≡ option_map (λ m. file_set m label w) made)
    → IfSome old (λ _. IfSome closed (λ n. HasFile n path bytes))
put_there None made closed path label bytes empty written m e w l c = tt
put_there (Some f) made closed path label bytes empty written m e w l c =
    let whole : written ≡ Some bytes = w ∙ ap (appended bytes) e in
    let file = file_set f path [] in
    let after : closed ≡ option_map (λ (g : Files). file_set g label bytes) made = subst (λ (o : Option (List ℕ)). IfSome o (λ (v : List ℕ). closed ≡ option_map (λ (g : Files). file_set g label v) made)) whole c in
    let named : closed ≡ Some (file_set file path bytes) =
    after ∙ ap (λ (o : Option Files). option_map (λ (g : Files). file_set g label bytes) o) m ∙ ap (λ (q : List ℕ). Some (file_set file q bytes)) l in
    subst (λ (o : Option Files). IfSome o (λ (n : Files). HasFile n path bytes)) (sym named) (set_there file path bytes)

pub copied : (old new : Option Files) (from to read written : List ℕ)
    → IfSome old (λ m. HasFile m from read) → written ≡ read → IfSome old (λ _. IfSome new (λ n. HasFile n to written))
    → IfSome old (λ m. (bytes : List ℕ) × HasFile m from bytes × IfSome new (λ n. HasFile n to bytes))
copied None new from to read written there same put = tt
copied (Some m) new from to read written there same put =
    (read, there, subst (λ (b : List ℕ). IfSome new (λ (n : Files). HasFile n to b)) same put)

pub found : (old : Option Files) (from read text : List ℕ) (c : ClassFile) → IfSome old (λ m. HasFile m from read) → text ≡ read → Spells text c
    → IfSome old (λ m. (bytes : List ℕ) × (k : ClassFile) × HasFile m from bytes × Spells bytes k)
found None from read text c there same spelled = tt
found (Some m) from read text c there same spelled = (read, c, there, subst (λ (b : List ℕ). Spells b c) same spelled)
