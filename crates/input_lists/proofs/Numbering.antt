-- What the parts of a program, with the rows of its nodes, keep.
use Rattle.std.proofs.Common.{◌≡◌, ◌<◌, ◌≤◌, ◌+◌, ◌^◌, ℕ, suc, List, [], ◌∷◌, Contains, Some, length, map, refl, sym, ap, subst, ◌∙◌, arith}
use Rattle.std.specs.Prelude.{Bool, slice_get, sum_by, All, AllPairs}
use Rattle.std.specs.Ordering.{nat_cmp}
use Rattle.std.specs.Global.{Vec}
use Rattle.std.proofs.lemmas.Option.{slice_get_within}
use Rattle.std.proofs.lemmas.List.{length-map}
use Rattle.std.proofs.lemmas.List.Sums.{sum_by-cons}
use Rattle.std.proofs.lemmas.List.Elements.{All-contains}
use Rattle.slicer_ids.specs.declared.ids.LocId.{LocId}
use Rattle.slicer_ids.specs.declared.ids.MethodId.{MethodId}
use Rattle.slicer_ids.specs.declared.ids.Statement.{Statement}
use Rattle.class_form.proofs.Indices.{there_at}
use Rattle.class_form.specs.ClassRules.{IsClassFile}
use Rattle.class_form.specs.declared.body.Body.{Body}
use Rattle.dep_form.specs.declared.effects.ModRef.{ModRef}
use Rattle.dep_form.specs.declared.node.Node.{Node}
use Rattle.dep_form.specs.declared.node.Node.TheVariants.{HeapArg}
use Rattle.dep_form.specs.declared.rules.Var.{Var}
use Rattle.dep_form.specs.declared.rules.Spot.TheVariants.{Static}
use Rattle.dep_form.specs.declared.system.System.{System}
use Rattle.dep_form.specs.Constraints.{IsRoot}
use Rattle.dep_form.specs.Effects.{IsModRefOf}
use Rattle.dep_form.specs.Nodes.{ComesBefore}
use Rattle.dep_form.specs.Orders.{RiseBy}
use Rattle.dep_form.specs.Solutions.{IsSolutionOf}
use Rattle.mod_ref.specs.Direct.{IsSmall}
use Rattle.program_form.specs.Facts.{Variable}
use Rattle.program_form.specs.Nodes.{at}
use Rattle.program_form.specs.Programs.{Program}
use Rattle.program_form.specs.Systems.{IsSystemOf, VariableNumber}
use Rattle.program_code.specs.Codes.{IsProgramOfCode}
use Rattle.program_code.specs.Locations.{AreStaticsNamed}
use Rattle.program_code.proofs.OneInstruction.{coded_body}
use Rattle.program_code.proofs.Outside.{calls_back, reached_there}
use Rattle.fact_form.specs.EntryCalls.{AreEntryCalls}
use Rattle.fact_form.specs.FactTables.{AreNodeRows}
use Rattle.fact_form.specs.Handed.{IsProgramWith}
use Rattle.fact_form.specs.NodeNumbers.{IsNumbered}
use Rattle.fact_form.specs.NodeNumbers as number
use Rattle.fact_form.proofs.CallNumbers.{calling}
use Rattle.fact_form.proofs.Counting.{reached_in_range}
use Rattle.fact_form.proofs.ItemLists.{all_of, map_at}
use Rattle.fact_form.proofs.Setting.{Setting}
use Rattle.node_tables.specs.Scenes.{IsInOrder}
use Rattle.node_tables.proofs.ProgramScenes.{bodies_ordered, bodies_rise, placed}
use Rattle.edge_tables.specs.Rows.{AreFirsts, size_of}
use Rattle.edge_tables.specs.Scenes.{IsScene as IsEdgeScene}
use Rattle.edge_tables.specs.declared.scene.Scene.{Scene as EdgeScene}
use Rattle.input_tables.specs.Edges.{HasReach}
use Rattle.input_lists.specs.Scenes.{IsNumberedProgram, IsNumberedScene}

abbrev pub items_of : Vec Node → List Node
items_of row = row.items

-- how many nodes the rows have
pub map_sum : (rows : List (Vec Node)) → sum_by length (map items_of rows) ≡ sum_by size_of rows
map_sum [] = refl
map_sum (v ∷ rows) = sum_by-cons length v.items (map items_of rows) ∙ ap (λ (n : ℕ). length v.items + n) (map_sum rows) ∙ sym (sum_by-cons size_of v rows)

-- what laws on a program's nodes ask
pub setting_of : (p : Program) (s : System) (mr : ModRef) (entries : List MethodId) (x : EdgeScene) → IsProgramWith x.h.now x.bodies.now s p → AreEntryCalls p s entries → IsModRefOf s mr → IsSystemOf p s
    → ((t : Statement) (write : Bool) (v : Var) → Contains s.touches (record { place = t; write = write; spot = Static v }) → (w : Variable) × VariableNumber p s w v) → Setting p s mr entries
setting_of p s mr entries x is entered effects tie named = record {
  asked = is.asked;
  coded = is.coded;
  names = is.constraints.0;
  tables = is.constraints.1;
  tie = tie;
  statics = λ t v c e. named t.place t.write v (subst (λ z. Contains s.touches (record { place = t.place; write = t.write; spot = z })) e c);
  effects = effects;
  entered = entered;
}

-- the root's calls are all of those before which its nodes have locations
pub root_call : (p : Program) (s : System) (mr : ModRef) (entries : List MethodId) → Setting p s mr entries → (m : MethodId) (j : ℕ) (n : LocId) → IsRoot s m → IsNumbered p s mr entries m (HeapArg j n) → j < length entries
root_call p s mr entries g m j n root (number.heap_arg {pc} {c} {k = site} {t} is holds used) =
    absurd (omega (arith, root, reached_in_range s m (reached_there p s g.coded g.tie m (calling p s mr entries g (at m pc) t (calls_back p s g.coded g.tie (at m pc) c t (site, is.0, is.1) holds)).0)))
root_call p s mr entries g m j n root (number.root_heap_arg {t} r entry used) = slice_get_within entries j t entry

module _ (x : EdgeScene) (mr : ModRef) (p : Program) (is : IsNumberedProgram x mr p) (g : Setting p x.system.now mr x.entries.now) (files : All IsClassFile x.h.now) (solved : IsSolutionOf x.system.now x.solution.now) (firsts : AreFirsts x.rows.now x.firsts.now)
    (few : sum_by length (map items_of x.rows.now) ≤ 2 ^ 24) (small : IsSmall x.system.now) (few_entries : length x.entries.now ≤ 65536) (numbers : length x.system.now.calls + length x.entries.now < 2 ^ 32) (locations : length mr.locations < 2 ^ 32) where
  listed : (m : MethodId) (v : Vec Node) → slice_get x.rows.now m.0 ≡ Some v → slice_get (map items_of x.rows.now) m.0 ≡ Some v.items
  listed m v e = map_at items_of x.rows.now m.0 v e

  edge_scene : IsEdgeScene x
  edge_scene = record {
    files = files;
    bodies = subst (λ (bs : List Body). RiseBy nat_cmp (λ (b : Body). b.method.0) bs) is.0.bodies_are (bodies_rise p is.0.asked is.0.coded);
    ordered = subst (λ (bs : List Body). All IsInOrder bs) is.0.bodies_are (bodies_ordered p is.0.asked is.0.coded);
    solved = solved;
    small = small;
    placed = placed p x.system.now is.0.constraints;
    rows = record {
      firsts_are = firsts;
      ordered = λ m v e. (is.2.each (record { 0 = m }) v.items (listed (record { 0 = m }) v e)).order;
      few = omega (arith, few, map_sum x.rows.now);
    };
    count = sym (length-map x.rows.now items_of) ∙ is.2.count;
    root = λ m v root e j n c. root_call p x.system.now mr x.entries.now g m j n root (All-contains (IsNumbered p x.system.now mr x.entries.now m) v.items (HeapArg j n) (is.2.each m v.items (listed m v e)).each c);
    few_entries = few_entries;
    numbers = numbers;
  }

  pub numbered_scene : IsNumberedScene x mr
  numbered_scene = record {
    edges = edge_scene;
    reaches = subst (λ (bs : List Body). All HasReach bs) is.0.bodies_are (all_of HasReach p.bodies (λ i b e. (coded_body p is.0.coded b (there_at p.bodies i b e)).is.reach));
    effects = g.effects;
    few = locations;
    program = (p, is);
  }
