-- The least program has facts that are made of such tables.
use Rattle.std.proofs.Common.{◌≡◌, ◌<◌, ℕ, zero, suc, [], ◌∷◌, take, Some, refl, sym, subst, arith}
use Rattle.std.specs.Prelude.{slice_get}
use Rattle.std.proofs.lemmas.Option.{same_Some}
use Rattle.slicer_ids.specs.declared.ids.NodeId.{NodeId}
use Rattle.dep_form.specs.declared.system.System.{System}
use Rattle.dep_form.specs.declared.texts.MethodText.{MethodText}
use Rattle.dep_form.specs.declared.facts.Facts.{Facts}
use Rattle.dep_form.specs.Orders.{node_cmp}
use Rattle.dep_form.specs.Firsts.{node_count}
use Rattle.dep_form.specs.WithinFacts.{AreFacts}
use Rattle.program_form.specs.Systems.{IsSystemOf}
use Rattle.program_form.specs.Tiny.{tiny_program}
use Rattle.program_form.proofs.QuietFacts.{no_place, rise_none}
use Rattle.constraint_form.specs.ConstraintSystems.{IsConstraintSystem}
use Rattle.fact_form.specs.FactTables.{Parts, AreFactTables, AreFewParts, parts_of, IsFactSystem}
use Rattle.fact_form.proofs.LeastNodes.{least_effects, entries, entry_calls}
use Rattle.fact_form.proofs.LeastInputs.{inputs, no_exits, follow, least_inputs}
use Rattle.fact_form.proofs.LeastTables.{class_names, least_classes, main_text, texts, least_texts, site_names, least_sites, least_accesses, least_values, least_lines}

abbrev pub least_parts : Parts
least_parts = record { inputs = inputs; exits = []; classes = class_names; methods = texts; sites = site_names; lines = []; accesses = []; values = [] }

pub least_tables : (s : System) → IsConstraintSystem tiny_program s → IsSystemOf tiny_program s → AreFactTables tiny_program s least_effects entries least_parts
least_tables s system tie = record {
  entry_calls = entry_calls s system tie;
  inputs = least_inputs s system tie;
  exits = no_exits;
  accesses = least_accesses s system tie;
  values = least_values s system tie;
  classes = least_classes;
  methods = least_texts s system tie;
  lines = least_lines s system tie;
  sites = least_sites s system tie;
}

pub few_parts : AreFewParts least_parts
few_parts = record { nodes = omega arith; methods = omega arith; exits = omega arith; classes = omega arith }

firsts_ok : (m n : ℕ) → slice_get (0 ∷ 2 ∷ []) m ≡ Some n → n ≡ node_count (take m inputs)
firsts_ok zero n e = sym (same_Some 0 n e)
firsts_ok (suc zero) n e = sym (same_Some 2 n e)
firsts_ok (suc (suc m)) n e = absurd cc

class_at_place : (m : ℕ) (t : MethodText) → slice_get texts m ≡ Some t → t.class.0 < 1
class_at_place zero t e = let first : main_text ≡ t = same_Some main_text t e in subst (λ (x : MethodText). x.class.0 < 1) first (omega arith)
class_at_place (suc m) t e = absurd cc

-- what facts keep makes them facts
least_facts : AreFacts inputs [] class_names texts site_names [] [] [] → Facts
least_facts keep =
    record {
      inputs = inputs;
      firsts = 0 ∷ 2 ∷ [];
      exits = [];
      classes = class_names;
      methods = texts;
      sites = site_names;
      lines = [];
      accesses = [];
      values = [];
      root = refl;
      follow_on = follow;
      a_first_each = refl;
      firsts_are = firsts_ok;
      few = keep.few;
      few_methods = keep.few_methods;
      few_exits = keep.few_exits;
      few_classes = keep.few_classes;
      exits_rise = rise_none node_cmp (λ (n : NodeId). n);
      classes_rise = keep.classes_rise;
      methods_rise = keep.methods_rise;
      lines_rise = keep.lines_rise;
      accesses_rise = keep.accesses_rise;
      values_rise = keep.values_rise;
      method_classes = class_at_place;
      line_statements = λ k x e. no_place k x e;
      access_nodes = λ k x e. no_place k x e;
      access_sites = λ k x e. no_place k x e;
      value_sites = λ k x e. no_place k x e;
      sound = ∣ keep ∣₁;
    }

pub least_system_of_facts : (s : System) → IsConstraintSystem tiny_program s → IsSystemOf tiny_program s → AreFacts inputs [] class_names texts site_names [] [] [] → (f : Facts) × IsFactSystem tiny_program s least_effects f × AreFewParts (parts_of f)
unfolding least_facts
least_system_of_facts s system tie keep = (least_facts keep, (entries, least_tables s system tie), few_parts)
