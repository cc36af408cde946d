use Rattle.std.proofs.Common.{◌≡◌, ℕ, ◌<◌, List, length, map, sym, ap, ◌∙◌, subst, refl}
use Rattle.std.proofs.lemmas.Bool.{and_parts}
use Rattle.class_form.specs.Bytes.{target_of}
use Rattle.class_form.specs.Table.{opcode_of}
use Rattle.class_form.specs.Instructions.{TakesOperands, LeavesSlots, kind_of, distances_of}
use Rattle.class_form.specs.declared.pool.Pool.{Pool}
use Rattle.class_form.specs.declared.body.Operand.{Operand}
use Rattle.bytecode.specs.declared.instructions.Checked.{Checked}
use Rattle.bytecode.specs.Parts.{IsChecked, Describes, StandsClamped, clamped, operands_of, slots_left}
use Rattle.bytecode.proofs.TableFits.{table_fits, takes_right, leaves_right, same_kind}
use Rattle.bytecode.proofs.instructions.made_of.Goals as goal

module _ (code : List ℕ) (pool : Pool) (pc : ℕ) (c : Checked) (h : IsChecked code pool pc c) where
  kinds : kind_of c.head.form ≡ kind_of (opcode_of c.head.op).form
  kinds = ap kind_of h.form ∙ same_kind code pool pc h.passes ∙ ap (λ op. kind_of (opcode_of op).form) (sym h.op)

  described : Describes pool c.index (kind_of (opcode_of c.head.op).form) c.described
  described = subst (λ k. Describes pool c.index k c.described) kinds h.described

  takes : (ops : List Operand) → ops ≡ operands_of c.dims c.head.opcode.takes c.described → TakesOperands pool c.index c.dims (opcode_of c.head.op).takes ops
  takes ops e =
      subst (TakesOperands pool c.index c.dims (opcode_of c.head.op).takes) (sym (e ∙ ap (λ o. operands_of c.dims o.takes c.described) h.opcode))
      (takes_right pool c.index c.dims (opcode_of c.head.op).takes _ c.described (and_parts _ _ (table_fits c.head.op)).0 described)

  leaves : (n : ℕ) → n ≡ slots_left c.head.opcode.leaves c.described → LeavesSlots pool c.index (opcode_of c.head.op).leaves n
  leaves n e =
      subst (LeavesSlots pool c.index (opcode_of c.head.op).leaves) (sym (e ∙ ap (λ o. slots_left o.leaves c.described) h.opcode))
      (leaves_right pool c.index (opcode_of c.head.op).leaves _ c.described (and_parts _ _ (table_fits c.head.op)).1 described)

  made : (ts : List ℕ) (ops : List Operand) (n : ℕ) → pc < length code → ts ≡ map (λ d. clamped (target_of pc d)) (distances_of code pc c.head.form)
      → ops ≡ operands_of c.dims c.head.opcode.takes c.described → n ≡ slots_left c.head.opcode.leaves c.described
      → StandsClamped code pool pc (record { pc = pc; size = c.size; op = c.head.op; wide = c.head.wide; index = c.index; dims = c.dims; targets = ts; takes = ops; leaves = n })
  made ts ops n lt t e l = (
    record { place = refl; inside = lt; passes = h.passes; size = h.size; op = h.op; wide = h.wide; index = h.index; dims = h.dims; takes = takes ops e; leaves = leaves n l },
    t ∙ ap (λ f. map (λ d. clamped (target_of pc d)) (distances_of code pc f)) h.form,
  )

pub returns-clause-stands : goal.returns-clause-stands
returns-clause-stands c =
    made c.args.code.now c.args.pool.now c.args.pc c.args.checked c.requires.checked _ _ _ c.requires.inside
    (c.from_vec.ensures ∙ c.in_ok-targets.ensures.found) (c.from_vec-2.ensures ∙ c.in_ok-takes.ensures.taken) c.slots_left-leaves.ensures
