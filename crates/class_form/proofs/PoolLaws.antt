-- What is read of a constant pool is spelled so, and what is spelled so is read; a fault that is read is the first one.
use Rattle.std.proofs.Common.{◌≡◌, ℕ, ◌+◌, List, [], length, Result, Ok, Err, refl, sym, subst, arith}
use Rattle.std.specs.List.{flat_map}
use Rattle.byte_form.specs.Places.{State, Takes, IsBytes, start}
use Rattle.byte_form.specs.Forms.{Fault, Outcome, list}
use Rattle.byte_form.specs.Reading.{IfFault, Fails, list_at}
use Rattle.byte_form.specs.declared.error.ItemError.{ItemError}
use Rattle.byte_form.specs.declared.error.ItemError.TheVariants as errors
use Rattle.byte_form.proofs.Outcomes.{list_is}
use Rattle.byte_form.proofs.Agree.{list_agree}
use Rattle.class_form.specs.Spelling.{spell_constant, spell_pool}
use Rattle.class_form.specs.PoolRules.{IsPool}
use Rattle.class_form.specs.PoolFaults.{index, pool, SpellsPool, IsFirstPoolFault}
use Rattle.class_form.specs.PoolReading.{read_index, read_pool}
use Rattle.class_form.proofs.PoolOutcome.{index_is, pool_is}
use Rattle.class_form.proofs.PoolAgree.{index_agree, pool_agree}
use Rattle.class_form.specs.declared.pool.Pool.{Pool}
use Rattle.class_form.specs.declared.pool.Constant.{Constant}

-- where some constants end
pub constants_end : (major count n : ℕ) (s t : State) (cs : List Constant) → IsBytes s.rest → list_at (read_index major count) n [] s ≡ Ok (cs, t) → t.at ≡ s.at + length (flat_map spell_constant cs)
constants_end major count n s t cs fits e =
    let h = (list_is (index major count) (read_index major count) (index_is major count) n [] s fits).holds in
    ((list_agree (index_agree major count) n).found s t cs (subst (list (index major count) n [] s) e h)).0.moved

pub pool_found : (major : ℕ) (s t : State) (p : Pool) → IsBytes s.rest → read_pool major s ≡ Ok (p, t) → Takes s (spell_pool p) t × IsPool p × (p.major ≡ major)
pool_found major s t p fits e = (pool_agree major).found s t p (subst (pool major s) e (pool_is major s fits).holds)

pub pool_again : (major : ℕ) (s t : State) (p : Pool) → IsBytes s.rest → Takes s (spell_pool p) t → IsPool p → p.major ≡ major → read_pool major s ≡ Ok (p, t)
pool_again major s t p fits h good e = sym ((pool_is major s fits).only (Ok (p, t)) ((pool_agree major).again s t p h good e))

pub pool_fault : (major : ℕ) (s : State) (f : Fault) → IsBytes s.rest → read_pool major s ≡ Err f → pool major s (Err f)
pool_fault major s f fits e = subst (pool major s) e (pool_is major s fits).holds

pub fault_again : (major : ℕ) (s : State) (f : Fault) → IsBytes s.rest → pool major s (Err f) → read_pool major s ≡ Err f
fault_again major s f fits h = sym ((pool_is major s fits).only (Err f) h)

-- for what reads all of some bytes
pub spelled_from : (major : ℕ) (bytes : List ℕ) (p : Pool) (t : State) → IsBytes bytes → read_pool major (start bytes) ≡ Ok (p, t) → SpellsPool major bytes p t.at
spelled_from major bytes p t fits e = let h = pool_found major (start bytes) t p fits e in (h.1, h.2, t.rest, h.0.parts, omega (arith, h.0.moved))

pub read_from : (major : ℕ) (bytes : List ℕ) (p : Pool) (len : ℕ) → IsBytes bytes → SpellsPool major bytes p len → (t : State) × (read_pool major (start bytes) ≡ Ok (p, t)) × (t.at ≡ len)
read_from major bytes p len fits h =
    let t : State = record { at = len; rest = h.2 } in
    (t, pool_again major (start bytes) t p fits (record { parts = h.3; moved = omega (arith, h.4) }) h.0 h.1, refl)

-- an error names the fault
pub fault_named : (X : Type 0) (major : ℕ) (bytes : List ℕ) (e : ItemError) → IsBytes bytes → Fails e (read_pool major (start bytes)) → IfFault {X = X} (Err e) (IsFirstPoolFault major bytes)
fault_named X major bytes errors.NoMemory fits h = tt
fault_named X major bytes errors.Truncated fits h = pool_fault major (start bytes) _ fits h
fault_named X major bytes (errors.Broken r at) fits h = pool_fault major (start bytes) _ fits h

-- an error stands against no other outcome
pub against : {A B : Type 0} (e : ItemError) (o : Outcome Fault A) (r : Result B Fault) → Fails e o → ((f : Fault) → o ≡ Err f → r ≡ Err f) → Fails e r
against errors.NoMemory o r h to = tt
against errors.Truncated o r h to = to _ h
against (errors.Broken n at) o r h to = to _ h
