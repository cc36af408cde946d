-- The least program: one class, java.lang.Object, with one method, main, that returns at once.
use Rattle.std.proofs.Common.{◌≡◌, ◌<◌, ◌≤◌, ℕ, zero, suc, [], ◌∷◌, Some, codes, slice_get, refl, arith, true, false}
use Rattle.slicer_ids.specs.declared.ids.MethodId.{MethodId}
use Rattle.class_form.specs.Classes.{Declared}
use Rattle.class_form.specs.declared.pool.Pool.{Pool}
use Rattle.class_form.specs.declared.pool.Constant.TheVariants.{Utf8, Class}
use Rattle.class_form.specs.declared.class_file.ClassFile.{ClassFile}
use Rattle.class_form.specs.declared.class_file.Member.{Member}
use Rattle.class_form.specs.declared.class_file.Content.TheVariants.{Code}
use Rattle.class_form.specs.declared.class_file.CodeBody.{CodeBody}
use Rattle.class_form.specs.declared.body.Body.{Body}
use Rattle.class_form.specs.declared.body.Instr.{Instr}
use Rattle.class_form.specs.declared.body.Point.{Point}
use Rattle.class_form.specs.declared.body.Def.TheVariants.{Formal}
use Rattle.dep_form.specs.declared.rules.Entry.{Entry}
use Rattle.program_form.specs.Programs.{Program}

abbrev pub tiny_pool : Pool
tiny_pool = record {
  constants = Utf8 (codes "java/lang/Object") ∷ Class 1 ∷ Utf8 (codes "main") ∷ Utf8 (codes "([Ljava/lang/String;)V") ∷ Utf8 (codes "Code") ∷ [];
  major = 51;
}

abbrev pub tiny_code : CodeBody
tiny_code = record { max_stack = 0; max_locals = 1; code = 177 ∷ []; handlers = []; attributes = [] }

abbrev pub tiny_member : Member
tiny_member = record { flags = 9; name = 3; descriptor = 4; attributes = record { name = 5; content = Code tiny_code } ∷ [] }

abbrev pub tiny_class : ClassFile
tiny_class = record {
  minor = 0;
  major = 51;
  pool = tiny_pool;
  flags = 33;
  this_class = 2;
  super_class = 0;
  interfaces = [];
  fields = [];
  methods = tiny_member ∷ [];
  attributes = [];
}

abbrev pub tiny_method : MethodId
tiny_method = record { 0 = 0 }

abbrev pub tiny_instruction : Instr
tiny_instruction = record { pc = 0; size = 1; op = 177; wide = false; index = 0; dims = 0; targets = []; takes = []; leaves = 0 }

abbrev pub tiny_point : Point
tiny_point = record { pc = 0; op = 177; depth = 0; next = []; handlers = []; uses = []; moves = []; makes = [] }

-- one place is in order
pub one_place_ordered : (j k : ℕ) (x y : ℕ × ℕ) → j < k → slice_get ((0, 0) ∷ []) j ≡ Some x → slice_get ((0, 0) ∷ []) k ≡ Some y → (x.0 ≤ y.0) × (x.0 ≡ y.0 → x.1 ≤ y.1)
one_place_ordered j zero x y lt e f = absurd (omega (arith, lt))
one_place_ordered j (suc k) x y lt e f = absurd cc

abbrev pub tiny_body : Body
tiny_body = record {
  method = tiny_method;
  instrs = tiny_instruction ∷ [];
  shape = record { max_locals = 1; arguments = 1 ∷ []; points = tiny_point ∷ [] };
  reach = record { places = (0, 0) ∷ []; defs = Formal 0 ∷ []; even = refl; ordered = one_place_ordered };
}

abbrev pub tiny_place : Declared
tiny_place = record { class = 0; index = 0 }

abbrev pub tiny_entry : Entry
tiny_entry = record { method = tiny_method; arguments = true }

abbrev pub tiny_program : Program
tiny_program = record { classes = tiny_class ∷ []; methods = tiny_place ∷ []; fields = []; bodies = tiny_body ∷ []; entries = tiny_entry ∷ [] }

-- the same, but that main has no argument, and is given none
abbrev pub quiet_pool : Pool
quiet_pool = record {
  constants = Utf8 (codes "java/lang/Object") ∷ Class 1 ∷ Utf8 (codes "main") ∷ Utf8 (codes "()V") ∷ Utf8 (codes "Code") ∷ [];
  major = 51;
}

abbrev pub quiet_class : ClassFile
quiet_class = record tiny_class { pool = quiet_pool }

abbrev pub quiet_entry : Entry
quiet_entry = record { method = tiny_method; arguments = false }

abbrev pub quiet_program : Program
quiet_program = record { classes = quiet_class ∷ []; methods = tiny_place ∷ []; fields = []; bodies = tiny_body ∷ []; entries = quiet_entry ∷ [] }
