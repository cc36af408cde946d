-- Statements of a program that are refused where they are reached.
use Rattle.std.specs.Prelude.{◌≡◌, ◌⊎◌, ◌+◌, ◌<◌, ℕ, List, Option, MatchOption}
use Rattle.slicer_ids.specs.Order.{StatementBefore}
use Rattle.slicer_ids.specs.declared.ids.MethodId.{MethodId}
use Rattle.slicer_ids.specs.declared.ids.Statement.{Statement}
use Rattle.class_form.specs.Classes.{Declared, IsNative, IsOutside}
use Rattle.class_form.specs.Opcodes.{IsCall}
use Rattle.class_form.specs.Pools.{MemberKey}
use Rattle.class_form.specs.declared.class_file.Member.{Member}
use Rattle.dep_form.specs.Outside.{IsReflection}
use Rattle.dep_form.specs.PointsTo.{Calls}
use Rattle.program_form.specs.Programs.{MethodOf, Program}
use Rattle.program_form.specs.Statements.{HasOpcode, NamesMember}
use Rattle.program_form.specs.Facts.{Holds}
use Rattle.program_form.specs.Effects.{StatementIs}
use Rattle.call_graph.specs.declared.refusals.Refused.{Refused}
use Rattle.call_graph.specs.declared.refusals.RefusedKind.{RefusedKind}
use Rattle.call_graph.specs.declared.refusals.RefusedKind.TheVariants.{Native, Dynamic, Reflection}

-- invokedynamic (JVMS SE 7, 6.5)
abbrev pub IsDynamicCall : ℕ → Type 0
IsDynamicCall op = op ≡ 186

-- the method of this number is native
abbrev pub IsNativeMethod : Program → MethodId → Type 0
IsNativeMethod p m =
    (d : Declared) × (x : Member) × (name : List ℕ) × (descriptor : List ℕ) × MethodOf p m d x name descriptor × IsNative x.flags

-- why a call is refused: it may go to a native method of the folder, it is dynamic, or it names a method of reflection of a class
-- outside the folder
abbrev pub Refuses : Program → Statement → RefusedKind → Type 0
Refuses p t Native = (m : MethodId) × Holds p (Calls t m) × IsNativeMethod p m
Refuses p t Dynamic = HasOpcode p t IsDynamicCall
Refuses p t (Reflection n) = (key : MemberKey) × NamesMember p t key × IsOutside p.classes key.class × IsReflection key.class key.name n

-- the statement is a call that is reached, and is refused for this reason
abbrev pub IsRefused : Program → Refused → Type 0
IsRefused p r = StatementIs p r.place IsCall × Refuses p r.place r.kind

-- native before dynamic before reflection, that by its number
abbrev pub rank_of : RefusedKind → ℕ
rank_of Native = 0
rank_of Dynamic = 1
rank_of (Reflection n) = n + 2

-- by statement, then by kind
abbrev pub RefusedBefore : Refused → Refused → Type 0
RefusedBefore a b = StatementBefore a.place b.place ⊎ ((a.place ≡ b.place) × (rank_of a.kind < rank_of b.kind))

-- the first of which P holds; none where it holds of none
abbrev pub IsFirst : (Refused → Type 0) → Option Refused → Type 0
IsFirst P o = MatchOption o ((r : Refused) → P r → ⊥) (λ r. P r × ((q : Refused) → P q → (q ≡ r) ⊎ RefusedBefore r q))
