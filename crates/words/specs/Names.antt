-- Names of classes on the command line.
use Rattle.std.specs.Prelude.{ℕ, List, map, nat_eq, if◌then◌else◌}

abbrev pub with_slash : ℕ → ℕ
with_slash b = if nat_eq b 46 then 47 else b

-- a name of a class, which may have dots for slashes
abbrev pub with_slashes : List ℕ → List ℕ
with_slashes name = map with_slash name
