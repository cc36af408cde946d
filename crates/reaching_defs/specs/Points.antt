-- The points of a method by their pc.
use Rattle.std.specs.Prelude.{◌≡◌, ◌<◌, ℕ, List, Some, length, slice_get, slice_index}
use Rattle.class_form.specs.declared.body.Point.{Point}

-- the index of the point at each pc
abbrev pub IsIndex : List Point → List ℕ → Type 0
IsIndex points index =
    (k : ℕ) (p : Point) → slice_get points k ≡ Some p → (p.pc < length index) × (slice_index index p.pc ≡ k)
