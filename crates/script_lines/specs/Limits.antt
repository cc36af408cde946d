-- How long scripts are, and how much of a line is kept.
use Rattle.std.specs.Prelude.{◌^◌, ℕ}

abbrev pub most_lines : ℕ
most_lines = 2 ^ 20

abbrev pub most_bytes : ℕ
most_bytes = 2 ^ 28

-- a line of which so many bytes are kept is too long, whatever follows, and without its last byte too
abbrev pub kept_bytes : ℕ
kept_bytes = 4098
