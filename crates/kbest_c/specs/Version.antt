-- The version of the library as one number.
-- Assumes nothing.
use Rattle.std.specs.Prelude.{ℕ, ◌+◌, ◌*◌}

-- Its three numbers, each below 100 but the first, so that a later version is a larger number.
abbrev pub version_of : ℕ → ℕ → ℕ → ℕ
version_of first second third = first * 10000 + second * 100 + third

-- The version in the file VERSION.
abbrev pub version : ℕ
version = version_of 1 8 0
