-- The version of the part, which the header states too.
use Rattle.std.specs.Prelude.{ℕ, ◌+◌, ◌*◌}

-- a version as one number, so that a later version is a greater number
abbrev version_number : ℕ → ℕ → ℕ → ℕ
version_number major minor patch = 1000000 * major + 1000 * minor + patch

-- 1.4.1
abbrev pub version : ℕ
version = version_number 1 4 1
