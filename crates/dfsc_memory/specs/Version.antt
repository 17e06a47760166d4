-- `dfsc_version`: the version of the interface, DFSC_VERSION of include/dfsc.h.
use Rattle.std.specs.Prelude.{ℕ}

-- 10000 * major + 100 * minor + patch: 0.1.0
abbrev pub version : ℕ
version = 100
