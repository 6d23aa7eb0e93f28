-- The version of the interface as one number.
use Rattle.std.specs.Prelude.{ℕ, ◌+◌, ◌*◌}
use Rattle.etherparse_transport_c.specs.Numbers as numbers

-- The factor of the major version. The lowest eight bits of the version are the patch version, the next eight bits the minor version, and
-- all other bits the major version.
abbrev pub major_step : ℕ
major_step = 65536

-- the factor of the minor version
abbrev pub minor_step : ℕ
minor_step = 256

-- the version of this interface
abbrev pub version : ℕ
version = numbers.version_major * major_step + numbers.version_minor * minor_step + numbers.version_patch
