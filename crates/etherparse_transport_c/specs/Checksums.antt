-- Checksums in the bytes of a packet.
use Rattle.std.specs.Prelude.{ℕ, List}
use Rattle.net_base.specs.StoredChecksum as stored

-- The packet with this checksum stored at this place, like `with_checksum` of `net_base`. The prover unfolds this definition only if a
-- proof asks for it.
unfoldable pub with_checksum : ℕ → List ℕ → ℕ → List ℕ
with_checksum place packet checksum = stored.with_checksum place packet checksum
