-- The CRC table.
use Rattle.std.specs.Prelude.{ℕ, ◌<◌, ◌≡◌, List, [], ◌∷◌, length, get_or}
use Rattle.checksum.specs.Crc.{crc}

-- 256 entries, each the CRC of the single byte that is its index
unfoldable pub CrcTable : List ℕ → Type 0
CrcTable t = (length t ≡ 256) × ((b : ℕ) → b < 256 → get_or t b 0 ≡ crc (b ∷ []))
