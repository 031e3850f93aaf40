-- Invariant: the table has its rule, and the CRC of the rest, from `c` after its eight shifts, is the CRC of the whole.
use Rattle.std.proofs.Common.{◌≡◌, drop}
use Rattle.checksum.specs.Crc.{shifts, crc_from, crc}
use Rattle.checksum.proofs.by_table.Given as goal

abbrev pub invariant-loop-b : goal.invariant-loop-b
invariant-loop-b l = crc_from (shifts 8 l.c) (drop l.b-index l.s) ≡ crc l.s
