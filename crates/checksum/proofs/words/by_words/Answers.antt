use Prim.Native.Nat.{◌%◌}
use lib.ListN.{length}
use Rattle.checksum.proofs.WordLaws.{alone}
use Rattle.checksum.proofs.words.by_words.Goals as goal

pub to_the_end-requires : goal.to_the_end-requires
to_the_end-requires c =
    let first = c.odd_bytes-first in
    let s = c.args.s.now in
    (first.ensures.0, first.ensures.1, alone s (length s % 8) first.result first.result first.ensures.2)
