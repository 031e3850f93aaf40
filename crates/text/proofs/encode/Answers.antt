use Rattle.text.proofs.HexLaws.{encode-turn, encode-done}
use Rattle.text.proofs.encode.Goals as goal

pub loop-i-preserved : goal.loop-i-preserved
loop-i-preserved c = rw (c.store_byte-in-loop-i.ensures, c.store_byte.ensures, c.glyph_of-in-loop-i.ensures, c.glyph_of.ensures) (encode-turn c.loop-i.invariant c.loop-i-test.true)

pub returns-clause-buffer : goal.returns-clause-buffer
returns-clause-buffer c = encode-done c.loop-i.invariant c.loop-i-test.false
