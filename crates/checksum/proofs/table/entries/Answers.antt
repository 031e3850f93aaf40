-- The checker works out all 256 CRCs and finds them written.
use mathlib.Core.Path.{refl}
use Rattle.checksum.specs.Crc.{crc}
use Rattle.checksum.proofs.TableLaws.{singles, by-rule}
use Rattle.checksum.proofs.table.entries.Goals as goal

pub returns : goal.returns
unfolding singles crc
returns c = by-rule _ refl
