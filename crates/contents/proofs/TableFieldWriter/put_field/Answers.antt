use Rattle.contents.proofs.TableLaws.{title-stored, contents-copied}
use Rattle.contents.specs.Words.{title_words}
use Rattle.traverse.specs.Copying.{Ready}
use Rattle.avl.specs.RecordReader.{plain_record}
use Rattle.avl.specs.declared.Widths.{Widths}
use Rattle.wire.specs.Reading.{repeat}
use lib.Dec.{lit≤}
use Rattle.traverse.proofs.CopyLaws.{ready-nearer}
use mathlib.Core.Path.{sym, subst}
use native.Mathlib.Omega.{arith}
use Rattle.contents.proofs.TableFieldWriter.put_field.Goals as goal

pub quad_word-requires : goal.quad_word-requires
quad_word-requires c = (omega arith, omega (arith, c.requires.count_bound), omega arith, omega arith)

pub put_records-requires-clause-ready : goal.put_records-requires-clause-ready
put_records-requires-clause-ready c = subst (λ (w : Widths). Ready (repeat c.args.count (plain_record w)) c.args.s.now 0 2) (sym c.widths_of.ensures) (ready-nearer (lit≤ tt) c.requires.ready)

pub returns : goal.returns
unfolding title_words
returns c = contents-copied (record { packet = c.args.self.packet; unused = c.args.self.unused; avl = c.args.self.avl; imei = c.args.self.imei }) c.args.self.base c.args.codec c.args.count c.widths_of.ensures (title-stored c.args.out.now _ _ c.store_word.ensures c.quad_word.ensures c.store_word-2.ensures) c.put_records.ensures.copies
