-- The claim of the lines, from the laws of their layers.
use Rattle.walk.proofs.WalkLaws.{narrow}
use Rattle.avl.specs.Codecs.{widths_of}
use Rattle.line.proofs.LineLaws.{line-exact, line-last}
use Rattle.line.proofs.CountLaws.{line-commas, line-ends}
use Rattle.line.proofs.RecordLineLaws.{record-rules, line-again, datagram-line-again, same-fields}
use Rattle.line.proofs.WalkLaws.{element-stands, element-cursor}
use Rattle.print.proofs.BoundLaws.{packet-line-room, datagram-line-room, packet-lines-room, datagram-lines-room}
use Rattle.claims.specs.Lines.{LinesKept}

pub lines-kept : LinesKept
lines-kept =
    record {
      exact = line-exact;
      packet_again = line-again;
      datagram_again = datagram-line-again;
      keeps = λ longest codec r h. record-rules longest (widths_of codec) r (narrow codec).id h;
      undivided = λ l h. record { commas = line-commas l h; ends = line-ends l h; last = line-last l };
      same = λ longest most codec other r q h k. same-fields longest most (widths_of codec) (widths_of other) r q (narrow codec).id (narrow other).id h k;
      along = λ s l e k x h. (element-cursor s l e k x h, (element-stands s l e k x h).1);
      room = λ limits p t b.
          record {
            of_packet = packet-line-room limits p t b;
            of_datagram = datagram-line-room limits p t b;
            all_of_packet = packet-lines-room limits p t b;
            all_of_datagram = datagram-lines-room limits p t b;
          };
    }
