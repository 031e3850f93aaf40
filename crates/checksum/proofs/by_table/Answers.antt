use Rattle.std.proofs.Common.{ℕ, ◌+◌, refl, sym, ap, ◌∙◌, drop}
use Rattle.checksum.specs.Crc.{shifts, absorb, crc_from, crc}
use Rattle.checksum.proofs.CrcLaws.{crc_from-at, crc_from-end}
use Rattle.checksum.proofs.TableLaws.{shifted, shifted_next}
use Rattle.checksum.proofs.by_table.Goals as goal

pub loop-b-init : goal.loop-b-init
unfolding crc
loop-b-init c = refl

pub loop-b-preserved : goal.loop-b-preserved
loop-b-preserved c =
    let s = c.args.s.now in
    let at = c.loop-b.b-index in
    let state = c.loop-b.c in
    let next = shifted_next c.entries-t.result.now c.entries-t.ensures state c.from.result ∙ ap (absorb (shifts 8 state)) c.from.ensures in
    rw c.from-k.ensures (ap (λ (n : ℕ). crc_from n (drop (at + 1) s)) next ∙ sym (crc_from-at (shifts 8 state) s at c.loop-b-test.true) ∙ c.loop-b.invariant)

pub returns : goal.returns
returns c =
    let s = c.args.s.now in
    let state = c.loop-b.c in
    rw c.from-k-2.ensures (shifted c.entries-t.result.now c.entries-t.ensures state ∙ sym (crc_from-end (shifts 8 state) s c.loop-b-test.false) ∙ c.loop-b.invariant)
