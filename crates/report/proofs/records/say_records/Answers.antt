use Rattle.report.proofs.RecordLaws.{rows-listed, none-listed}
use Rattle.wire.proofs.Widths.{get_d-bytes}
use lib.ListN.{replicate}
use native.Mathlib.Omega.{arith}
use mathlib.Core.Path.{refl, sym, ap, ◌∙◌}
use Rattle.report.proofs.records.say_records.Goals as goal

pub say_rows-requires : goal.say_rows-requires
say_rows-requires g c = let h = rows-listed c.args.family c.args.p.now (get_d-bytes c.args.p.now (λ k. (c.type_inv.p k).fits)) c.args.udp (replicate 640 0) (sym (c.in-Ok.is) ∙ c.contents_at.ensures.answer) c.contents_at.ensures.buffer in record { in_bounds = omega (arith, c.contents_at.auto.table); rows_ahead = h.1 }

pub returns-in-Err : goal.returns-in-Err
returns-in-Err g c = none-listed c.args.family c.args.p.now (get_d-bytes c.args.p.now (λ k. (c.type_inv.p k).fits)) c.args.udp (replicate 640 0) refl (sym (c.in-Err.is) ∙ c.contents_at.ensures.answer)

pub returns-in-Ok : goal.returns-in-Ok
returns-in-Ok g c = let h = rows-listed c.args.family c.args.p.now (get_d-bytes c.args.p.now (λ k. (c.type_inv.p k).fits)) c.args.udp (replicate 640 0) (sym (c.in-Ok.is) ∙ c.contents_at.ensures.answer) c.contents_at.ensures.buffer in c.say_rows.ensures ∙ h.0
