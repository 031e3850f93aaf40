-- what the walk over the space between the counts answers
use Rattle.std.specs.Prelude.{Err}
use Rattle.wire.specs.Answers.{Answer, refusal_at}
use Rattle.walk.specs.declared.Span.{Span}
use Prim.Native.Nat.{ℕ, ◌-◌}
use native.Mathlib.Nat.{add-zero}
use native.Mathlib.Omega.{arith}
use mathlib.Core.List.{List}
use mathlib.Core.Path.{◌≡◌, sym, ap, ap₂, ◌∙◌}
use lib.ListN.{length, take, drop}
use Rattle.wire.specs.Envelope.{codec_of, first_count, last_count, inner}
use Rattle.wire.proofs.Widths.{get_d-bytes}
use Rattle.avl.specs.declared.Widths.{Widths}
use Rattle.walk.specs.Walks.{spanned}
use Rattle.avl.specs.RecordReader.{all_records}
use Rattle.avl.specs.Codecs.{widths_of}
use Rattle.walk.proofs.WalkLaws.{records_of, data-unknown, data-none, data-uneven, data-broken, data-taken, broken-inside, walk_refused}
use Rattle.walk.proofs.read_data.Goals as goal

walk : (longest want : ℕ) (d : List ℕ) (w : Widths) {r : Answer Span} → w ≡ widths_of (codec_of d)
    → r ≡ spanned w want (all_records longest w (first_count d) (take (length d - 1 - 2) (drop 2 d)) 0)
    → r ≡ spanned (widths_of (codec_of d)) want (records_of longest d)
unfolding codec_of first_count inner
walk longest want d w e h =
    let size : length d - 1 - 2 ≡ length d - 3 = omega arith in
    h
    ∙ ap₂ (λ (w : Widths) (l : List ℕ). spanned w want (all_records longest w (first_count d) l 0)) e
    (ap (λ (n : ℕ). take n (drop 2 d)) size)

pub returns-then-not-is_data_codec : goal.returns-then-not-is_data_codec
unfolding codec_of
returns-then-not-is_data_codec c =
    let args = c.args in
    ap Err c.at.ensures ∙ sym (walk_refused args.base args.want _ (data-unknown args.longest args.d.now (sym c.is_data_codec.ensures ∙ c.if-not-is_data_codec.true))
    ∙ ap (λ (n : ℕ). Err (refusal_at 6 n)) (add-zero args.base))

pub returns-then-count-lt1 : goal.returns-then-count-lt1
unfolding codec_of first_count
returns-then-count-lt1 c =
    let args = c.args in
    ap Err c.at-then-count-lt1.ensures ∙ sym (walk_refused args.base args.want _ (data-none args.longest args.d.now (sym c.is_data_codec.ensures ∙ c.if-not-is_data_codec.false) c.if-count-lt1.true))

pub returns-then-count-d : goal.returns-then-count-d
unfolding codec_of first_count last_count
returns-then-count-d c =
    let args = c.args in
    ap Err c.at-then-count-d.ensures ∙ sym (walk_refused args.base args.want _ (data-uneven args.longest args.d.now (sym c.is_data_codec.ensures ∙ c.if-not-is_data_codec.false) c.if-count-lt1.false c.if-count-d.true))

pub overflow_cast-count : goal.overflow_cast-count
overflow_cast-count c = omega (arith, c.type_inv.d 1)

pub overflow_cast-result : goal.overflow_cast-result
overflow_cast-result c = omega (arith, (c.type_inv.d 0).fits)

pub overflow_cast-result-in-Ok : goal.overflow_cast-result-in-Ok
overflow_cast-result-in-Ok c = omega (arith, (c.type_inv.d 1).fits)

-- the fault's place lies in the data field
pub overflow_add-result-in-Err : goal.overflow_add-result-in-Err
unfolding codec_of first_count
overflow_add-result-in-Err c = omega (arith, broken-inside c.args.longest c.args.want c.args.d.now c.requires.0 (sym (walk c.args.longest c.args.want c.args.d.now _ c.widths_of.ensures c.all_records.ensures) ∙ c.in-Err.is))

pub overflow_add-result : goal.overflow_add-result
unfolding codec_of first_count
overflow_add-result c = omega (arith, broken-inside c.args.longest c.args.want c.args.d.now c.requires.0 (sym (walk c.args.longest c.args.want c.args.d.now _ c.widths_of.ensures c.all_records.ensures) ∙ c.in-Err.is), c.requires.1)

pub returns-in-Ok : goal.returns-in-Ok
unfolding codec_of first_count last_count
returns-in-Ok c =
    let args = c.args in
    let d = args.d.now in
    sym (data-taken args.longest d (sym c.is_data_codec.ensures ∙ c.if-not-is_data_codec.false) c.if-count-lt1.false c.if-count-d.false
    args.base args.want (get_d-bytes d (λ k. (c.type_inv.d k).fits)) (sym (walk c.args.longest c.args.want c.args.d.now _ c.widths_of.ensures c.all_records.ensures) ∙ c.in-Ok.is))

pub returns-in-Err : goal.returns-in-Err
unfolding codec_of first_count last_count
returns-in-Err c =
    let args = c.args in
    sym (walk_refused args.base args.want _ (data-broken args.longest args.d.now (sym c.is_data_codec.ensures ∙ c.if-not-is_data_codec.false) c.if-count-lt1.false c.if-count-d.false
    args.want (sym (walk c.args.longest c.args.want c.args.d.now _ c.widths_of.ensures c.all_records.ensures) ∙ c.in-Err.is)))
