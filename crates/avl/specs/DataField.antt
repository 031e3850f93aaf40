-- The data field of a data packet or a datagram: codec, count, records, count again.
use Rattle.std.specs.Prelude.{Ok, ℕ, ◌-◌, ◌≤◌, ◌≡◌, true, List, length, eqb, leb}
use Rattle.wire.specs.Sequences.{joined, All}
use Rattle.wire.specs.Envelope.{enclosed, codec_of, first_count, last_count, inner}
use Rattle.wire.specs.Answers.{Answer, check_at, told, on_accepted}
use Rattle.avl.specs.declared.DataResult.{DataResult}
use Rattle.avl.specs.Codecs.{widths_of, is_data_codec}
use Rattle.avl.specs.Records.{AvlRecord, record_bytes, RecordRules}
use Rattle.avl.specs.RecordReader.{all_records}

pub record AvlData : Type 0 where
  pub codec : ℕ
  pub records : List AvlRecord

-- ---- the rules

unfoldable pub data_bytes : AvlData → List ℕ
data_bytes a = enclosed a.codec (length a.records) (joined (record_bytes (widths_of a.codec)) a.records)

pub record DataRules (longest : ℕ) (a : AvlData) : Type 0 where
  pub codec_known : is_data_codec a.codec ≡ true
  pub some_records : 1 ≤ length a.records
  pub count_fits : length a.records ≤ 255
  pub each : All (RecordRules longest (widths_of a.codec)) a.records

-- ---- the judge

-- the answer to a data field of at least three bytes, places from its start: 6 at the codec; 7 at the first count if that is 0, else at the second; then the walk
unfoldable pub read_data : ℕ → List ℕ → Answer AvlData
read_data longest d =
    check_at (is_data_codec (codec_of d)) 6 0
    (check_at (leb 1 (first_count d)) 7 1
    (check_at (eqb (first_count d) (last_count d)) 7 (length d - 1)
    (on_accepted (told 2 (all_records longest (widths_of (codec_of d)) (first_count d) (inner d) 0))
    (λ rs. Ok (record { codec = codec_of d; records = rs })))))

-- ---- the result: codec and number of records

unfoldable pub data_result : AvlData → DataResult
data_result a = record { codec = a.codec; count = length a.records }
