-- What the answer of the data field's walk tells of the judge.
use Rattle.walk.specs.declared.DataWalk.{DataWalk}
use Rattle.std.specs.Prelude.{Err, Ok}
use Prim.Native.Nat.{ℕ, ◌<◌}
use native.Mathlib.Omega.{arith}
use mathlib.Core.Path.{◌≡◌, refl, ap, subst}
use lib.ListN.{length}
use Rattle.wire.specs.declared.Refusal.{Refusal}
use Rattle.wire.specs.Answers.{Answer}
use Rattle.walk.specs.declared.Span.{Span}
use Rattle.avl.specs.Codecs.{widths_of}
use Rattle.avl.specs.DataField.{AvlData, DataRules}
use Rattle.avl.proofs.DataLaws.{codec-fits}
use Rattle.walk.specs.Walks.{span_of, data_walk}

-- an accepted data field, as the walk tells of it
pub record TakenOf (want : ℕ) (r : Answer AvlData) (codec count : ℕ) (span : Span) : Type 0 where
  pub content : AvlData
  pub accepts : r ≡ Ok content
  pub codec_is : content.codec ≡ codec
  pub count_is : length content.records ≡ count
  pub span_is : span_of (widths_of content.codec) want 0 content.records ≡ span

pub taken : (want : ℕ) (r : Answer AvlData) {codec count : ℕ} {span : Span} → data_walk want r ≡ Ok (record { codec = codec; count = count; span = span }) → TakenOf want r codec count span
unfolding data_walk
taken want (Ok a) {codec} {count} {span} e =
    let same : ◌≡◌ {A = DataWalk} (record { codec = a.codec; count = length a.records; span = span_of (widths_of a.codec) want 0 a.records }) (record { codec = codec; count = count; span = span }) = cc in
    record { content = a; accepts = refl; codec_is = ap (λ (k : DataWalk). k.codec) same; count_is = ap (λ (k : DataWalk). k.count) same; span_is = ap (λ (k : DataWalk). k.span) same }
taken want (Err x) e = absurd (let z : ◌≡◌ {A = ℕ} 0 1 = cc in omega arith)

-- codec and count fit a byte
pub taken-fits : {longest want codec count : ℕ} {span : Span} {r : Answer AvlData} (k : TakenOf want r codec count span) → DataRules longest k.content → (codec < 256) × (count < 256)
taken-fits k rules = (subst (λ (n : ℕ). n < 256) k.codec_is (codec-fits _ rules.codec_known), omega (arith, rules.count_fits, k.count_is))

pub not_taken : (want : ℕ) (r : Answer AvlData) {x : Refusal} → data_walk want r ≡ Err x → r ≡ Err x
unfolding data_walk
not_taken want (Ok a) e = absurd (let z : ◌≡◌ {A = ℕ} 0 1 = cc in omega arith)
not_taken want (Err y) e = ap Err (cc)
