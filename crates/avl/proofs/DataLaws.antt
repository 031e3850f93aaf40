-- The judge of a data field accepts exactly what keeps the rules.
use Rattle.std.specs.Prelude.{Ok}
use Prim.Native.Nat.{ℕ, ◌≤◌, ◌<◌}
use native.Mathlib.Omega.{arith}
use mathlib.Core.Path.{◌≡◌, refl, sym, ap, ap₂, ◌∙◌, subst}
use mathlib.Core.Bool.{Bool, true, false}
use mathlib.Core.Logic.{◌↔◌}
use mathlib.Core.List.{List}
use lib.ListN.{length}
use lib.Dec.{eqb}
use borrow.Author.Tests.{le-leb, leb-true, eq-eqb, eqb-true}
use Rattle.wire.specs.Numbers.{Bytes, pick}
use Rattle.wire.specs.Sequences.{joined}
use Rattle.wire.specs.Envelope.{enclosed, codec_of, first_count, inner}
use Rattle.wire.specs.Answers.{told, on_accepted}
use Rattle.wire.proofs.Enclosed.{enclosed-parts, codec-enclosed, first-enclosed, last-enclosed, inner-enclosed, bytes-inner, first-lt}
use Rattle.wire.proofs.Accepting.{check-accepted, check-passed, on_accepted-accepted, on_accepted-passed, told-accepted, told-got}
use Rattle.avl.specs.Codecs.{widths_of, is_data_codec}
use Rattle.avl.specs.Records.{record_bytes}
use Rattle.avl.specs.RecordReader.{all_records}
use Rattle.avl.specs.DataField.{AvlData, data_bytes, DataRules, read_data}
use Rattle.avl.proofs.RecordLaws.{all_sound, all-complete}

data-sound : (longest : ℕ) (d : List ℕ) (a : AvlData) → Bytes d → 3 ≤ length d → read_data longest d ≡ Ok a → DataRules longest a × (d ≡ data_bytes a)
unfolding read_data data_bytes
data-sound longest d a h l e =
    let c₁ = check-accepted (is_data_codec (codec_of d)) 6 _ _ e in
    let c₂ = check-accepted _ 7 _ _ c₁.1 in
    let c₃ = check-accepted _ 7 _ _ c₂.1 in
    let c₄ = on_accepted-accepted _ _ c₃.1 in
    let c₅ = told-accepted _ _ c₄.1 in
    let rs = c₄.0 in
    let w = (all_sound longest (widths_of (codec_of d)) (first_count d) (inner d) (bytes-inner d h)).if-got _ _ c₅.1 in
    let small : first_count d < 256 = first-lt d h in
    let positive : 1 ≤ first_count d = leb-true _ _ c₂.0 in
    let result : ◌≡◌ {A = AvlData} (record { codec = codec_of d; records = rs }) a = cc in
    subst (λ (x : AvlData). DataRules longest x × (d ≡ enclosed x.codec (length x.records) (joined (record_bytes (widths_of x.codec)) x.records))) result (
      record { codec_known = c₁.0; some_records = omega (arith, w.1); count_fits = omega (arith, w.1); each = w.2 },
      enclosed-parts d h l (eqb-true _ _ c₃.0) ∙ ap₂ (enclosed (codec_of d)) (sym w.1) w.0,
    )

pub codec-fits : (codec : ℕ) → is_data_codec codec ≡ true → codec < 256
unfolding is_data_codec
codec-fits codec e = go (eqb codec 0x08) (eqb codec 0x8E) refl refl e
  where
    go : (a b : Bool) → eqb codec 0x08 ≡ a → eqb codec 0x8E ≡ b → pick a true (pick b true (eqb codec 0x10)) ≡ true → codec < 256
    go true b x y t = omega (arith, eqb-true codec 0x08 x)
    go false true x y t = omega (arith, eqb-true codec 0x8E y)
    go false false x y t = omega (arith, eqb-true codec 0x10 t)

-- with a known codec and equal counts, a data field is what the walk makes of its space
pub data-walked : (longest codec count : ℕ) (b : List ℕ) → is_data_codec codec ≡ true → 1 ≤ count → count ≤ 255
    → read_data longest (enclosed codec count b) ≡ on_accepted (told 2 (all_records longest (widths_of codec) count b 0)) (λ rs. Ok (record { codec = codec; records = rs }))
unfolding read_data
data-walked longest codec count b known some few =
    let c = codec-fits codec known in
    let m : count < 256 = omega arith in
    simp (codec-enclosed codec count b c m, first-enclosed codec count b c m, last-enclosed codec count b c m, inner-enclosed codec count b c m)
    (check-passed _ 6 _ _ known
    ∙ check-passed _ 7 _ _ (le-leb 1 count some)
    ∙ check-passed _ 7 _ _ (eq-eqb count count refl))

pub data-complete : (longest : ℕ) (a : AvlData) → DataRules longest a → read_data longest (data_bytes a) ≡ Ok a
unfolding data_bytes
data-complete longest a h =
    let w = widths_of a.codec in
    data-walked longest a.codec (length a.records) (joined (record_bytes w) a.records) h.codec_known h.some_records h.count_fits
    ∙ on_accepted-passed _ _ (told-got _ _ (all-complete longest w a.records h.each))

-- the judge accepts exactly what keeps the rules
pub data-exact : (longest : ℕ) (d : List ℕ) (a : AvlData) → Bytes d → 3 ≤ length d
    → (read_data longest d ≡ Ok a) ↔ (DataRules longest a × (d ≡ data_bytes a))
data-exact longest d a h l =
    (data-sound longest d a h l, λ k. ap (read_data longest) k.1 ∙ data-complete longest a k.0)
