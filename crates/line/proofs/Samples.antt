-- Fields that compute: what is printed, and what is not taken.
use Rattle.std.specs.Prelude.{Err, Ok}
use mathlib.Core.Path.{◌≡◌, refl}
use mathlib.Core.Bool.{true, false}
use mathlib.Core.List.{[], ◌∷◌}
use lib.IntN.{negsuc}
use Rattle.wire.specs.Answers.{refusal, on_accepted, check_at}
use Rattle.wire.specs.Numbers.{digits, value_from}
use Rattle.text.specs.Decimal.{decimal_in, decimal}
use Rattle.line.specs.Pieces.{before, behind}
use Rattle.line.specs.Lines.{number, unsigned_degrees, degrees, is_plain}
use Rattle.line.specs.LineReader.{all_digits, digits_of, no_spare_zero, read_decimal, read_unsigned, read_degrees, read_hex, none, read_tag, read_value, read_printed}

-- naming it on an `unfolding` line opens all that the fields compute with
unfoldable computing : Unit {0}
unfolding on_accepted check_at digits value_from decimal_in decimal before behind unsigned_degrees degrees is_plain all_digits digits_of no_spare_zero read_decimal read_unsigned read_degrees read_hex read_tag read_value read_printed
computing = tt

-- -0.0000001
prints-minus-one : degrees (negsuc 0) ≡ 45 ∷ 48 ∷ 46 ∷ 48 ∷ 48 ∷ 48 ∷ 48 ∷ 48 ∷ 48 ∷ 49 ∷ []
unfolding computing
prints-minus-one = refl

-- -0.0000000
no-minus-zero : read_degrees (45 ∷ 48 ∷ 46 ∷ 48 ∷ 48 ∷ 48 ∷ 48 ∷ 48 ∷ 48 ∷ 48 ∷ []) ≡ Err (refusal 20)
unfolding computing
no-minus-zero = refl

-- 1=2, and behind a tag
reads-number : read_printed false (49 ∷ 61 ∷ 50 ∷ []) ≡ Ok (number 1 2)
unfolding computing
reads-number = refl

no-number-behind-tag : read_printed true (49 ∷ 61 ∷ 50 ∷ []) ≡ Err (refusal 20)
unfolding computing
no-number-behind-tag = refl

-- \0A and \0a
reads-escape : read_tag none (92 ∷ 48 ∷ 65 ∷ 34 ∷ []) ≡ Ok (10 ∷ [])
unfolding computing
reads-escape = refl

no-lower-case : read_tag none (92 ∷ 48 ∷ 97 ∷ 34 ∷ []) ≡ Err (refusal 20)
unfolding computing
no-lower-case = refl

-- \41 is A
no-spare-escape : read_tag none (92 ∷ 52 ∷ 49 ∷ 34 ∷ []) ≡ Err (refusal 20)
unfolding computing
no-spare-escape = refl
