-- Records that compute: the first of document 006 for codec 8, one of codec 8 Extended with variable values, and counts that would wrap in a byte.
use mathlib.Core.Path.{◌≡◌, refl}
use mathlib.Core.Bool.{false}
use mathlib.Core.List.{List, [], ◌∷◌, ◌++◌}
use Prim.Native.Nat.{ℕ}
use lib.ListN.{replicate}
use Rattle.wire.specs.Numbers.{number_at, value_from}
use Rattle.wire.specs.Reading.{got, bad, and_then, ◌>>=◌, ◌>>◌, pure, here, require, span, number, bytes, up_to, repeat}
use Rattle.avl.specs.declared.Widths.{Widths}
use Rattle.avl.specs.Codecs.{codec8, codec8_e, kinds}
use Rattle.avl.specs.RecordReader.{value_size, element, group, groups, fixed_fields, avl_record}
use Rattle.avl.specs.Records.{element_count}

-- naming it on an `unfolding` line opens all that the records compute with
unfoldable computing : Unit {0}
unfolding number_at value_from and_then ◌>>=◌ ◌>>◌ pure here require span number bytes up_to repeat kinds value_size element group groups fixed_fields avl_record element_count
computing = tt

codec8_record : List ℕ
codec8_record =
    0x00 ∷ 0x00 ∷ 0x01 ∷ 0x6B ∷ 0x40 ∷ 0xD8 ∷ 0xEA ∷ 0x30 ∷ 0x01 ∷ 0x00 ∷ 0x00 ∷ 0x00 ∷ 0x00 ∷ 0x00 ∷ 0x00 ∷ 0x00 ∷ 0x00 ∷ 0x00 ∷ 0x00 ∷ 0x00 ∷ 0x00 ∷ 0x00 ∷ 0x00 ∷ 0x00
    ∷ 0x01 ∷ 0x05 ∷ 0x02 ∷ 0x15 ∷ 0x03 ∷ 0x01 ∷ 0x01 ∷ 0x01 ∷ 0x42 ∷ 0x5E ∷ 0x0F ∷ 0x01 ∷ 0xF1 ∷ 0x00 ∷ 0x00 ∷ 0x60 ∷ 0x1A ∷ 0x01 ∷ 0x4E ∷ 0x00 ∷ 0x00 ∷ 0x00 ∷ 0x00 ∷ 0x00
    ∷ 0x00 ∷ 0x00 ∷ 0x00 ∷ []

reads-codec8 : avl_record 255 codec8 codec8_record 0
    ≡ got
    (record {
      fixed =
          record {
            timestamp = 0x16B40D8EA30;
            priority = 1;
            longitude = 0;
            latitude = 0;
            altitude = 0;
            angle = 0;
            satellites = 0;
            speed = 0;
            event = 1;
            generation = 0;
          };
      groups =
          (record { id = 0x15; value = 0x03 ∷ [] } ∷ record { id = 0x01; value = 0x01 ∷ [] } ∷ [])
          ∷ (record { id = 0x42; value = 0x5E ∷ 0x0F ∷ [] } ∷ [])
          ∷ (record { id = 0xF1; value = 0 ∷ 0 ∷ 0x60 ∷ 0x1A ∷ [] } ∷ [])
          ∷ (record { id = 0x4E; value = 0 ∷ 0 ∷ 0 ∷ 0 ∷ 0 ∷ 0 ∷ 0 ∷ 0 ∷ [] } ∷ [])
          ∷ [];
    })
    51
unfolding computing codec8_record
reads-codec8 = refl

-- an 8 Extended record with two variable values, one of two bytes and one of none
codec8_e_record : ℕ → List ℕ
codec8_e_record total =
    replicate 24 0 ++ (0 ∷ 0 ∷ 0 ∷ total ∷ 0 ∷ 0 ∷ 0 ∷ 0 ∷ 0 ∷ 0 ∷ 0 ∷ 0 ∷ 0 ∷ 2 ∷ 0x01 ∷ 0x00 ∷ 0 ∷ 2 ∷ 0x41 ∷ 0x42 ∷ 0x01 ∷ 0x00 ∷ 0 ∷ 0 ∷ [])

reads-codec8_e : avl_record 255 codec8_e (codec8_e_record 2) 0
    ≡ got
    (record {
      fixed =
          record {
            timestamp = 0;
            priority = 0;
            longitude = 0;
            latitude = 0;
            altitude = 0;
            angle = 0;
            satellites = 0;
            speed = 0;
            event = 0;
            generation = 0;
          };
      groups =
          [] ∷ [] ∷ [] ∷ [] ∷ (record { id = 256; value = 0x41 ∷ 0x42 ∷ [] } ∷ record { id = 256; value = [] } ∷ []) ∷ [];
    })
    48
unfolding computing codec8_e_record
reads-codec8_e = refl

-- a record of a width set that no codec has: its event ID has three bytes
wide : Widths
wide = record { event = 3; generation = 0; count = 1; id = 1; variable = false }

wide_record : List ℕ
wide_record = replicate 24 0 ++ (0x01 ∷ 0x02 ∷ 0x03 ∷ 0 ∷ 0 ∷ 0 ∷ 0 ∷ 0 ∷ [])

-- the definitions, and the laws with them, are over any width set
reads-wide : avl_record 255 wide wide_record 0
    ≡ got
    (record {
      fixed =
          record {
            timestamp = 0;
            priority = 0;
            longitude = 0;
            latitude = 0;
            altitude = 0;
            angle = 0;
            satellites = 0;
            speed = 0;
            event = 0x010203;
            generation = 0;
          };
      groups = [] ∷ [] ∷ [] ∷ [] ∷ [];
    })
    32
unfolding computing wide wide_record
reads-wide = refl

-- the first four counts add up to 0
refuses-four-counts : avl_record 255 codec8_e (codec8_e_record 0) 0 ≡ bad (record { number = 9; index = 0; place = 0 })
unfolding computing codec8_e_record
refuses-four-counts = refl

-- 128 values of one byte and 128 of two, with a total of 0: the sum is 256, so the total is wrong
wrapping : List ℕ
wrapping = replicate 26 0 ++ (128 ∷ []) ++ replicate 256 0 ++ (128 ∷ []) ++ replicate 386 0

refuses-wrapping : avl_record 255 codec8 wrapping 0 ≡ bad (record { number = 9; index = 0; place = 0 })
unfolding computing wrapping
refuses-wrapping = refl
