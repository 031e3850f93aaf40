-- Fields that fit are read back as they were written.
use Prim.Native.Nat.{ℕ, ◌+◌, ◌*◌, ◌^◌, ◌<◌}
use native.Mathlib.Nat.{add-zero}
use native.Mathlib.Omega.{arith}
use mathlib.Core.Path.{◌≡◌, sym, ap, ◌∙◌}
use mathlib.Core.List.{List, ◌++◌}
use lib.ListN.{get_or, drop}
use lib.Seq.{get_or-drop}
use Rattle.wire.specs.Numbers.{signed}
use Rattle.avl.specs.declared.Widths.{Widths}
use Rattle.avl.specs.Records.{Fixed, FixedRules}
use Rattle.avl.specs.declared.DataResult.{DataResult}
use Rattle.datagram.specs.declared.Header.{Header}
use Rattle.datagram.specs.Datagrams.{HeaderRules}
use Rattle.element.specs.declared.RecordFields.{RecordFields}
use Rattle.element.specs.declared.Value.{Value}
use Rattle.contents.specs.Words.{quad, title_words, record_words, value_word, bits, title_result, title_header, record_of, value_of}

-- four fields of 16 bits
module _ (a b c d : ℕ) (ha : a < 2 ^ 16) (hb : b < 2 ^ 16) (hc : c < 2 ^ 16) (hd : d < 2 ^ 16) where
  pub quad-0 : bits (quad a b c d) 0 16 ≡ a
  unfolding quad bits
  quad-0 = omega (arith, ha, hb, hc, hd)

  pub quad-1 : bits (quad a b c d) 16 16 ≡ b
  unfolding quad bits
  quad-1 = omega (arith, ha, hb, hc, hd)

  pub quad-2 : bits (quad a b c d) 32 16 ≡ c
  unfolding quad bits
  quad-2 = omega (arith, ha, hb, hc, hd)

  pub quad-3 : bits (quad a b c d) 48 16 ≡ d
  unfolding quad bits
  quad-3 = omega (arith, ha, hb, hc, hd)

-- ---- a record

-- the record's fields, and so many elements
abbrev pub fields_from : Fixed → ℕ → RecordFields
fields_from f count =
    record {
      timestamp = f.timestamp;
      priority = f.priority;
      longitude = signed 4 f.longitude;
      latitude = signed 4 f.latitude;
      altitude = signed 2 f.altitude;
      angle = f.angle;
      satellites = f.satellites;
      speed = f.speed;
      event = f.event;
      generation = f.generation;
      elements = count;
    }

-- each field of the record's words that are not made of four fields alike
module _ (w : Widths) (f : Fixed) (h : FixedRules w f) where
  abbrev place : ℕ
  place = f.latitude + 2 ^ 32 * f.longitude

  latitude-again : bits place 0 32 ≡ f.latitude
  unfolding bits
  latitude-again = omega (arith, h.latitude_fits, h.longitude_fits)

  longitude-again : bits place 32 32 ≡ f.longitude
  unfolding bits
  longitude-again = omega (arith, h.latitude_fits, h.longitude_fits)

  abbrev motion : ℕ
  motion = f.speed + 2 ^ 16 * f.satellites + 2 ^ 24 * f.angle + 2 ^ 40 * f.altitude + 2 ^ 56 * f.priority + 2 ^ 60 * f.generation

  speed-again : bits motion 0 16 ≡ f.speed
  unfolding bits
  speed-again = omega (arith, h.speed_fits)

  satellites-again : bits motion 16 8 ≡ f.satellites
  unfolding bits
  satellites-again = omega (arith, h.speed_fits, h.satellites_fit)

  angle-again : bits motion 24 16 ≡ f.angle
  unfolding bits
  angle-again = omega (arith, h.speed_fits, h.satellites_fit, h.angle_fits)

  altitude-again : bits motion 40 16 ≡ f.altitude
  unfolding bits
  altitude-again = omega (arith, h.speed_fits, h.satellites_fit, h.angle_fits, h.altitude_fits)

  priority-again : bits motion 56 4 ≡ f.priority
  unfolding bits
  priority-again = omega (arith, h.speed_fits, h.satellites_fit, h.angle_fits, h.altitude_fits, h.priority_range)

  generation-again : bits motion 60 4 ≡ f.generation
  unfolding bits
  generation-again = omega (arith, h.speed_fits, h.satellites_fit, h.angle_fits, h.altitude_fits, h.priority_range, h.generation_range)

  module _ (start size count : ℕ) (event : f.event < 2 ^ 16) (hs : start < 2 ^ 16) (hn : size < 2 ^ 16) (hc : count < 2 ^ 16) (rest : List ℕ) where
    pub record-again : record_of (record_words f start size count ++ rest) ≡ fields_from f count
    unfolding record_of record_words
    record-again = λ i.
        record {
          timestamp = f.timestamp;
          priority = priority-again i;
          longitude = signed 4 (longitude-again i);
          latitude = signed 4 (latitude-again i);
          altitude = signed 2 (altitude-again i);
          angle = angle-again i;
          satellites = satellites-again i;
          speed = speed-again i;
          event = quad-0 f.event start size count event hs hn hc i;
          generation = generation-again i;
          elements = quad-3 f.event start size count event hs hn hc i;
        }

    pub start-again : bits (get_or (record_words f start size count ++ rest) 3 0) 16 16 ≡ start
    unfolding record_words
    start-again = quad-1 f.event start size count event hs hn hc

    pub size-again : bits (get_or (record_words f start size count ++ rest) 3 0) 32 16 ≡ size
    unfolding record_words
    size-again = quad-2 f.event start size count event hs hn hc

-- ---- a value, and a packet

kind-again : (a b c d : ℕ) → a < 2 ^ 16 → b < 2 ^ 8 → bits (quad a b c d) 16 8 ≡ b
unfolding quad bits
kind-again a b c d h k = omega (arith, h, k)

pub value-again : (v : Value) → v.id < 2 ^ 16 → v.kind < 2 ^ 8 → v.offset < 2 ^ 16 → v.size < 2 ^ 16 → value_of (value_word v) ≡ v
unfolding value_of value_word
value-again v a b c d =
    let kind = kind-again v.id v.kind v.offset v.size a b in
    let wide : v.kind < 2 ^ 16 = omega (arith, b) in
    λ i.
    record {
      id = quad-0 v.id v.kind v.offset v.size a wide c d i;
      kind = kind i;
      offset = quad-2 v.id v.kind v.offset v.size a wide c d i;
      size = quad-3 v.id v.kind v.offset v.size a wide c d i;
    }

module _ (d : DataResult) (h : Header) (codec : d.codec < 2 ^ 16) (count : d.count < 2 ^ 16) (rules : HeaderRules h) (rest : List ℕ) where
  marks : h.unused + 2 ^ 8 * h.avl < 2 ^ 16
  marks = omega (arith, rules.unused_fits, rules.avl_fits)

  pub title-again : title_result (title_words d h ++ rest) ≡ d
  unfolding title_result title_words
  title-again = λ i. record {
    codec = quad-0 d.codec d.count h.packet (h.unused + 2 ^ 8 * h.avl) codec count rules.packet_fits marks i;
    count = quad-1 d.codec d.count h.packet (h.unused + 2 ^ 8 * h.avl) codec count rules.packet_fits marks i;
  }

  abbrev title : ℕ
  title = quad d.codec d.count h.packet (h.unused + 2 ^ 8 * h.avl)

  unused-again : bits title 48 8 ≡ h.unused
  unfolding bits quad
  unused-again = omega (arith, codec, count, rules.packet_fits, rules.unused_fits, rules.avl_fits)

  avl-again : bits title 56 8 ≡ h.avl
  unfolding bits quad
  avl-again = omega (arith, codec, count, rules.packet_fits, rules.unused_fits, rules.avl_fits)

  pub header-again : title_header (title_words d h ++ rest) ≡ h
  unfolding title_header title_words
  header-again = λ i. record {
    packet = quad-2 d.codec d.count h.packet (h.unused + 2 ^ 8 * h.avl) codec count rules.packet_fits marks i;
    unused = unused-again i;
    avl = avl-again i;
    imei = h.imei;
  }

-- ---- a record by its words

module _ (t : List ℕ) (at : ℕ) where
  pub first-behind : get_or t at 0 ≡ get_or (drop at t) 0 0
  first-behind = ap (λ (n : ℕ). get_or t n 0) (sym (add-zero at)) ∙ sym (get_or-drop at t 0 0)

  pub word-behind : (k from n : ℕ) → bits (get_or t (at + k) 0) from n ≡ bits (get_or (drop at t) k 0) from n
  word-behind k from n = ap (λ (x : ℕ). bits x from n) (sym (get_or-drop at t k 0))
