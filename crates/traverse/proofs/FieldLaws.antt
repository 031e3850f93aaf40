-- What is written of a data field: at once where the buffer is long enough for every text, else measured first.
use Rattle.std.specs.Prelude.{Err, Ok}
use Prim.Native.Nat.{ℕ, ◌-◌, ◌≤◌, ◌<◌}
use native.Mathlib.Omega.{arith}
use mathlib.Core.Path.{◌≡◌, refl, sym, ap, ◌∙◌, subst}
use mathlib.Core.List.{List, [], ◌∷◌, ◌++◌}
use lib.ListN.{length, drop, length-drop}
use lib.Seq.{length-take-le}
use Rattle.wire.specs.Numbers.{Bytes}
use Rattle.wire.specs.Reading.{Read, got, repeat}
use Rattle.wire.specs.declared.Refusal.{Refusal}
use Rattle.wire.specs.Answers.{Answer, refusal, on_accepted}
use Rattle.wire.specs.Buffers.{writing, leaving}
use Rattle.wire.proofs.Widths.{bytes_take, bytes_drop}
use Rattle.wire.proofs.BufferLaws.{writing-done, writing-short, leaving-done, leaving-short, sets-front}
use Rattle.avl.specs.Codecs.{widths_of}
use Rattle.avl.specs.Records.{AvlRecord}
use Rattle.avl.specs.RecordReader.{plain_record}
use Rattle.avl.specs.DataField.{AvlData}
use Rattle.avl.proofs.FieldLaws.{FieldOf, codec, count, body, field-read}
use Rattle.traverse.specs.declared.Moved.{Moved}
use Rattle.traverse.specs.Copying.{Ready, Copies}
use Rattle.traverse.specs.Fields.{field_text, Field, Writes, WritesRecords, HasRoom, FieldRoom}

length-zero : {A : Type 0} (l : List A) → length l ≡ 0 → l ≡ []
length-zero [] e = refl
length-zero (x ∷ l) e = absurd (omega arith)

pub field_of : {longest : ℕ} {d : List ℕ} {a : AvlData} → FieldOf longest d a → Field d
field_of {longest} {d} {a} k = record { long = k.long; small = k.small; longest = longest; content = a; accepts = k.accepts }

-- its records can be read, and stored from a small place on
pub field-ready : (d : List ℕ) (to : ℕ) → to ≤ 5 → Bytes d → Field d → Ready (repeat (count d) (plain_record (widths_of (codec d)))) (body d) 0 to
field-ready d to h b k =
    let r = field-read d k.longest k.content k.accepts in
    let size = length-take-le (length d - 1 - 2) (drop 2 d) (simp length-drop (omega arith)) in
    record {
      bytes = bytes_take (length d - 1 - 2) (drop 2 d) (bytes_drop 2 d b);
      small = omega (arith, size, k.small);
      inside = omega arith;
      behind = omega (arith, h);
      content = r.records;
      next = r.end;
      reads = r.reads;
    }

-- ---- records

module _ (codec count : ℕ) (text : AvlData → List ℕ) (s : List ℕ) where
  -- a run over a buffer
  abbrev pub Run : List ℕ → List ℕ → Moved → Type 0
  Run before after r = Copies (repeat count (plain_record (widths_of codec))) (field_text text codec) s 0 0 before after r

  abbrev Reads : List AvlRecord → ℕ → Type 0
  Reads rs n = repeat count (plain_record (widths_of codec)) s 0 ≡ got rs n

  ran : {before after : List ℕ} {r : Moved} → Run before after r → (rs : List AvlRecord) (n : ℕ) → Reads rs n → r.to ≡ length (field_text text codec 0 rs)
  ran c rs n e = omega (arith, ap (λ (x : Moved). x.to) (c.moves _ _ e))

  -- a run over a buffer that is long enough
  writes-whole : {out after : List ℕ} {r : Moved} {k : ℕ} → Run out after r
      → ((rs : List AvlRecord) (n : ℕ) → Reads rs n → (k ≡ length (field_text text codec 0 rs)) × (length (field_text text codec 0 rs) ≤ length out))
      → WritesRecords codec count text s out after (Ok k)
  writes-whole {out} c h =
      record {
        answer = λ rs n e. ap Ok (h rs n e).0 ∙ sym (writing-done (field_text text codec 0 rs) out (h rs n e).1);
        buffer = λ rs n e. c.stores _ _ e ∙ sets-front (field_text text codec 0 rs) out (h rs n e).1 ∙ sym (leaving-done (field_text text codec 0 rs) out (h rs n e).1);
      }

  pub writes-room : {out after : List ℕ} {r : Moved} {room : ℕ} → HasRoom codec count text s room → room ≤ length out → Run out after r
      → WritesRecords codec count text s out after (Ok r.to)
  writes-room h i c = writes-whole c (λ rs n e. (ran c rs n e, omega (arith, h rs n e, i)))

  -- a run over no buffer changes nothing
  module _ {A : Type 0} (numbers : List A → List ℕ) (same : (l : List A) → length (numbers l) ≡ length l) {none last out : List A} {r : Moved}
      (run : Run (numbers none) (numbers last) r) (empty : length last ≡ 0) where
    unchanged : (last ++ out ≡ out) × (length (last ++ out) ≡ length (numbers out))
    unchanged = let none = ap (λ (l : List A). l ++ out) (length-zero last empty) in (none, ap length none ∙ sym (same out))

    pub writes_short : length (last ++ out) < r.to → WritesRecords codec count text s (numbers out) (numbers (last ++ out)) (Err (refusal 18))
    writes_short h =
        record {
          answer = λ rs n e. sym (writing-short (field_text text codec 0 rs) (numbers out) (omega (arith, h, ran run rs n e, unchanged.1)));
          buffer = λ rs n e. ap numbers unchanged.0 ∙ sym (leaving-short (field_text text codec 0 rs) (numbers out) (omega (arith, h, ran run rs n e, unchanged.1)));
        }

    pub writes-done : {after : List A} {q : Moved} → r.to ≤ length (last ++ out) → Run (numbers (last ++ out)) (numbers after) q
        → WritesRecords codec count text s (numbers out) (numbers after) (Ok r.to)
    writes-done {after} {q} h c =
        writes-whole (subst (λ (l : List A). Run (numbers l) (numbers after) q) unchanged.0 c) (λ rs n e. (ran run rs n e, omega (arith, h, ran run rs n e, unchanged.1)))

-- ---- of a data field

module _ (text : AvlData → List ℕ) (d : List ℕ) where
  pub room-inside : {room : ℕ} → Field d → FieldRoom text d room → HasRoom (codec d) (count d) text (body d) room
  room-inside {room} k h rs n e =
      let f = field-read d k.longest k.content k.accepts in
      let same : k.content ≡ record { codec = codec d; records = rs } = f.is ∙ ap (λ (l : List AvlRecord). record { codec = codec d; records = l }) (got-same f.reads e) in
      omega (arith, h k.longest k.content k.accepts, ap (λ (a : AvlData). length (text a)) same)
    where
      got-same : {r : Read (List AvlRecord)} {a b : List AvlRecord} {m n : ℕ} → r ≡ got a m → r ≡ got b n → a ≡ b
      got-same i j = cc

  pub writes-field : {before after : List ℕ} {r : Answer ℕ} → WritesRecords (codec d) (count d) text (body d) before after r → Writes text d before after r
  writes-field {before} w =
      record {
        answer = λ longest a e. let f = field-read d longest a e in w.answer f.records f.end f.reads ∙ ap (λ (x : AvlData). writing (Ok (text x)) before) (sym f.is);
        buffer = λ longest a e. let f = field-read d longest a e in w.buffer f.records f.end f.reads ∙ ap (λ (x : AvlData). leaving (Ok (text x)) before) (sym f.is);
      }

-- ---- the call around it

-- what a writer of `result` answers and leaves
abbrev pub Answers : Answer (List ℕ) → List ℕ → List ℕ → Answer ℕ → Type 0
Answers result before after r = (r ≡ writing result before) × (after ≡ leaving result before)

pub written-field : {text : AvlData → List ℕ} {longest : ℕ} {d : List ℕ} {a : AvlData} {result : Answer (List ℕ)} {before after : List ℕ} {r : Answer ℕ} → FieldOf longest d a
    → result ≡ Ok (text a) → Writes text d before after r → Answers result before after r
written-field {longest = longest} {a = a} {before = before} k e w =
    (w.answer longest a k.accepts ∙ ap (λ x. writing x before) (sym e), w.buffer longest a k.accepts ∙ ap (λ x. leaving x before) (sym e))

pub refused-whole : {result : Answer (List ℕ)} {before : List ℕ} {x : Refusal} → result ≡ Err x → Answers result before before (Err x)
unfolding writing leaving on_accepted
refused-whole {before = before} e = (ap (λ y. writing y before) (sym e), ap (λ y. leaving y before) (sym e))
