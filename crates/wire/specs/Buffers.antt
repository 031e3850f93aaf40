-- Writing into a lent buffer: what a writer answers, and what every byte of the buffer holds afterwards.
use Rattle.std.specs.Prelude.{Err, Ok, ℕ, List, ◌++◌, length, drop, leb}
use Rattle.wire.specs.Numbers.{pick}
use Rattle.wire.specs.Answers.{Answer, on_accepted, check}

-- the number of bytes written, or the refusal, 18 last
unfoldable pub writing : Answer (List ℕ) → List ℕ → Answer ℕ
writing result out = on_accepted result (λ b. check (leb (length b) (length out)) 18 (Ok (length b)))

-- the result at the start and nothing changed after it; a refusal changes nothing
unfoldable pub leaving : Answer (List ℕ) → List ℕ → List ℕ
leaving (Ok b) out = pick (leb (length b) (length out)) (b ++ drop (length b) out) out
leaving (Err r) out = out
