-- The TCP login, 17 bytes, and its answer, one byte.
use Rattle.std.specs.Prelude.{ℕ, ◌^◌, ◌<◌, ◌≡◌, Bool, List, [], ◌∷◌, length, leb}
use Rattle.wire.specs.Numbers.{pick}
use Rattle.wire.specs.Answers.{Answer, check, told, is_accepted}
use Rattle.wire.specs.Imei.{imei_text, read_imei}

-- ---- the rules

pub record LoginPacket (imei : ℕ) (p : List ℕ) : Type 0 where
  pub range : imei < 10 ^ 15
  pub whole : p ≡ imei_text imei

-- ---- the judge: 1, 4, 15

unfoldable pub read_login : List ℕ → Answer ℕ
read_login p = check (leb 17 (length p)) 1 (check (leb (length p) 17) 4 (told 0 (read_imei p 0)))

-- ---- the answer

-- 01 for a well-formed login of a unit that the caller knows, else 00
unfoldable pub login_answer : Bool → List ℕ → List ℕ
login_answer known p = pick known (pick (is_accepted (read_login p)) (1 ∷ []) (0 ∷ [])) (0 ∷ [])

-- ---- what the code's answer says
