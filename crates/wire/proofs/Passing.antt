-- A `?` that meets a refusal gives it back as it is.
use Rattle.std.specs.Prelude.{◌≡◌, Result, Err}
use mathlib.Core.Path.{ap, ◌∙◌}
use Rattle.std.specs.Result.{IsErrAnd}
use Rattle.std.proofs.lemmas.Result.{err_from_is_err_and}
use Rattle.wire.specs.declared.Refusal.{Refusal}

pub given_back : {A : Type 0} {r : Result A Refusal} {x : Refusal} → IsErrAnd r (λ y. y ≡ x) → r ≡ Err x
given_back {r = r} h = let p = err_from_is_err_and r h in p.1 ∙ ap Err p.2
