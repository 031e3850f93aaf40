-- 01 for a login that is read, of a known unit.
use Rattle.wire.specs.Answers.{is_accepted}
use Rattle.login.specs.Login.{login_answer}
use Rattle.login.proofs.answer_byte.Goals as goal

pub returns-in-Ok : goal.returns-in-Ok
unfolding login_answer is_accepted
returns-in-Ok c = simp (c.if-known.true, ← c.read_login.ensures, c.in-Ok.is)

pub returns-in-Err : goal.returns-in-Err
unfolding login_answer is_accepted
returns-in-Err c = simp (c.if-known.true, ← c.read_login.ensures, c.in-Err.is)

pub returns : goal.returns
unfolding login_answer
returns c = simp c.if-known.false
