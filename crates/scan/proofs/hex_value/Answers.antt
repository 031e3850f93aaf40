-- Each way out is a case of the definition.
use Rattle.scan.specs.Tags.{hex_as}
use Rattle.line.specs.LineReader.{read_hex}
use Rattle.wire.specs.Answers.{check_at}
use native.Mathlib.Omega.{arith}
use borrow.Author.Tests.{le-leb, lt-leb}
use Rattle.scan.proofs.hex_value.Goals as goal

pub returns-in-48-to-57 : goal.returns-in-48-to-57
unfolding hex_as read_hex check_at
returns-in-48-to-57 c = simp (le-leb 48 c.args.c (omega arith), le-leb c.args.c 57 (omega arith))

pub returns-in-65-to-70 : goal.returns-in-65-to-70
unfolding hex_as read_hex check_at
returns-in-65-to-70 c = simp (le-leb 48 c.args.c (omega arith), lt-leb c.args.c 57 (omega arith), le-leb 65 c.args.c (omega arith), le-leb c.args.c 70 (omega arith))

pub returns-in_default : goal.returns-in_default
unfolding hex_as read_hex check_at
returns-in_default c = simp (lt-leb 48 c.args.c (omega arith), lt-leb 65 c.args.c (omega arith))

pub returns-in_default-2 : goal.returns-in_default-2
unfolding hex_as read_hex check_at
returns-in_default-2 c = simp (le-leb 48 c.args.c (omega arith), lt-leb c.args.c 57 (omega arith), lt-leb 65 c.args.c (omega arith))

pub returns-in_default-3 : goal.returns-in_default-3
unfolding hex_as read_hex check_at
returns-in_default-3 c = simp (le-leb 48 c.args.c (omega arith), lt-leb c.args.c 57 (omega arith), le-leb 65 c.args.c (omega arith), lt-leb c.args.c 70 (omega arith))
