use Rattle.std.specs.Prelude.{Err}
use Rattle.wire.specs.Answers.{on_accepted}
use Rattle.wire.specs.Buffers.{writing, leaving}
use Rattle.wire.proofs.Accepting.{check-passed, check-failed}
use Rattle.command.specs.Writing.{bytes_within, command_bytes}
use borrow.Author.Tests.{le-leb, lt-leb}
use mathlib.Core.Path.{refl, ap}
use Rattle.command.proofs.write_command.Goals as goal

pub returns-then-limits-lt1 : goal.returns-then-limits-lt1
unfolding command_bytes writing leaving on_accepted
returns-then-limits-lt1 c = record {
  result_value = rw (← c.limits_of-limits.ensures) (rw (check-failed _ 21 _ (bytes_within c.limits_of-limits.result c.args.codec c.args.kind c.args.imei.now c.args.time c.args.text.now) (lt-leb _ _ c.if-limits-lt1.true)) (ap Err c.of.ensures));
  out_after = rw (← c.limits_of-limits.ensures) (rw (check-failed _ 21 _ (bytes_within c.limits_of-limits.result c.args.codec c.args.kind c.args.imei.now c.args.time c.args.text.now) (lt-leb _ _ c.if-limits-lt1.true)) refl);
}

pub returns : goal.returns
unfolding command_bytes
returns c = record {
  result_value = rw (← c.limits_of-limits.ensures) (rw (check-passed _ 21 _ (bytes_within c.limits_of-limits.result c.args.codec c.args.kind c.args.imei.now c.args.time c.args.text.now) (le-leb _ _ c.if-limits-lt1.false)) c.write_within.ensures.result_value);
  out_after = rw (← c.limits_of-limits.ensures) (rw (check-passed _ 21 _ (bytes_within c.limits_of-limits.result c.args.codec c.args.kind c.args.imei.now c.args.time c.args.text.now) (le-leb _ _ c.if-limits-lt1.false)) c.write_within.ensures.out_after);
}
