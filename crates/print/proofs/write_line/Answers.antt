use Rattle.print.proofs.WholeLaws.{line-ready, line-enough, line-written}
use Rattle.print.proofs.write_line.Goals as goal

pub write_records-requires-clause-ready : goal.write_records-requires-clause-ready
write_records-requires-clause-ready c = line-ready c.args.codec c.args.s.now c.requires

pub write_records-requires-clause-enough : goal.write_records-requires-clause-enough
write_records-requires-clause-enough c = line-enough c.args.codec c.args.s.now c.requires

pub returns : goal.returns
returns c = line-written c.args.codec c.args.s.now c.write_records.ensures
