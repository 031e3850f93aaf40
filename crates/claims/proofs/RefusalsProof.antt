-- The refusal table holds: each row computes.
use mathlib.Core.Path.{refl}
use Rattle.claims.specs.Rows.{AsSaid}
use Rattle.claims.specs.Refusals.{packet_refusals, datagram_refusals, login_refusals, command_refusals, lookup_refusals, writer_refusals, contents_refusals, AsThePaperRefuses}
use Rattle.claims.proofs.Computing.{computing}

packet-refusals : AsSaid packet_refusals
unfolding computing packet_refusals
packet-refusals = (refl, (refl, (refl, (refl, (refl, (refl, (refl, (refl, (refl, (refl, (refl, (refl, (refl, (refl, (refl, (refl, (refl, (refl, (refl, (refl, (refl, (refl, (refl, (refl, (refl, (refl, (refl, (refl, tt))))))))))))))))))))))))))))

datagram-refusals : AsSaid datagram_refusals
unfolding computing datagram_refusals
datagram-refusals = (refl, (refl, (refl, (refl, (refl, (refl, (refl, (refl, (refl, (refl, (refl, (refl, (refl, (refl, (refl, (refl, (refl, (refl, (refl, (refl, (refl, tt)))))))))))))))))))))

login-refusals : AsSaid login_refusals
unfolding computing login_refusals
login-refusals = (refl, (refl, (refl, (refl, (refl, tt)))))

command-refusals : AsSaid command_refusals
unfolding computing command_refusals
command-refusals = (refl, (refl, (refl, (refl, (refl, (refl, (refl, (refl, (refl, (refl, (refl, (refl, (refl, (refl, (refl, (refl, (refl, (refl, (refl, (refl, (refl, (refl, (refl, (refl, (refl, (refl, (refl, (refl, tt))))))))))))))))))))))))))))

lookup-refusals : AsSaid lookup_refusals
unfolding computing lookup_refusals
lookup-refusals = (refl, (refl, (refl, (refl, (refl, (refl, (refl, (refl, (refl, (refl, (refl, (refl, (refl, (refl, (refl, (refl, (refl, (refl, (refl, (refl, (refl, tt)))))))))))))))))))))

writer-refusals : AsSaid writer_refusals
unfolding computing writer_refusals
writer-refusals = (refl, (refl, (refl, (refl, (refl, (refl, (refl, (refl, (refl, (refl, (refl, (refl, (refl, (refl, (refl, (refl, (refl, (refl, (refl, (refl, (refl, (refl, (refl, (refl, (refl, (refl, (refl, (refl, (refl, (refl, (refl, (refl, (refl, (refl, (refl, (refl, (refl, tt)))))))))))))))))))))))))))))))))))))

contents-refusals : AsSaid contents_refusals
unfolding computing contents_refusals
contents-refusals = (refl, (refl, (refl, (refl, (refl, (refl, (refl, (refl, (refl, (refl, (refl, (refl, (refl, (refl, (refl, (refl, (refl, (refl, (refl, (refl, (refl, (refl, (refl, (refl, (refl, tt)))))))))))))))))))))))))

pub refusal-table : AsThePaperRefuses
refusal-table = (packet-refusals, (datagram-refusals, (login-refusals, (command-refusals, (lookup-refusals, (writer-refusals, (contents-refusals, tt)))))))
