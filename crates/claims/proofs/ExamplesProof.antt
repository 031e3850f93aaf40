-- The worked examples compute to what they should.
use mathlib.Core.Path.{refl}
use Rattle.claims.proofs.Computing.{computing}
use Rattle.claims.specs.BenchSheet.{command_fields}
use Rattle.claims.specs.Examples.{packet_fields, login_fields, datagram_fields, examples, AsTheDocumentsHave}

pub worked-examples : AsTheDocumentsHave
unfolding computing command_fields packet_fields login_fields datagram_fields examples
worked-examples = (refl, (refl, (refl, (refl, (refl, (refl, (refl, (refl, (refl, (refl, (refl, (refl, (refl, (refl, (refl, (refl, (refl, (refl, tt))))))))))))))))))
