-- The worked packets with driver tags: each row computes.
use mathlib.Core.Path.{refl}
use Rattle.claims.specs.DriverTags.{tag_rows, AsTagsAreCounted}
use Rattle.claims.proofs.Computing.{computing}

pub tag-table : AsTagsAreCounted
unfolding computing tag_rows
tag-table = (refl, (refl, (refl, (refl, (refl, (refl, (refl, (refl, (refl, (refl, (refl, (refl, (refl, tt)))))))))))))
