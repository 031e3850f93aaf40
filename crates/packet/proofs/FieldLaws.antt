-- The data field of an accepted packet: the part behind the first eight bytes and before the last four.
use Rattle.std.specs.Prelude.{Ok}
use Prim.Native.Nat.{ℕ, ◌-◌, ◌≤◌}
use native.Mathlib.Omega.{arith}
use mathlib.Core.Path.{◌≡◌, ap, ◌∙◌, subst}
use mathlib.Core.List.{List}
use lib.ListN.{length, take, drop, length-take}
use Rattle.wire.specs.declared.Limits.{Limits}
use Rattle.wire.specs.Numbers.{Bytes}
use Rattle.wire.proofs.Accepting.{on_accepted-accepted, from-accepted}
use Rattle.frame.specs.Frame.{unframe, framing}
use Rattle.frame.proofs.FrameLaws.{frame-exact}
use Rattle.frame.proofs.FramingLaws.{framing-field}
use Rattle.avl.specs.DataField.{AvlData}
use Rattle.avl.proofs.FieldLaws.{FieldOf}
use Rattle.packet.specs.DataPackets.{read_packet}

module _ (limits : Limits) (p : List ℕ) {a : AvlData} (e : read_packet limits p ≡ Ok a) (b : Bytes p) where
  pub packet-field : FieldOf limits.longest (take (length p - 4 - 8) (drop 8 p)) a
  unfolding read_packet framing
  packet-field =
      let i = on_accepted-accepted (unframe limits.largest p) _ e in
      let d = i.0 in
      let rules = ((frame-exact limits.largest p d b).0 i.1).0 in
      let f = framing-field limits.largest p (length d) (ap framing i.1) b in
      let first : d ≡ take (length d) (drop 8 p) = cc in
      let size : length d ≡ length p - 4 - 8 = omega (arith, f.1) in
      subst (λ (x : List ℕ). FieldOf limits.longest x a) (first ∙ ap (λ (n : ℕ). take n (drop 8 p)) size)
      (record { long = rules.least; small = omega (arith, rules.counted); accepts = from-accepted 8 _ i.2 })

  pub packet-long : 12 ≤ length p
  packet-long = omega (arith, packet-field.long, length-take (length p - 4 - 8) (drop 8 p))

  pub packet-most : length p ≤ limits.largest
  unfolding read_packet framing
  packet-most =
      let i = on_accepted-accepted (unframe limits.largest p) _ e in
      let rules = ((frame-exact limits.largest p i.0 b).0 i.1).0 in
      let f = framing-field limits.largest p (length i.0) (ap framing i.1) b in
      omega (arith, f.1, rules.most)
