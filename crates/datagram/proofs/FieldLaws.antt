-- The data field of an accepted datagram: the part behind its header.
use Rattle.std.specs.Prelude.{Ok}
use Prim.Native.Nat.{ℕ, ◌-◌, ◌≤◌}
use native.Mathlib.Omega.{arith}
use mathlib.Core.Path.{◌≡◌, sym, ap, ◌∙◌, subst}
use mathlib.Core.List.{List}
use lib.ListN.{length, take, drop, length-drop, length-take}
use lib.Dec.{leb}
use borrow.Author.Tests.{leb-true}
use Rattle.wire.specs.declared.Limits.{Limits}
use Rattle.wire.specs.Numbers.{Bytes}
use Rattle.wire.specs.Answers.{from}
use Rattle.wire.proofs.Accepting.{check-accepted, on_accepted-accepted, from-accepted}
use Rattle.avl.specs.DataField.{read_data}
use Rattle.avl.proofs.FieldLaws.{FieldOf}
use Rattle.datagram.specs.Datagrams.{Datagram, judge_header, read_datagram}
use Rattle.datagram.proofs.WalkLaws.{payload-part}
use Rattle.datagram.proofs.DatagramLaws.{length-datagram, datagram-exact}

module _ (limits : Limits) (p : List ℕ) {g : Datagram} (e : read_datagram limits p ≡ Ok g) (b : Bytes p) where
  pub datagram-field : FieldOf limits.longest (take (length p - 23) (drop 23 p)) g.payload
  unfolding read_datagram judge_header
  datagram-field =
      let c₄ = on_accepted-accepted (judge_header limits.datagram p) _ e in
      let c₀ = check-accepted (leb 1 limits.datagram) 21 _ _ c₄.1 in
      let c₁ = check-accepted (leb 26 (length p)) 1 _ _ c₀.1 in
      let c₅ = on_accepted-accepted (from 23 (read_data limits.longest (drop 23 p))) _ c₄.2 in
      let whole : ◌≡◌ {A = Datagram} (record { header = c₄.0; payload = c₅.0 }) g = cc in
      let least = leb-true 26 (length p) c₁.0 in
      let rules = (datagram-exact limits p g b).0 e in
      let size = ap length rules.whole ∙ length-datagram g in
      subst (λ (x : List ℕ). FieldOf limits.longest x g.payload) (sym (payload-part p))
      (record {
        long = simp length-drop (omega arith);
        small = simp length-drop (omega (arith, size, rules.counted));
        accepts = from-accepted 23 _ c₅.1 ∙ ap (λ (x : Datagram). Ok x.payload) whole;
      })

  pub datagram-long : 23 ≤ length p
  datagram-long = omega (arith, datagram-field.long, length-take (length p - 23) (drop 23 p))

  pub datagram-most : length p ≤ limits.datagram
  datagram-most = let rules = (datagram-exact limits p g b).0 e in omega (arith, rules.most, ap length rules.whole)
