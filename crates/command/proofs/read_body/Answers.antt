-- The tests of the walk, one by one.
use Rattle.wire.proofs.Passing.{given_back}
use Rattle.std.specs.Prelude.{Err, Ok}
use Prim.Native.Nat.{ℕ, ◌+◌, ◌-◌}
use native.Mathlib.Omega.{arith}
use mathlib.Core.Path.{◌≡◌, sym, ap, ◌∙◌}
use lib.ListN.{get_or}
use Rattle.wire.proofs.Widths.{get_d-bytes}
use Rattle.wire.proofs.DigitLaws.{numbered_of, numbered-unread}
use Rattle.command.specs.Walks.{body_as}
use Rattle.command.proofs.BodyLaws.{type-missing, type-wrong, size-missing, size-wrong, size_small, imei-wrong, imei-end, text-wrong, text-there}
use Rattle.command.proofs.read_body.Goals as goal

pub returns-then-s-lt1 : goal.returns-then-s-lt1
unfolding body_as
returns-then-s-lt1 c = ap Err c.at.ensures ∙ sym (ap body_as (type-missing _ c.args.s.now c.if-s-lt1.true))

pub returns-then-not-allows : goal.returns-then-not-allows
unfolding body_as
returns-then-not-allows c = ap Err c.at-then-not-allows.ensures ∙ sym (ap body_as (type-wrong _ c.args.s.now c.if-s-lt1.false (sym c.allows.ensures ∙ c.if-not-allows.true)))

pub returns-then-s-lt5 : goal.returns-then-s-lt5
unfolding body_as
returns-then-s-lt5 c = ap Err c.at-then-s-lt5.ensures ∙ sym (ap body_as (size-missing _ c.args.s.now c.if-s-lt1.false (sym c.allows.ensures ∙ c.if-not-allows.false) c.if-s-lt5.true))

pub returns-then-end-s : goal.returns-then-end-s
unfolding body_as
returns-then-end-s c = ap Err c.at-then-end-s.ensures ∙ sym (ap body_as (size-wrong _ _ c.if-s-lt1.false (sym c.allows.ensures ∙ c.if-not-allows.false) c.if-s-lt5.false c.be32-size.ensures c.if-end-s.true))

pub returns-then-size-l : goal.returns-then-size-l
unfolding body_as
returns-then-size-l c = ap Err c.at-then-size-l.ensures ∙ sym (ap body_as (size_small _ _ c.if-s-lt1.false (sym c.allows.ensures ∙ c.if-not-allows.false) c.if-s-lt5.false c.be32-size.ensures c.if-end-s.false c.if-size-l.true))

pub read_time-time-requires : goal.read_time-time-requires
read_time-time-requires c =
    let passed : c.in_ok-imei.at ≡ 5 + c.args.l.imei = let s = c.args.s.now in
    imei-end _ s (get_d-bytes s (λ i. (c.shared_slice_known-1.given i).fits)) c.if-s-lt5.false
    (numbered_of _ (sym c.in_ok-imei.ensures)) in (omega (arith, passed), omega (arith, c.requires))

pub overflow_add-start : goal.overflow_add-start
overflow_add-start c =
    let passed : c.in_ok-imei.at ≡ 5 + c.args.l.imei = let s = c.args.s.now in
    imei-end _ s (get_d-bytes s (λ i. (c.shared_slice_known-1.given i).fits)) c.if-s-lt5.false
    (numbered_of _ (sym c.in_ok-imei.ensures)) in omega (arith, passed)

pub slice_bounds-allows_text-count : goal.slice_bounds-allows_text-count
slice_bounds-allows_text-count c =
    let passed : c.in_ok-imei.at ≡ 5 + c.args.l.imei = let s = c.args.s.now in
    imei-end _ s (get_d-bytes s (λ i. (c.shared_slice_known-1.given i).fits)) c.if-s-lt5.false
    (numbered_of _ (sym c.in_ok-imei.ensures)) in omega (arith, passed)

pub slice_bounds-allows_text-start : goal.slice_bounds-allows_text-start
slice_bounds-allows_text-start c =
    let passed : c.in_ok-imei.at ≡ 5 + c.args.l.imei = let s = c.args.s.now in
    imei-end _ s (get_d-bytes s (λ i. (c.shared_slice_known-1.given i).fits)) c.if-s-lt5.false
    (numbered_of _ (sym c.in_ok-imei.ensures)) in omega (arith, passed)

pub slice_bounds-allows_text-end : goal.slice_bounds-allows_text-end
slice_bounds-allows_text-end c =
    let passed : c.in_ok-imei.at ≡ 5 + c.args.l.imei = let s = c.args.s.now in
    imei-end _ s (get_d-bytes s (λ i. (c.shared_slice_known-1.given i).fits)) c.if-s-lt5.false
    (numbered_of _ (sym c.in_ok-imei.ensures)) in omega (arith, passed)

pub returns-then-not-allows_text : goal.returns-then-not-allows_text
unfolding body_as
returns-then-not-allows_text c =
    let passed : c.in_ok-imei.at ≡ 5 + c.args.l.imei = let s = c.args.s.now in
    imei-end _ s (get_d-bytes s (λ i. (c.shared_slice_known-1.given i).fits)) c.if-s-lt5.false
    (numbered_of _ (sym c.in_ok-imei.ensures)) in ap Err c.at-then-not-allows_text.ensures ∙ sym (ap body_as (text-wrong _ c.args.s.now c.if-s-lt1.false (sym c.allows.ensures ∙ c.if-not-allows.false) c.if-s-lt5.false c.be32-size.ensures c.if-end-s.false c.if-size-l.false (numbered_of _ (sym c.in_ok-imei.ensures)) passed (sym c.allows_text.ensures ∙ c.if-not-allows_text.true)))

pub overflow_sub-result : goal.overflow_sub-result
overflow_sub-result c =
    let passed : c.in_ok-imei.at ≡ 5 + c.args.l.imei = let s = c.args.s.now in
    imei-end _ s (get_d-bytes s (λ i. (c.shared_slice_known-1.given i).fits)) c.if-s-lt5.false
    (numbered_of _ (sym c.in_ok-imei.ensures)) in omega (arith, passed)

pub returns : goal.returns
returns c =
    let passed : c.in_ok-imei.at ≡ 5 + c.args.l.imei = let s = c.args.s.now in
    imei-end _ s (get_d-bytes s (λ i. (c.shared_slice_known-1.given i).fits)) c.if-s-lt5.false
    (numbered_of _ (sym c.in_ok-imei.ensures)) in
    let a = c.args in
    let start = c.in_ok-imei.at + a.l.time in
    ap (λ (t : ℕ). Ok (record { kind = (get_or a.s.now 0 0); imei = c.in_ok-imei.imei; time = t; size = (5 + c.be32-size.result - start) })) c.read_time-time.ensures
    ∙ sym (text-there _ a.s.now c.if-s-lt1.false (sym c.allows.ensures ∙ c.if-not-allows.false) c.if-s-lt5.false c.be32-size.ensures c.if-end-s.false c.if-size-l.false (numbered_of _ (sym c.in_ok-imei.ensures)) passed (sym c.allows_text.ensures ∙ c.if-not-allows_text.false))

pub returns-in_err-imei : goal.returns-in_err-imei
unfolding body_as
returns-in_err-imei c = given_back c.from_residual.ensures.1 ∙ sym (ap body_as (imei-wrong _ _ c.if-s-lt1.false (sym c.allows.ensures ∙ c.if-not-allows.false) c.if-s-lt5.false c.be32-size.ensures c.if-end-s.false c.if-size-l.false (numbered-unread _ (sym c.in_err-imei.ensures))))
