use Rattle.std.specs.Prelude.{Ok}
use mathlib.Core.Path.{sym, ap, ◌∙◌}
use mathlib.Core.Bool.{Bool, true, false}
use Rattle.wire.specs.Limits.{limits_of}
use Rattle.wire.proofs.Widths.{get_d-bytes}
use Rattle.lookup.specs.Answers.{start_of}
use Rattle.lookup.specs.Lookups.{tcp_source, last_known}
use Rattle.lookup.proofs.KnownLaws.{last_view, known_in, known-nowhere, known-place, known-empty}
use Rattle.lookup.proofs.last_known_view.Goals as goal

pub view_of-requires : goal.view_of-requires
view_of-requires c = (last_view (limits_of c.args.family) c.args.older.now (get_d-bytes c.args.older.now (λ k. (c.type_inv.older k).fits)) c.args.id (Ok c.in-Ok.found.value) (known_in c.args.id (tcp_source (limits_of c.args.family) c.args.newer.now) (tcp_source (limits_of c.args.family) c.args.older.now) true c.in-Ok.found.value (ap (λ (b : Bool). (Ok (record { older = b; value = c.in-Ok.found.value }))) (sym c.if-found.true) ∙ (sym c.in-Ok.is) ∙ c.last_known-known.ensures.value)).0).0

pub view_of-requires-else-found : goal.view_of-requires-else-found
view_of-requires-else-found c = (last_view (limits_of c.args.family) c.args.newer.now (get_d-bytes c.args.newer.now (λ k. (c.type_inv.newer k).fits)) c.args.id (Ok c.in-Ok.found.value) (known_in c.args.id (tcp_source (limits_of c.args.family) c.args.newer.now) (tcp_source (limits_of c.args.family) c.args.older.now) false c.in-Ok.found.value (ap (λ (b : Bool). (Ok (record { older = b; value = c.in-Ok.found.value }))) (sym c.if-found.false) ∙ (sym c.in-Ok.is) ∙ c.last_known-known.ensures.value)).0).0

pub returns-in-Err : goal.returns-in-Err
returns-in-Err c = record { bytes = known-nowhere (last_known c.args.id (tcp_source (limits_of c.args.family) c.args.newer.now) (tcp_source (limits_of c.args.family) c.args.older.now)) ((sym c.in-Err.is) ∙ c.last_known-known.ensures.value); place = known-empty (last_known c.args.id (tcp_source (limits_of c.args.family) c.args.newer.now) (tcp_source (limits_of c.args.family) c.args.older.now)) c.args.newer.ref_ptr c.args.older.ref_ptr ((sym c.in-Err.is) ∙ c.last_known-known.ensures.value) }

pub returns-then-found : goal.returns-then-found
unfolding start_of
returns-then-found c =
    let known = (ap (λ (b : Bool). (Ok (record { older = b; value = c.in-Ok.found.value }))) (sym c.if-found.true) ∙ (sym c.in-Ok.is) ∙ c.last_known-known.ensures.value) in
    let k = known_in c.args.id (tcp_source (limits_of c.args.family) c.args.newer.now) (tcp_source (limits_of c.args.family) c.args.older.now) true c.in-Ok.found.value known in record { bytes = c.view_of.ensures.bytes ∙ (last_view (limits_of c.args.family) c.args.older.now (get_d-bytes c.args.older.now (λ k. (c.type_inv.older k).fits)) c.args.id (Ok c.in-Ok.found.value) k.0).1 ∙ k.1; place = c.view_of.ensures.place ∙ known-place (last_known c.args.id (tcp_source (limits_of c.args.family) c.args.newer.now) (tcp_source (limits_of c.args.family) c.args.older.now)) c.args.newer.ref_ptr c.args.older.ref_ptr true c.in-Ok.found.value known }

pub returns-else-found : goal.returns-else-found
unfolding start_of
returns-else-found c =
    let known = (ap (λ (b : Bool). (Ok (record { older = b; value = c.in-Ok.found.value }))) (sym c.if-found.false) ∙ (sym c.in-Ok.is) ∙ c.last_known-known.ensures.value) in
    let k = known_in c.args.id (tcp_source (limits_of c.args.family) c.args.newer.now) (tcp_source (limits_of c.args.family) c.args.older.now) false c.in-Ok.found.value known in record { bytes = c.view_of-else-found.ensures.bytes ∙ (last_view (limits_of c.args.family) c.args.newer.now (get_d-bytes c.args.newer.now (λ k. (c.type_inv.newer k).fits)) c.args.id (Ok c.in-Ok.found.value) k.0).1 ∙ k.1; place = c.view_of-else-found.ensures.place ∙ known-place (last_known c.args.id (tcp_source (limits_of c.args.family) c.args.newer.now) (tcp_source (limits_of c.args.family) c.args.older.now)) c.args.newer.ref_ptr c.args.older.ref_ptr false c.in-Ok.found.value known }
