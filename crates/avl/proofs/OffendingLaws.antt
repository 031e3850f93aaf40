-- The walk is decided by the bytes up to the end of the offending field, and lies within them.
use Prim.Native.Nat.{ℕ, zero, suc, ◌+◌, ◌-◌, ◌≤◌, ◌<◌}
use native.Mathlib.Omega.{arith}
use mathlib.Core.Path.{◌≡◌, refl, ap, ◌∙◌}
use mathlib.Core.Bool.{Bool, true, false}
use mathlib.Core.List.{List, [], ◌∷◌}
use lib.ListN.{length}
use lib.Dec.{eqb, leb}
use Rattle.wire.specs.Numbers.{number_at, pick}
use Rattle.wire.specs.Reading.{Read, got, bad, Reader, ◌>>◌, pure, number, bytes, up_to}
use Rattle.wire.proofs.Exactness.{then-got}
use Rattle.wire.proofs.Walking.{short}
use Rattle.wire.proofs.Locality.{Local, local-got, local-bad, local-then, local-pure, local-here, local-require, local-number, local-bytes, local-up_to, local-repeat}
use Rattle.avl.specs.declared.Widths.{Widths}
use Rattle.avl.specs.Codecs.{kinds}
use Rattle.avl.specs.Records.{Element, Fixed, element_count}
use Rattle.avl.specs.RecordReader.{value_size, element, group, groups, fixed_fields, avl_record, plain_record, tagged, in_record, avl_records, at_end, all_records}
use Rattle.avl.specs.Offending.{size_from, record_size, offending}

module _ (w : Widths) (s : List ℕ) where
  missing : (at : ℕ) → offending w s (short at) ≡ 0
  unfolding offending
  missing at = refl

  field : (width at : ℕ) → at ≤ length s → Local (offending w) (number width) s at
  field width at h = local-number s missing at h width

  size-local : (kind at : ℕ) → at ≤ length s → Local (offending w) (value_size kind) s at
  unfolding value_size
  size-local kind at h = go (eqb kind 9)
    where
      go : (b : Bool) → Local (offending w) (pick b (number 2) (pure kind)) s at
      go true = field 2 at h
      go false = local-pure s at h kind

  element-local : (kind at : ℕ) → at ≤ length s → Local (offending w) (element w kind) s at
  unfolding element
  element-local kind at h =
      local-then (number w.id) _ s at (field w.id at h) (λ id a₁ e₁ o₁ h₁.
      local-then (value_size kind) _ s a₁ (size-local kind a₁ h₁) (λ size a₂ e₂ o₂ h₂.
      local-then (bytes size) _ s a₂ (local-bytes s missing a₂ h₂ size) (λ value a₃ e₃ o₃ h₃.
      local-pure s a₃ h₃ _)))

  group-local : (kind at : ℕ) → at ≤ length s → Local (offending w) (group w kind) s at
  unfolding group
  group-local kind at h =
      local-then (number w.count) _ s at (field w.count at h) (λ count a₁ e₁ o₁ h₁.
      local-repeat (element w kind) s 0 (λ a i k. element-local kind a k) count a₁ (omega arith) h₁)

  groups-local : (ks : List ℕ) (at : ℕ) → at ≤ length s → Local (offending w) (groups w ks) s at
  unfolding groups
  groups-local [] at h = local-pure s at h []
  groups-local (k ∷ ks) at h =
      local-then (group w k) _ s at (group-local k at h) (λ g a₁ e₁ o₁ h₁.
      local-then (groups w ks) _ s a₁ (groups-local ks a₁ h₁) (λ gs a₂ e₂ o₂ h₂.
      local-pure s a₂ h₂ (g ∷ gs)))

  module _ (narrow : w.generation ≤ 1) where
    priority-local : (at : ℕ) → at ≤ length s → Local (offending w) (up_to 1 2 10) s at
    unfolding offending
    priority-local at h = local-up_to s missing at h 1 2 10 (λ k over. (omega arith, k))

    generation-local : (at : ℕ) → at ≤ length s → Local (offending w) (up_to w.generation 7 11) s at
    unfolding offending number_at
    generation-local at h = local-up_to s missing at h w.generation 7 11 (λ k over. wide w.generation narrow k over)
      where
        wide : (v : ℕ) → v ≤ 1 → at + v ≤ length s → 7 < number_at s at v → (v ≤ 1) × (at + 1 ≤ length s)
        wide zero n k over = absurd (omega (arith, over))
        wide (suc v) n k over = (n, omega (arith, n, k))

    fixed-local : (at : ℕ) → at ≤ length s → Local (offending w) (fixed_fields w) s at
    unfolding fixed_fields
    fixed-local at h =
        local-then (number 8) _ s at (field 8 at h) (λ x₁ a₁ e₁ o₁ h₁.
        local-then (up_to 1 2 10) _ s a₁ (priority-local a₁ h₁) (λ x₂ a₂ e₂ o₂ h₂.
        local-then (number 4) _ s a₂ (field 4 a₂ h₂) (λ x₃ a₃ e₃ o₃ h₃.
        local-then (number 4) _ s a₃ (field 4 a₃ h₃) (λ x₄ a₄ e₄ o₄ h₄.
        local-then (number 2) _ s a₄ (field 2 a₄ h₄) (λ x₅ a₅ e₅ o₅ h₅.
        local-then (number 2) _ s a₅ (field 2 a₅ h₅) (λ x₆ a₆ e₆ o₆ h₆.
        local-then (number 1) _ s a₆ (field 1 a₆ h₆) (λ x₇ a₇ e₇ o₇ h₇.
        local-then (number 2) _ s a₇ (field 2 a₇ h₇) (λ x₈ a₈ e₈ o₈ h₈.
        local-then (number w.event) _ s a₈ (field w.event a₈ h₈) (λ x₉ a₉ e₉ o₉ h₉.
        local-then (up_to w.generation 7 11) _ s a₉ (generation-local a₉ h₉) (λ x₀ a₀ e₀ o₀ h₀.
        local-pure s a₀ h₀ _))))))))))

    -- the record that was read from `at` to `end` is what its total and its length are about
    module _ (at : ℕ) {fixed : Fixed} {total : ℕ} {gs : List (List Element)} {a₁ a₂ end : ℕ}
        (e₁ : fixed_fields w s at ≡ got fixed a₁) (e₂ : number w.count s a₁ ≡ got total a₂) (e₃ : groups w (kinds w) s a₂ ≡ got gs end) where
      whole : record_size w s at ≡ end - at
      unfolding plain_record size_from pure
      whole = ap (size_from at) (then-got (fixed_fields w) _ s at e₁ ∙ then-got (number w.count) _ s a₁ e₂ ∙ then-got (groups w (kinds w)) _ s a₂ e₃)

    record-local : (longest at : ℕ) → at ≤ length s → Local (offending w) (avl_record longest w) s at
    unfolding avl_record offending
    record-local longest at h =
        local-here s at h _
        (local-then (fixed_fields w) _ s at (fixed-local at h) (λ fixed a₁ e₁ o₁ h₁.
        local-then (number w.count) _ s a₁ (field w.count a₁ h₁) (λ total a₂ e₂ o₂ h₂.
        local-then (groups w (kinds w)) _ s a₂ (groups-local (kinds w) a₂ h₂) (λ gs end e₃ o₃ h₃.
        local-here s end h₃ _
        (local-require s end h₃ (eqb total (element_count gs)) 9 at _ (λ _. omega (arith, whole at e₁ e₂ e₃, o₁, o₂, o₃, h₃)) (λ _.
        local-require s end h₃ (leb end (at + longest)) 12 at _ (λ _. omega (arith, whole at e₁ e₂ e₃, o₁, o₂, o₃, h₃)) (λ _.
        local-pure s end h₃ _)))))))

    tagged-local : {A : Type 0} (index : ℕ) (m : Reader A) (at : ℕ) → Local (offending w) m s at → Local (offending w) (in_record index m) s at
    unfolding in_record tagged offending
    tagged-local {A} index m at h = go (m s at) refl
      where
        go : (r : Read A) → m s at ≡ r → Local (offending w) (in_record index m) s at
        go (got a n) e =
            let k = h.reads a n e in
            local-got (ap (tagged index) e) (record { onward = k.onward; inside = k.inside; alike = λ t g. ap (tagged index) (k.alike t g) })
        go (bad x) e =
            let k = h.stops x e in
            local-bad (ap (tagged index) e) (record { behind = k.behind; inside = k.inside; alike = λ t g. ap (tagged index) (k.alike t g) })

    records-local : (longest index n at : ℕ) → at ≤ length s → Local (offending w) (avl_records longest w index n) s at
    unfolding avl_records
    records-local longest index zero at h = local-pure s at h []
    records-local longest index (suc n) at h =
        local-then (in_record index (avl_record longest w)) _ s at (tagged-local index _ at (record-local longest at h)) (λ r a₁ e₁ o₁ h₁.
        local-then (avl_records longest w (suc index) n) _ s a₁ (records-local longest (suc index) n a₁ h₁) (λ rs a₂ e₂ o₂ h₂.
        local-pure s a₂ h₂ (r ∷ rs)))

    end-local : (count at : ℕ) → at ≤ length s → Local (offending w) (at_end count) s at
    unfolding at_end offending
    end-local count at h = go (eqb at (length s)) refl
      where
        go : (b : Bool) → eqb at (length s) ≡ b → Local (offending w) (at_end count) s at
        go true e = local-got {a = tt} {n = at} (simp e) (record { onward = omega arith; inside = h; alike = λ t g. simp (g.long, e) })
        go false e = local-bad {x = record { number = 8; index = count; place = at }} (simp e) (record { behind = omega arith; inside = omega arith; alike = λ t g. simp (g.long, e) })

    pub all_local : (longest count at : ℕ) → at ≤ length s → Local (offending w) (all_records longest w count) s at
    unfolding all_records ◌>>◌
    all_local longest count at h =
        local-then (avl_records longest w 0 count) _ s at (records-local longest 0 count at h) (λ rs a₁ e₁ o₁ h₁.
        local-then (at_end count) _ s a₁ (end-local count a₁ h₁) (λ u a₂ e₂ o₂ h₂.
        local-pure s a₂ h₂ rs))
