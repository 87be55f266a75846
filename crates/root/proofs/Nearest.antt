-- What `sqrt_of` computes is the root of x, and nothing else is. Assumes nothing.
use mathlib.Core.Path.{◌≡◌, refl, sym, ap, ◌∙◌, subst}
use mathlib.Core.Bool.{Bool, true, false, not}
use Prim.Native.Nat.{ℕ, zero, suc, ◌+◌, ◌-◌, ◌*◌, ◌^◌, ◌≤◌, ◌<◌}
use native.Mathlib.Nat.{zero-lt-suc, le_antisymm, mul-le-mul, add-le-add}
use native.Mathlib.Omega.{arith}
use lib.Dec.{T, lt→ltb}
use lib.Ieee.{Float, nan, inf, fin, binary32, of_bits, to_bits}
use lib.Ieee.Bits.{of_bits-fits, of_bits-to_bits, to_bits-of_bits, nan_bits_is}
use Rattle.root.specs.Root.{root_bits_of, sqrt_of, size_of, above, below, Between, Nearest, Unique}
use Rattle.root.proofs.Scaled.{Finite, root_bits_range}
use Rattle.root.proofs.Midpoints.{Mid, mid}
use Rattle.root.proofs.Neighbours.{finite_bits, own_size}
use Rattle.root.proofs.Patterns.{size_at, size_mono, size_of_bits, positive_bits, bits_lt, bits_pos, no_nan_bits}

bits_back : (c : ℕ) → c < 0x7f80_0000 → to_bits binary32 (of_bits binary32 c) ≡ c
bits_back c h = to_bits-of_bits binary32 c (wide c h) (subst (λ (t : Bool). T (not t)) (nan_bits_is binary32 c) (no_nan_bits c h))
  where
    wide : (c : ℕ) → c < 0x7f80_0000 → c < 2 * 0x8000_0000
    wide c h = omega arith

between_bits : (x : Float) (b c : ℕ) → size_of x ≡ size_at b → 2 ≤ c → c + 1 < 0x7f80_0000 → Mid b c → Between x (of_bits binary32 c)
between_bits x b c e l h m =
    let back = bits_back c (omega arith) in
    let here : size_of (of_bits binary32 c) ≡ size_at c = size_of_bits c (omega arith) in
    let before : size_of (below (of_bits binary32 c)) ≡ size_at (c - 1) =
    ap (λ (y : ℕ). size_of (of_bits binary32 (y - 1))) back ∙ size_of_bits (c - 1) (omega arith) in
    let after : size_of (above (of_bits binary32 c)) ≡ size_at (c + 1) = ap (λ (y : ℕ). size_of (of_bits binary32 (y + 1))) back ∙ size_of_bits (c + 1) h in
    record {
      held = of_bits-fits binary32 c;
      over_zero = positive_bits c (omega arith) (omega arith);
      over = rw (before, here, e) m.0;
      under = rw (here, after, e) m.1;
    }

pub nearest : Nearest
unfolding sqrt_of
nearest nan t = refl
nearest (inf true) t = refl
nearest (inf false) t = refl
nearest (fin s zero e) t = refl
nearest (fin true (suc m) e) t = refl
nearest (fin false (suc m) e) t =
    let x = fin false (suc m) e in
    let b = to_bits binary32 x in
    let f : Finite b = (bits_pos m e t, bits_lt m e t) in
    let r = root_bits_range b f in
    between_bits x b (root_bits_of b) (own_size x t (lt→ltb 0 (suc m) (zero-lt-suc m))) r.0 r.1 (mid b f)

-- ---- no other float is the root

-- a pattern below another has its upper midpoint at most the other's lower one
apart : (b c : ℕ) → c < b → (size_at c + size_at (c + 1)) * (size_at c + size_at (c + 1)) ≤ (size_at (b - 1) + size_at b) * (size_at (b - 1) + size_at b)
apart b c h =
    let s : size_at c + size_at (c + 1) ≤ size_at (b - 1) + size_at b = add-le-add (size_mono c (b - 1) (omega arith)) (size_mono (c + 1) b (omega arith)) in
    mul-le-mul s s

between_le : (x r r' : Float) → Between x r → Between x r' → to_bits binary32 r ≤ to_bits binary32 r'
between_le x r r' p p' = not_more (λ (h : c < b). clash (apart b c h) (over_bits h) (under_bits h))
  where
    b : ℕ
    b = to_bits binary32 r

    c : ℕ
    c = to_bits binary32 r'

    not_more : ((c < b) → ⊥) → b ≤ c
    not_more f = omega arith

    clash : {y z n : ℕ} → y ≤ z → z < n → n < y → ⊥
    clash h k l = omega arith

    fr : Finite b
    fr = finite_bits r p.held p.over_zero

    over_bits : c < b → (size_at (b - 1) + size_at b) * (size_at (b - 1) + size_at b) < 4 * (size_of x * 2 ^ 149)
    over_bits h = rw (size_of_bits (b - 1) (omega (arith, fr.1)), own_size r p.held p.over_zero) at p.over

    under_bits : c < b → 4 * (size_of x * 2 ^ 149) < (size_at c + size_at (c + 1)) * (size_at c + size_at (c + 1))
    under_bits h = rw (size_of_bits (c + 1) (omega (arith, fr.1)), own_size r' p'.held p'.over_zero) at p'.under

between_unique : (x r r' : Float) → Between x r → Between x r' → r ≡ r'
between_unique x r r' p p' =
    sym (of_bits-to_bits binary32 r p.held) ∙ ap (of_bits binary32) (le_antisymm (between_le x r r' p p') (between_le x r' r p' p))
    ∙ of_bits-to_bits binary32 r' p'.held

pub unique : Unique
unique nan r r' p p' = p ∙ sym p'
unique (inf true) r r' p p' = p ∙ sym p'
unique (inf false) r r' p p' = p ∙ sym p'
unique (fin s zero e) r r' p p' = p ∙ sym p'
unique (fin true (suc m) e) r r' p p' = p ∙ sym p'
unique (fin false (suc m) e) r r' p p' = between_unique (fin false (suc m) e) r r' p p'
