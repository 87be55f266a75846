-- The words of `Between` mean what they say: `size_of` cuts nothing, and no f32 lies between r and its two neighbours. Assumes nothing.
use mathlib.Core.Path.{◌≡◌, sym, ap, ◌∙◌, subst}
use mathlib.Core.Bool.{true, false}
use Prim.Native.Nat.{ℕ, zero, suc, ◌+◌, ◌-◌, ◌*◌, ◌^◌, ◌≤◌, ◌<◌}
use native.Mathlib.Nat.{lt_of_not-le}
use native.Mathlib.Omega.{arith}
use lib.Dec.{T}
use lib.Ieee.{Float, nan, inf, fin, down, binary32, fits, to_bits}
use lib.Ieee.Bits.{of_bits-to_bits}
use lib.Ieee.Exact.{HasValue}
use lib.Ieee.Positive.{num, den, positive}
use Rattle.root.specs.Root.{size_of, Exact, NextAbove, NextBelow}
use Rattle.root.proofs.Scaled.{Finite}
use Rattle.root.proofs.Patterns.{read, size_at, size_mono, size_of_bits, bits_lt, bits_pos}

-- the bits of a finite float above zero
pub finite_bits : (r : Float) → T (fits binary32 r) → T (positive r) → Finite (to_bits binary32 r)
finite_bits nan t p = absurd p
finite_bits (inf s) t p = absurd p
finite_bits (fin true m e) t p = absurd p
finite_bits (fin false zero e) t p = absurd p
finite_bits (fin false (suc m) e) t p = (bits_pos m e t, bits_lt m e t)

pub own_size : (r : Float) → T (fits binary32 r) → T (positive r) → size_of r ≡ size_at (to_bits binary32 r)
own_size r t p = ap size_of (sym (of_bits-to_bits binary32 r t)) ∙ size_of_bits (to_bits binary32 r) (finite_bits r t p).1

pub exact : Exact
exact r t p =
    go r (subst (λ (x : Float). HasValue x false (size_at (to_bits binary32 r)) (2 ^ 149)) (of_bits-to_bits binary32 r t)
    (read (to_bits binary32 r) (finite_bits r t p).1)) (own_size r t p)
  where
    go : (r : Float) {a : ℕ} → HasValue r false a (2 ^ 149) → size_of r ≡ a → num r * 2 ^ 149 ≡ size_of r * den r
    go nan h e = absurd h
    go (inf s) h e = absurd h
    go (fin s m x) h e = h.1 ∙ ap (λ (y : ℕ). y * down x) (sym e)

-- the larger float has the larger bits
bits_order : (r y : Float) → T (fits binary32 r) → T (positive r) → T (fits binary32 y) → T (positive y) → size_of r < size_of y
    → to_bits binary32 r < to_bits binary32 y
bits_order r y t p u o h = lt_of_not-le (λ g. clash (own_size r t p) (own_size y u o) (size_mono (to_bits binary32 y) (to_bits binary32 r) g) h)
  where
    clash : {a b c d : ℕ} → a ≡ c → b ≡ d → d ≤ c → a < b → ⊥
    clash e f g h = omega arith

pub next_above : NextAbove
next_above r y t p u o h =
    let l = bits_order r y t p u o h in
    rw (size_of_bits (to_bits binary32 r + 1) (omega (arith, l, (finite_bits y u o).1)), own_size y u o)
    (size_mono (to_bits binary32 r + 1) (to_bits binary32 y) (omega (arith, l)))

pub next_below : NextBelow
next_below r y t p u o h =
    let l = bits_order y r u o t p h in
    rw (own_size y u o, size_of_bits (to_bits binary32 r - 1) (omega (arith, (finite_bits r t p).1)))
    (size_mono (to_bits binary32 y) (to_bits binary32 r - 1) (omega (arith, l)))
