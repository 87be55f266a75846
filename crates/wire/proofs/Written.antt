-- Several bytes read or stored are one number, and what was written is read back where it has room. Assumes nothing.
use Prim.Native.Nat.{ℕ, ◌+◌, ◌*◌, ◌/◌, ◌%◌, ◌≤◌}
use native.Mathlib.Nat.{add-zero}
use native.Mathlib.Omega.{arith}
use native.Mathlib.Numerals.{unary_clauses}
use mathlib.Core.Path.{◌≡◌, ap, sym, ◌∙◌}
use mathlib.Core.List.{List, [], ◌∷◌, ◌++◌, append_assoc}
use lib.ListN.{length, take, drop, get_or, set}
use lib.Seq.{sets, sets-eq, length-take-le, get_or-append-add}
use Rattle.wire.specs.Wire.{u16_at, bits_at, put_u16, put_bits, ReadBack}
use Rattle.wire.proofs.Laws.{digits}

module _ (s : List ℕ) (at : ℕ) where
  pub u16_sum : {a b : ℕ} → a ≡ get_or s (at + 0) 0 → b ≡ get_or s (at + 1) 0 → a + 256 * b ≡ u16_at s at
  u16_sum p q = rw (p, q, add-zero)

  pub bits_sum : {a b c d : ℕ} → a ≡ get_or s (at + 0) 0 → b ≡ get_or s (at + 1) 0 → c ≡ get_or s (at + 2) 0 → d ≡ get_or s (at + 3) 0
      → a + 256 * b + 65536 * c + 16777216 * d ≡ bits_at s at
  bits_sum p q r t = rw (p, q, r, t, add-zero)

module _ (s : List ℕ) (at n : ℕ) where
  pub u16_stores : {t u : List ℕ} → t ≡ set s (at + 0) (n % 256) → u ≡ set t (at + 1) (n / 256) → u ≡ put_u16 s at n
  u16_stores p q = rw (q, p, add-zero)

  pub bits_stores : {t u v w : List ℕ} → t ≡ set s (at + 0) (n % 256) → u ≡ set t (at + 1) (n / 256 % 256)
      → v ≡ set u (at + 2) (n / 65536 % 256) → w ≡ set v (at + 3) (n / 16777216) → w ≡ put_bits s at n
  bits_stores p q r t = rw (t, r, q, p, add-zero)

-- after stores from `at` on, the k-th place after it has the k-th of what was stored
read_sets : (s vs : List ℕ) (at k : ℕ) → at + length vs ≤ length s → get_or (sets s at vs) (at + k) 0 ≡ get_or (vs ++ drop (at + length vs) s) k 0
read_sets s vs at k h =
    rw (sets-eq vs s at h, append_assoc)
    (rw (length-take-le at s (omega arith)) at (get_or-append-add (take at s) (vs ++ drop (at + length vs) s) k 0))

u16_read : (s : List ℕ) (at n : ℕ) → at + 2 ≤ length s → u16_at (put_u16 s at n) at ≡ n
u16_read s at n h = sym (u16_sum (put_u16 s at n) at (placed 0) (placed 1)) ∙ omega arith
  where
    bytes : List ℕ
    bytes = n % 256 ∷ n / 256 ∷ []

    same : put_u16 s at n ≡ sets s at bytes
    same = simp unary_clauses

    placed : (k : ℕ) → get_or (bytes ++ drop (at + 2) s) k 0 ≡ get_or (put_u16 s at n) (at + k) 0
    placed k = sym (ap (λ (l : List ℕ). get_or l (at + k) 0) same ∙ read_sets s bytes at k h)

bits_read : (s : List ℕ) (at n : ℕ) → at + 4 ≤ length s → bits_at (put_bits s at n) at ≡ n
bits_read s at n h = sym (bits_sum (put_bits s at n) at (placed 0) (placed 1) (placed 2) (placed 3)) ∙ digits n
  where
    bytes : List ℕ
    bytes = n % 256 ∷ n / 256 % 256 ∷ n / 65536 % 256 ∷ n / 16777216 ∷ []

    same : put_bits s at n ≡ sets s at bytes
    same = simp unary_clauses

    placed : (k : ℕ) → get_or (bytes ++ drop (at + 4) s) k 0 ≡ get_or (put_bits s at n) (at + k) 0
    placed k = sym (ap (λ (l : List ℕ). get_or l (at + k) 0) same ∙ read_sets s bytes at k h)

pub read_back : ReadBack
read_back = record { number = u16_read; pattern = bits_read }
