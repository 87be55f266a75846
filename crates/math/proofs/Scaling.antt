-- Four numbers times the reciprocal of their norm, each rounded: what is so computed of their norm squared lies from a quarter to four. Whole numbers
-- only, as in Bounds. Assumes nothing.
use mathlib.Core.Path.{◌≡◌, subst}
use Prim.Native.Nat.{ℕ, ◌+◌, ◌*◌, ◌≤◌}
use native.Mathlib.Nat.{le_dest, le_of_lt, lt_of_not-le, mul-le-mul, mul-le-mul_right, mul-le-mul_left, le_of_mul-le-mul_right}
use native.Mathlib.Decide.{dec_le}
use native.Mathlib.Omega.{arith}
use Rattle.number.proofs.Rounding.{RoundedWhole}
use Rattle.math.proofs.Bounds.{Near, NearWhole, near_whole, Close, close, Squares}

-- ---- the reciprocal

-- i for the reciprocal of m, m for the root of n, n for e, the sum of the squares
pub record Reciprocal (u e i : ℕ) : Type 0 where
  pub n : ℕ
  pub m : ℕ
  pub sum : Squares u e n
  pub root_over : 255 * (m * m) ≤ 256 * (n * u)
  pub root_under : 256 * (n * u) ≤ 257 * (m * m)
  pub small : 128 * m ≤ u * u
  pub reciprocal : Near (u * u) m i

-- the exact squares of the exact products
scaled : (u e i : ℕ) → Reciprocal u e i → (8 * (i * i * e) ≤ 25 * (u * u * (u * u))) × (7 * (u * u * (u * u)) ≤ 16 * (i * i * e))
scaled u e i h =
    let m = h.m in
    let j = i * i in
    let x : 128 * (i * m) ≤ 129 * (u * u) = omega (arith, h.reciprocal.over, h.small) in
    let y : 127 * (u * u) ≤ 128 * (i * m) = omega (arith, h.reciprocal.under, h.small) in
    go (j * e) (j * (h.n * u)) (i * m * (i * m)) (u * u * (u * u))
    (omega (arith, mul-le-mul_left j h.sum.over)) (omega (arith, mul-le-mul_left j h.sum.under))
    (omega (arith, mul-le-mul_left j h.root_over)) (omega (arith, mul-le-mul_left j h.root_under))
    (omega (arith, mul-le-mul x x)) (omega (arith, mul-le-mul y y))
  where
    go : (v y x w : ℕ) → 32 * v ≤ 97 * y → 32 * y ≤ 66 * v → 255 * x ≤ 256 * y → 256 * y ≤ 257 * x → 16384 * x ≤ 16641 * w → 16129 * w ≤ 16384 * x
        → (8 * v ≤ 25 * w) × (7 * w ≤ 16 * v)
    go v y x w a b c d e f = (omega arith, omega arith)

-- ---- the square of a rounded number against the number's

-- twice a product is at most the sum of the squares
twice : (x y : ℕ) → 2 * (x * y) ≤ x * x + y * y
twice x y = elim (dec_le x y) [
  | yes h ↦ let (k, e) = le_dest h in apart x k y e
  | no h ↦ let (k, e) = le_dest (le_of_lt (lt_of_not-le h)) in omega (arith, apart y k x e)
]
  where
    wider : (x k : ℕ) → 2 * (x * (x + k)) ≤ x * x + (x + k) * (x + k)
    wider x k = omega arith

    apart : (x k y : ℕ) → x + k ≡ y → 2 * (x * y) ≤ x * x + y * y
    apart x k y e = subst (λ (z : ℕ). 2 * (x * z) ≤ x * x + z * z) e (wider x k)

-- of two numbers that are near each other, either way
square : (u x y : ℕ) → 255 * x ≤ 257 * y + 128 * u → 16 * (x * x) ≤ 17 * (y * y) + 150 * (u * u)
square u x y h =
    let m = mul-le-mul h h in
    let t = twice y (16 * u) in
    omega arith

over : (u v a : ℕ) → Near v u a → 16 * (a * u * (a * u)) ≤ 17 * (v * v) + 150 * (u * u)
over u v a h = square u (a * u) v (omega (arith, h.over))

under : (u v a : ℕ) → Near v u a → 16 * (v * v) ≤ 17 * (a * u * (a * u)) + 150 * (u * u)
under u v a h = square u v (a * u) (omega (arith, h.under))

-- ---- the four products, rounded, and their squares, rounded

-- t for the sum of the squares of the rounded products, v for that of the exact ones, w for u * u
rounded_sum : (w v t : ℕ) → 1048576 ≤ w → 16 * (t * w) ≤ 17 * v + 600 * w → 16 * v ≤ 17 * (t * w) + 600 * w → 8 * v ≤ 25 * (w * w) → 7 * (w * w) ≤ 16 * v
    → (128 * t ≤ 426 * w) × (6 * w ≤ 17 * t)
rounded_sum w v t l a b c d =
    let m : 1048576 * w ≤ w * w = mul-le-mul_right w l in
    (le_of_mul-le-mul_right {k = w} (omega arith) (omega arith), le_of_mul-le-mul_right {k = w} (omega arith) (omega arith))

-- b units, from a third to 27 / 8
pub record Middle (u b : ℕ) : Type 0 where
  pub over : 8 * b ≤ 27 * u
  pub under : u ≤ 3 * b

-- b for t
middle : (u t b : ℕ) → 1048576 ≤ u → 256 * (b * u) ≤ 257 * t + 512 * u → 255 * t ≤ 256 * (b * u) + 512 * u → 128 * t ≤ 426 * (u * u) → 6 * (u * u) ≤ 17 * t
    → Middle u b
middle u t b l x y c d =
    let m : 1048576 * u ≤ u * u = mul-le-mul_right u l in
    record { over = le_of_mul-le-mul_right {k = u} (omega arith) (omega arith); under = le_of_mul-le-mul_right {k = u} (omega arith) (omega arith) }

pub normal : (u : ℕ) → 1048576 ≤ u → (p q r s a b c d i : ℕ) → Reciprocal u (p * p + q * q + r * r + s * s) i
    → Near (p * i) u a → Near (q * i) u b → Near (r * i) u c → Near (s * i) u d
    → (e f g h : ℕ) → Near (a * a) u e → Near (b * b) u f → Near (c * c) u g → Near (d * d) u h → Middle u (e + f + g + h)
normal u l p q r s a b c d i k A B C D e f g h E F G H =
    let v = p * p + q * q + r * r + s * s in
    let t = a * a + b * b + c * c + d * d in
    let (x, y) = scaled u v i k in
    let (z, w) =
    rounded_sum (u * u) (i * i * v) t (squared (mul-le-mul l l))
    (omega (arith, over u (p * i) a A, over u (q * i) b B, over u (r * i) c C, over u (s * i) d D))
    (omega (arith, under u (p * i) a A, under u (q * i) b B, under u (r * i) c C, under u (s * i) d D)) x y in
    middle u t (e + f + g + h) l (omega (arith, E.over, F.over, G.over, H.over)) (omega (arith, E.under, F.under, G.under, H.under)) z w
  where
    squared : {w : ℕ} → 1048576 * 1048576 ≤ w → 1048576 ≤ w
    squared l = omega arith

-- ---- the rounded sum n lies from a quarter to four, and nothing on the way is above four

pub record Ends (u e f g h s t n : ℕ) : Type 0 where
  pub ww : e ≤ 4 * u
  pub xx : f ≤ 4 * u
  pub yy : g ≤ 4 * u
  pub zz : h ≤ 4 * u
  pub two : s ≤ 4 * u
  pub three : t ≤ 4 * u
  pub four : n ≤ 4 * u
  pub quarter : u ≤ 4 * n

pub ends : (u e f g h : ℕ) {s t n : ℕ} → RoundedWhole (e + f) s → RoundedWhole (s + g) t → RoundedWhole (t + h) n → Middle u (e + f + g + h)
    → Ends u e f g h s t n
ends u e f g h {s} {t} {n} i j k m = go (near_whole i) (near_whole j) (close e f g h i j k) m.over m.under
  where
    go : NearWhole (e + f) s → NearWhole (s + g) t → Close (e + f + g + h) n → 8 * (e + f + g + h) ≤ 27 * u → u ≤ 3 * (e + f + g + h) → Ends u e f g h s t n
    go i j k x y =
        record {
          ww = omega arith;
          xx = omega arith;
          yy = omega arith;
          zz = omega arith;
          two = omega (arith, i.over);
          three = omega (arith, i.over, j.over);
          four = omega (arith, k.over);
          quarter = omega (arith, k.under);
        }
