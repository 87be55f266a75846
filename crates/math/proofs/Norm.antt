-- The norm squared of a quaternion in units of the smallest f32, four rounded squares and three rounded sums: its value, and how near it lies to the
-- sum of the squares. Assumes nothing.
use mathlib.Core.Path.{◌≡◌, refl, subst}
use mathlib.Core.Bool.{Bool, true, false}
use Prim.Native.Nat.{ℕ, ◌+◌, ◌*◌, ◌^◌, ◌≤◌, ◌<◌}
use native.Mathlib.Nat.{lt_of_le_of_lt}
use lib.Dec.{lit<}
use lib.Ieee.{Float, binary32, unlike}
use lib.Ieee.Scale.{finite, overflow}
use Rattle.number.specs.Float32.{◌⊕◌, ◌⊗◌}
use Rattle.number.proofs.Finite.{add_finite}
use Rattle.number.proofs.Units.{Units, times, plus, mul_units, mul_bounded, add_units, add_bounded, times_near, plus_near}
use Rattle.math.specs.declared.quaternion.Quaternion.{Quaternion}
use Rattle.math.specs.Quaternions.{norm_squared_of}
use Rattle.math.proofs.Bounds.{near, close, Squares, squares}
use Rattle.math.proofs.Scaling.{Middle, Ends, ends}

-- x is a units, of either sign
abbrev pub Sized : Float → ℕ → Type 0
Sized x a = (s : Bool) × Units x s a

abbrev Below : ℕ → Type 0
Below n = n < overflow binary32

-- ---- a square

alike : (s : Bool) → unlike s s ≡ false
alike true = refl
alike false = refl

square : (x : Float) (a : ℕ) → Sized x a → Below (times a a) → Units (x ⊗ x) false (times a a)
square x a (s, h) l = subst (λ (t : Bool). Units (x ⊗ x) t (times a a)) (alike s) (mul_units x x h h l)

square_below : (x : Float) (a : ℕ) → Sized x a → finite (x ⊗ x) ≡ true → Below (times a a)
square_below x a (s, h) f = mul_bounded x x h h f

-- ---- the four, of sizes a b c d

abbrev pub two_of : ℕ → ℕ → ℕ
two_of a b = plus (times a a) (times b b)

abbrev pub three_of : ℕ → ℕ → ℕ → ℕ
three_of a b c = plus (two_of a b) (times c c)

abbrev pub norm_of_lem : ℕ → ℕ → ℕ → ℕ → ℕ
norm_of_lem a b c d = plus (three_of a b c) (times d d)

pub record InUnits (q : Quaternion) (a b c d : ℕ) : Type 0 where
  pub w : Sized q.w a
  pub x : Sized q.x b
  pub y : Sized q.y c
  pub z : Sized q.z d

-- nothing overflows on the way
pub record Bounded (a b c d : ℕ) : Type 0 where
  pub ww : Below (times a a)
  pub xx : Below (times b b)
  pub yy : Below (times c c)
  pub zz : Below (times d d)
  pub two : Below (two_of a b)
  pub three : Below (three_of a b c)
  pub four : Below (norm_of_lem a b c d)

module _ (q : Quaternion) (a b c d : ℕ) (h : InUnits q a b c d) where
  two_units : Below (times a a) → Below (times b b) → Below (two_of a b) → Units (q.w ⊗ q.w ⊕ q.x ⊗ q.x) false (two_of a b)
  two_units i j k = add_units (q.w ⊗ q.w) (q.x ⊗ q.x) (square q.w a h.w i) (square q.x b h.x j) k

  pub norm_units : Bounded a b c d → Units (norm_squared_of q) false (norm_of_lem a b c d)
  unfolding norm_squared_of
  norm_units k =
      let two = q.w ⊗ q.w ⊕ q.x ⊗ q.x in
      let three = two ⊕ q.y ⊗ q.y in
      add_units three (q.z ⊗ q.z)
      (add_units two (q.y ⊗ q.y) (two_units k.ww k.xx k.two) (square q.y c h.y k.yy) k.three)
      (square q.z d h.z k.zz) k.four

  -- where the norm squared is finite
  pub bounded : finite (norm_squared_of q) ≡ true → Bounded a b c d
  unfolding norm_squared_of
  bounded f =
      let two = q.w ⊗ q.w ⊕ q.x ⊗ q.x in
      let three = two ⊕ q.y ⊗ q.y in
      let (f3, fz) = add_finite binary32 three (q.z ⊗ q.z) f in
      let (f2, fy) = add_finite binary32 two (q.y ⊗ q.y) f3 in
      let (fw, fx) = add_finite binary32 (q.w ⊗ q.w) (q.x ⊗ q.x) f2 in
      let i = square_below q.w a h.w fw in
      let j = square_below q.x b h.x fx in
      let k = square_below q.y c h.y fy in
      let l = square_below q.z d h.z fz in
      let m = add_bounded (q.w ⊗ q.w) (q.x ⊗ q.x) (square q.w a h.w i) (square q.x b h.x j) f2 in
      let u2 = two_units i j m in
      let n = add_bounded two (q.y ⊗ q.y) u2 (square q.y c h.y k) f3 in
      let u3 = add_units two (q.y ⊗ q.y) u2 (square q.y c h.y k) n in
      record { ww = i; xx = j; yy = k; zz = l; two = m; three = n; four = add_bounded three (q.z ⊗ q.z) u3 (square q.z d h.z l) f }

-- ---- how near

pub sum_squares : (a b c d : ℕ) → 0 < norm_of_lem a b c d → Squares (2 ^ 149) (a * a + b * b + c * c + d * d) (norm_of_lem a b c d)
sum_squares a b c d N =
    squares (2 ^ 149) (times a a) (times b b) (times c c) (times d d)
    (near (times_near a a)) (near (times_near b b)) (near (times_near c c)) (near (times_near d d))
    (close (times a a) (times b b) (times c c) (times d d) (plus_near (times a a) (times b b)) (plus_near (two_of a b) (times c c))
    (plus_near (three_of a b c) (times d d)))
    N

-- the sum lies from a quarter to four, and nothing on the way is above four
abbrev pub Range : ℕ → ℕ → ℕ → ℕ → Type 0
Range a b c d = Ends (2 ^ 149) (times a a) (times b b) (times c c) (times d d) (two_of a b) (three_of a b c) (norm_of_lem a b c d)

pub range : (a b c d : ℕ) → Middle (2 ^ 149) (times a a + times b b + times c c + times d d) → Range a b c d
range a b c d =
    ends (2 ^ 149) (times a a) (times b b) (times c c) (times d d) (plus_near (times a a) (times b b)) (plus_near (two_of a b) (times c c))
    (plus_near (three_of a b c) (times d d))

below : {n : ℕ} → n ≤ 4 * 2 ^ 149 → Below n
below h = lt_of_le_of_lt h (lit< tt)

pub range_bounded : {a b c d : ℕ} → Range a b c d → Bounded a b c d
range_bounded h =
    record {
      ww = below h.ww;
      xx = below h.xx;
      yy = below h.yy;
      zz = below h.zz;
      two = below h.two;
      three = below h.three;
      four = below h.four;
    }
