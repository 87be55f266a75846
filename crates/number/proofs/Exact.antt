-- A number that its format holds is a whole number of the format's smallest, and rounds to itself. Assumes nothing.
use Rattle.std.proofs.Common.{◌≡◌, ℕ, zero, suc, ◌+◌, ◌-◌, ◌*◌, ◌/◌, ◌%◌, ◌^◌, ◌<◌, ◌≤◌, Bool, cond, ◌&&◌, T, eqb, ltb, leb, ℤ, pos, negsuc, sym, refl, ap, ◌∙◌}
use Rattle.std.proofs.Common.{subst, mul_assoc, mul_comm, lt_of_mul-lt-mul_right, mul-lt-mul_of_pos_right, zero-mul, mul-one, mul_right_comm, arith, ltb→lt}
use Rattle.std.proofs.Common.{leb→le, pow_pos, pow-add}
use native.Mathlib.Decide.{dec_lt}
use lib.Pow.{pow-lt}
use lib.Ieee.{Float, nan, inf, fin, Format, prec, emax, low, top, hid, up, down, size, round, fits, of_bits, to_bits}
use lib.Ieee.Bits.{of_bits-to_bits}
use lib.Ieee.Exact.{HasValue, round_exact}
use lib.Ieee.Fits.{down_pos, and_l, and_r, round-fits}
use lib.Ieee.Nearest.{div_same}

-- a pattern is made of the sign and the size alone, and a float of its pattern: so one size has one float
one_float : (f : Format) (s : Bool) (m n : ℕ) (e d : ℤ) → T (fits f (fin s m e)) → T (fits f (fin s n d)) → m * up e * down d ≡ n * up d * down e
    → fin s m e ≡ fin s n d
unfolding to_bits
one_float f s m n e d p q h = sym (of_bits-to_bits f (fin s m e) p) ∙ ap (of_bits f) pattern ∙ of_bits-to_bits f (fin s n d) q
  where
    by_size : ℕ → ℕ
    by_size a = cond s (top f) 0 + (size a - prec f) * hid f + a / 2 ^ (size a - prec f)

    scaled : m * up e * 2 ^ low f * down d ≡ n * up d * 2 ^ low f * down e
    scaled = mul_right_comm (m * up e) (2 ^ low f) (down d) ∙ ap (λ (a : ℕ). a * 2 ^ low f) h ∙ mul_right_comm (n * up d) (down e) (2 ^ low f)

    pattern : to_bits f (fin s m e) ≡ to_bits f (fin s n d)
    pattern = ap by_size (div_same (m * up e * 2 ^ low f) (down e) (n * up d * 2 ^ low f) (down d) (down_pos e) (down_pos d) scaled)

-- what `fits` says of a number other than zero
record Held (f : Format) (m : ℕ) (e : ℤ) : Type 0 where
  digits : m < 2 ^ prec f
  least : down e ≤ 2 ^ low f
  most : m * up e < 2 ^ suc (emax f) * down e

held : (f : Format) (s : Bool) (m : ℕ) (e : ℤ) → T (fits f (fin s (suc m) e)) → Held f (suc m) e
unfolding fits
held f s m e t =
    let odd = eqb (suc m % 2) 1 in
    let small = ltb (suc m) (2 ^ prec f) in
    let fine = leb (down e) (2 ^ low f) in
    let large = ltb (suc m * up e) (2 ^ suc (emax f) * down e) in
    let three = and_l (odd && small && fine) large t in
    record {
      digits = ltb→lt (suc m) (2 ^ prec f) (and_r odd small (and_l (odd && small) fine three));
      least = leb→le (down e) (2 ^ low f) (and_r (odd && small) fine three);
      most = ltb→lt (suc m * up e) (2 ^ suc (emax f) * down e) (and_r (odd && small && fine) large t);
    }

pow_le : (i j : ℕ) → 2 ^ i ≤ 2 ^ j → Dec (j < i) → i ≤ j
pow_le i j h (yes g) = let p = pow-lt g in absurd (omega arith)
pow_le i j h (no g) = omega arith

-- such a number is a whole number of the format's smallest
whole : (f : Format) (m : ℕ) (e : ℤ) → down e ≤ 2 ^ low f → (j : ℕ) × (m * up e * 2 ^ low f ≡ m * 2 ^ j * down e)
whole f m (pos k) h =
    (k + low f, mul_assoc m (2 ^ k) (2 ^ low f) ∙ ap (λ (a : ℕ). m * a) (sym (pow-add 2 k (low f))) ∙ sym (mul-one (m * 2 ^ (k + low f))))
whole f m (negsuc k) h =
    let room : suc k ≤ low f = pow_le (suc k) (low f) h (dec_lt (low f) (suc k)) in
    let j = low f - suc k in
    let all : j + suc k ≡ low f = omega arith in
    let split : 2 ^ j * 2 ^ suc k ≡ 2 ^ low f = sym (pow-add 2 j (suc k)) ∙ ap (λ (a : ℕ). 2 ^ a) all in
    (j, ap (λ (a : ℕ). a * 2 ^ low f) (mul-one m) ∙ ap (λ (a : ℕ). m * a) (sym split) ∙ sym (mul_assoc m (2 ^ j) (2 ^ suc k)))

pub whole_number : (f : Format) (s : Bool) (m : ℕ) (e : ℤ) → T (fits f (fin s m e)) → (a : ℕ) × HasValue (fin s m e) s a (2 ^ low f)
whole_number f s zero e t = (0, (refl, ap (λ (a : ℕ). a * 2 ^ low f) (zero-mul (up e)) ∙ zero-mul (2 ^ low f) ∙ sym (zero-mul (down e))))
whole_number f s (suc m) e t = let (j, h) = whole f (suc m) e (held f s m e t).least in (suc m * 2 ^ j, (refl, h))

own_value : (f : Format) (s : Bool) (m : ℕ) (e : ℤ) → Held f m e → HasValue (round f s (m * up e) (down e)) s (m * up e) (down e)
own_value f s m e h =
    let (j, k) = whole f m e h.least in
    round_exact f s (m * up e) (down e) m j (down_pos e) h.digits
    (lt_of_mul-lt-mul_right (down e)
    (subst (λ (a : ℕ). a < 2 ^ (low f + suc (emax f)) * down e) k
    (subst (λ (a : ℕ). m * up e * 2 ^ low f < a) turned (mul-lt-mul_of_pos_right h.most (pow_pos (low f))))))
    k
  where
    turned : 2 ^ suc (emax f) * down e * 2 ^ low f ≡ 2 ^ (low f + suc (emax f)) * down e
    turned =
        mul_right_comm (2 ^ suc (emax f)) (down e) (2 ^ low f)
        ∙ ap (λ (a : ℕ). a * down e) (mul_comm (2 ^ suc (emax f)) (2 ^ low f) ∙ sym (pow-add 2 (low f) (suc (emax f))))

pub round_own : (f : Format) (s : Bool) (m : ℕ) (e : ℤ) → T (fits f (fin s (suc m) e)) → round f s (suc m * up e) (down e) ≡ fin s (suc m) e
round_own f s m e t = go (round f s a c) (round-fits f s a c) (own_value f s (suc m) e (held f s m e t))
  where
    a : ℕ
    a = suc m * up e

    c : ℕ
    c = down e

    go : (x : Float) → T (fits f x) → HasValue x s a c → x ≡ fin s (suc m) e
    go nan p v = absurd v
    go (inf u) p v = absurd v
    go (fin u n d) p v =
        ap (λ (b : Bool). fin b n d) v.0
        ∙ one_float f s n (suc m) d e (subst (λ (b : Bool). T (fits f (fin b n d))) v.0 p) t v.1
