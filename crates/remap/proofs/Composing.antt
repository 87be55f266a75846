-- Two mountings, one after the other, act on every vector as the single one, and each has one that undoes it. Assumes nothing.
use Prim.Native.Nat.{ℕ, ◌+◌, ◌*◌, ◌/◌, ◌%◌, ◌^◌, ◌<◌}
use native.Mathlib.Omega.{arith}
use mathlib.Core.Path.{◌≡◌, refl, ap, ap₂, sym, ◌∙◌}
use mathlib.Core.List.{[]}
use mathlib.Core.Bool.{Bool, false, ◌&&◌, ◌||◌, cond}
use lib.Dec.{T, eqb, ltb, eqb→eq, ltb→lt}
use lib.ListN.{get_or}
use lib.Ieee.{Float, neg}
use lib.Ieee.Fits.{and_l, and_r}
use borrow.Author.Tests.{ltb-false}
use Rattle.answer.specs.Said.{alone}
use Rattle.answer.proofs.Tests.{neither}
use Rattle.number.proofs.Signs.{neg_neg}
use Rattle.vector.specs.declared.Vector.{Vector}
use Rattle.vector.specs.Mounting.{Signed, Px, Py, Pz, Nx, Ny, Nz, Mounting, mounting_of, read, turn, turn_of}
use Rattle.std.specs.declared.result.Result.TheVariants.{Ok}
use Rattle.remap.specs.First.{first}
use Rattle.remap.specs.Given.{Gives}
use Rattle.remap.specs.Names.{sign, letter, spell, name_of, same}
use Rattle.remap.specs.Composition.{opposite, afterwards, compose_of, inverse_of, compose_checks, Composes, Undone}
use Rattle.remap.specs.Inner.{packed, six_of}
use Rattle.remap.specs.declared.table.TheConstants.{WORDS, UNDOING}
use Rattle.answer.proofs.Answering.{passes, all_pass, gives_result}
use Rattle.remap.proofs.Naming.{is_name}
use Rattle.remap.proofs.Tabled.{at_each, at_both}
use Rattle.remap.proofs.Packed.{unpacked}

-- ---- two signed permutations, one after the other

read_opposite : (x y z : Float) (s : Signed) → neg (read neg x y z s) ≡ read neg x y z (opposite s)
read_opposite x y z Px = refl
read_opposite x y z Py = refl
read_opposite x y z Pz = refl
read_opposite x y z Nx = neg_neg x
read_opposite x y z Ny = neg_neg y
read_opposite x y z Nz = neg_neg z

read_read : (x y z : Float) (p q r s : Signed)
    → read neg (read neg x y z p) (read neg x y z q) (read neg x y z r) s ≡ read neg x y z (read opposite p q r s)
read_read x y z p q r Px = refl
read_read x y z p q r Py = refl
read_read x y z p q r Pz = refl
read_read x y z p q r Nx = read_opposite x y z p
read_read x y z p q r Ny = read_opposite x y z q
read_read x y z p q r Nz = read_opposite x y z r

pub turn_turn : (a b : Mounting) (v : Vector) → turn b (turn a v) ≡ turn (afterwards a b) v
turn_turn a b v = λ i. record { x = axis b.x i; y = axis b.y i; z = axis b.z i }
  where
    axis : (s : Signed) → read neg (turn a v).x (turn a v).y (turn a v).z s ≡ read neg v.x v.y v.z (read opposite a.x a.y a.z s)
    axis s = read_read v.x v.y v.z a.x a.y a.z s

-- ---- a mounting is known by its name

abbrev axis_of : ℕ → Signed → Signed → Signed → Signed
axis_of l x y z = cond (eqb l 88) x (cond (eqb l 89) y z)

abbrev signed_of : ℕ → ℕ → Signed
signed_of c l = cond (eqb c 43) (axis_of l Px Py Pz) (axis_of l Nx Ny Nz)

spelled_again : (s : Signed) → signed_of (sign s) (letter s) ≡ s
spelled_again Px = refl
spelled_again Py = refl
spelled_again Pz = refl
spelled_again Nx = refl
spelled_again Ny = refl
spelled_again Nz = refl

spelled_apart : (s t : Signed) → sign s ≡ sign t → letter s ≡ letter t → s ≡ t
spelled_apart s t p q = sym (spelled_again s) ∙ ap₂ signed_of p q ∙ spelled_again t

pub spell_once : (a b : Mounting) → spell a ≡ spell b → a ≡ b
spell_once a b e = λ i. record { x = px i; y = py i; z = pz i }
  where
    px : a.x ≡ b.x
    px = spelled_apart a.x b.x (cc) (cc)

    py : a.y ≡ b.y
    py = spelled_apart a.y b.y (cc) (cc)

    pz : a.z ≡ b.z
    pz = spelled_apart a.z b.z (cc) (cc)

-- ---- the set is closed: a test that antt computes at all 576

closed : (a b : ℕ) → a < 24 → b < 24 → compose_of a b < 24
unfolding compose_of first same name_of mounting_of
closed a b h g = ltb→lt (compose_of a b) 24 (at_both 24 24 (λ m n. ltb (compose_of m n) 24) tt a b h g)

compose_is : (a b : ℕ) → a < 24 → b < 24 → mounting_of (compose_of a b) ≡ afterwards (mounting_of a) (mounting_of b)
unfolding compose_of name_of
compose_is a b h g = spell_once _ _ (sym (is_name (spell (afterwards (mounting_of a) (mounting_of b))) (closed a b h g)))

turn_compose : (a b : ℕ) (v : Vector) → a < 24 → b < 24 → turn_of b (turn_of a v) ≡ turn_of (compose_of a b) v
turn_compose a b v h g = turn_turn (mounting_of a) (mounting_of b) v ∙ ap (λ (m : Mounting). turn m v) (sym (compose_is a b h g))

pub composes : Composes
composes a b v h g = (closed a b h g, turn_compose a b v h g)

-- ---- what undoes: a test that antt computes at all 24

abbrev undoes : ℕ → ℕ → Bool
undoes n m = ltb m 24 && (eqb (compose_of n m) 0 && eqb (compose_of m n) 0)

inverse_undoes : (n : ℕ) → n < 24 → T (undoes n (inverse_of n))
unfolding compose_of inverse_of first same name_of mounting_of
inverse_undoes n h = at_each 24 (λ i. undoes i (inverse_of i)) tt n h

in_place : (n : ℕ) (v : Vector) → n ≡ 0 → turn_of n v ≡ v
unfolding mounting_of
in_place n v e = ap (λ (m : ℕ). turn_of m v) e

pub undone : Undone
undone n v h =
    let m = inverse_of n in
    let t = inverse_undoes n h in
    let both = and_r (ltb m 24) (eqb (compose_of n m) 0 && eqb (compose_of m n) 0) t in
    let g = ltb→lt m 24 (and_l (ltb m 24) (eqb (compose_of n m) 0 && eqb (compose_of m n) 0) t) in (
      g,
      turn_compose n m v h g ∙ in_place (compose_of n m) v (eqb→eq (compose_of n m) 0 (and_l (eqb (compose_of n m) 0) (eqb (compose_of m n) 0) both)),
      turn_compose m n v g h ∙ in_place (compose_of m n) v (eqb→eq (compose_of m n) 0 (and_r (eqb (compose_of n m) 0) (eqb (compose_of m n) 0) both)),
    )

-- ---- the code's tables

-- each word and each undoing number is what its definition says: tests that antt computes at all 96 and all 24
pub word_at : (a six : ℕ) → a < 24 → six < 4 → get_or (get_or WORDS a []) six 0 ≡ six_of a six
unfolding packed compose_of first same name_of mounting_of
word_at a six h g =
    eqb→eq (get_or (get_or WORDS a []) six 0) (six_of a six) (at_both 24 4 (λ m i. eqb (get_or (get_or WORDS m []) i 0) (six_of m i)) tt a six h g)

pub undoing_at : (n : ℕ) → n < 24 → get_or UNDOING n 0 ≡ inverse_of n
unfolding inverse_of compose_of first same name_of mounting_of
undoing_at n h = eqb→eq (get_or UNDOING n 0) (inverse_of n) (at_each 24 (λ i. eqb (get_or UNDOING i 0) (inverse_of i)) tt n h)

module _ (a b : ℕ) where
  -- what is read at the place of b in the word of the six that it is one of
  pub in_word : {w : ℕ} → a < 24 → b < 24 → w ≡ six_of a (b / 6) → w / 2 ^ (5 * (b % 6)) % 32 ≡ compose_of a b
  in_word h g e = rw e (there ∙ ap (compose_of a) place)
    where
      i : ℕ
      i = 6 * (b / 6)

      below : (n : ℕ) → n < i + 6 → compose_of a n < 2 ^ 5
      below n m = omega (arith, closed a n h (omega (arith, g)))

      there : six_of a (b / 6) / 2 ^ (5 * (b % 6)) % 32 ≡ compose_of a (i + b % 6)
      there = unpacked 5 (compose_of a) 6 i (b % 6) below (omega arith)

      place : i + b % 6 ≡ b
      place = omega arith

  both_below : (ltb 23 a || ltb 23 b) ≡ false → (a < 24) × (b < 24)
  both_below passed =
      let (p, q) = neither (ltb 23 a) (ltb 23 b) passed in
      (omega (arith, ltb-false 23 a p), omega (arith, ltb-false 23 b q))

  pub answered : (ltb 23 a || ltb 23 b) ≡ false → {w r : ℕ} → w ≡ six_of a (b / 6) → r ≡ w / 2 ^ (5 * (b % 6)) % 32
      → Gives (compose_checks a b) (compose_of a b) (Ok r)
  answered passed e f =
      let (h, g) = both_below passed in
      gives_result alone (compose_checks a b) (compose_of a b) (sym (passes 4 _ passed ∙ all_pass)) (ap Ok (f ∙ in_word h g e))
