-- What turning keeps: tests of the three axes that pay no heed to signs, and sums, differences and multiples, zero's sign ignored. Assumes nothing.
use mathlib.Core.Path.{◌≡◌, refl, ◌∙◌}
use mathlib.Core.Bool.{Bool, true, false, ◌&&◌, ◌||◌, beq}
use mathlib.Core.List.{List, [], ◌∷◌}
use Prim.Native.Nat.{ℕ, zero, suc}
use lib.Dec.{T}
use lib.ListN.{get_or}
use lib.Ieee.{Float, binary32, neg, add, sub, mul, of_bits}
use lib.Ieee.Fits.{and_l, and_r}
use lib.Ieee.Scale.{finite}
use Rattle.number.specs.Same.{Same, plain}
use Rattle.number.proofs.Signs.{mul_neg, finite_neg, fabsf_neg}
use Rattle.number.proofs.Same.{same_refl, same_of, same_trans, same_add, same_sub, same_mul, same_fabsf, same_finite, add_neg, sub_neg}
use Rattle.vector.specs.declared.Vector.{Vector}
use Rattle.vector.specs.Vectors.{zero_vector, finite_vector, larger, exceeds_of, add_of, sub_of, mul_of}
use Rattle.vector.specs.Mounting.{Signed, Px, Py, Pz, Nx, Ny, Nz, Mounting, mounting, mountings, mounting_of, read, turn}
use Rattle.vector.specs.Turned.{TurnedBy}

-- ---- which mountings are permutations: a test computed over the list of mountings

abbrev itself : Bool → Bool
itself b = b

abbrev and3 : Bool → Bool → Bool → Bool
and3 a b c = a && b && c

abbrev or3 : Bool → Bool → Bool → Bool
or3 a b c = a || b || c

-- the test t of what the three signed axes of m read
abbrev through : (Bool → Bool → Bool → Bool) → Mounting → Bool → Bool → Bool → Bool
through t m a b c = t (read itself a b c m.x) (read itself a b c m.y) (read itself a b c m.z)

abbrev keeps : Mounting → Bool → Bool → Bool → Bool
keeps m a b c = beq (through and3 m a b c) (and3 a b c) && beq (through or3 m a b c) (or3 a b c)

abbrev both : (Bool → Bool) → Bool
both f = f true && f false

both_at : (f : Bool → Bool) → T (both f) → (b : Bool) → T (f b)
both_at f t true = and_l (f true) (f false) t
both_at f t false = and_r (f true) (f false) t

-- the mounting does not change an `and` or an `or` of all three: tried at each
abbrev pub permutes : Mounting → Bool
permutes m = both (λ a. both (λ b. both (λ c. keeps m a b c)))

keeps_at : (m : Mounting) → T (permutes m) → (a b c : Bool) → T (keeps m a b c)
keeps_at m t a b c =
    both_at (λ c. keeps m a b c) (both_at (λ b. both (λ c. keeps m a b c)) (both_at (λ a. both (λ b. both (λ c. keeps m a b c))) t a) b) c

pub beq_eq : (a b : Bool) → T (beq a b) → a ≡ b
beq_eq true true t = refl
beq_eq true false t = absurd t
beq_eq false true t = absurd t
beq_eq false false t = refl

and_kept : (m : Mounting) → T (permutes m) → (a b c : Bool) → through and3 m a b c ≡ and3 a b c
and_kept m t a b c =
    beq_eq (through and3 m a b c) (and3 a b c)
    (and_l (beq (through and3 m a b c) (and3 a b c)) (beq (through or3 m a b c) (or3 a b c)) (keeps_at m t a b c))

or_kept : (m : Mounting) → T (permutes m) → (a b c : Bool) → through or3 m a b c ≡ or3 a b c
or_kept m t a b c =
    beq_eq (through or3 m a b c) (or3 a b c)
    (and_r (beq (through and3 m a b c) (and3 a b c)) (beq (through or3 m a b c) (or3 a b c)) (keeps_at m t a b c))

abbrev all_permute : List Mounting → Bool
all_permute [] = true
all_permute (m ∷ ms) = permutes m && all_permute ms

permute_at : (ms : List Mounting) → T (all_permute ms) → (n : ℕ) → T (permutes (get_or ms n (mounting Px Py Pz)))
permute_at [] t n = tt
permute_at (m ∷ ms) t zero = and_l (permutes m) (all_permute ms) t
permute_at (m ∷ ms) t (suc n) = permute_at ms (and_r (permutes m) (all_permute ms) t) n

pub each_permutes : (n : ℕ) → T (permutes (mounting_of n))
unfolding mounting_of
each_permutes n = permute_at mountings tt n

-- ---- a vector turned is turned

pub turned_turn : (m : Mounting) (v : Vector) → TurnedBy m v (turn m v)
turned_turn m v = record { x = same_refl _; y = same_refl _; z = same_refl _ }

-- a test that pays no heed to signs
record Even (p : Float → Bool) : Type 0 where
  even : (x : Float) → p (neg x) ≡ p x
  same : {x y : Float} → Same x y → p x ≡ p y

read_test : (p : Float → Bool) → ((x : Float) → p (neg x) ≡ p x) → (x y z : Float) (s : Signed) → p (read neg x y z s) ≡ read itself (p x) (p y) (p z) s
read_test p e x y z Px = refl
read_test p e x y z Py = refl
read_test p e x y z Pz = refl
read_test p e x y z Nx = e x
read_test p e x y z Ny = e y
read_test p e x y z Nz = e z

abbrev ap3 : (f : Bool → Bool → Bool → Bool) {a a' b b' c c' : Bool} → a ≡ a' → b ≡ b' → c ≡ c' → f a b c ≡ f a' b' c'
ap3 f p q r = λ i. f (p i) (q i) (r i)

axis : (p : Float → Bool) → Even p → (v : Vector) (u : Float) (s : Signed) → Same u (read neg v.x v.y v.z s)
    → p u ≡ read itself (p v.x) (p v.y) (p v.z) s
axis p e v u s h = e.same h ∙ read_test p e.even v.x v.y v.z s

-- a test of all three, or of any, by such a test of one
module _ (p : Float → Bool) (e : Even p) (m : Mounting) (t : T (permutes m)) {v w : Vector} (h : TurnedBy m v w) where
  three : (f : Bool → Bool → Bool → Bool) → f (p w.x) (p w.y) (p w.z) ≡ through f m (p v.x) (p v.y) (p v.z)
  three f = ap3 f (axis p e v w.x m.x h.x) (axis p e v w.y m.y h.y) (axis p e v w.z m.z h.z)

  all_turned : and3 (p w.x) (p w.y) (p w.z) ≡ and3 (p v.x) (p v.y) (p v.z)
  all_turned = three and3 ∙ and_kept m t (p v.x) (p v.y) (p v.z)

  any_turned : or3 (p w.x) (p w.y) (p w.z) ≡ or3 (p v.x) (p v.y) (p v.z)
  any_turned = three or3 ∙ or_kept m t (p v.x) (p v.y) (p v.z)

finite_even : Even finite
finite_even = record { even = finite_neg; same = same_finite }

larger_even : (limit : Float) → Even (larger limit)
larger_even limit = record { even = λ x. rw (fabsf_neg x); same = λ h. rw (same_fabsf h) }

pub finite_turned : (m : Mounting) → T (permutes m) → {v w : Vector} → TurnedBy m v w → finite_vector w ≡ finite_vector v
unfolding finite_vector
finite_turned m t h = all_turned finite finite_even m t h

pub exceeds_turned : (limit : Float) (m : Mounting) → T (permutes m) → {v w : Vector} → TurnedBy m v w → exceeds_of w limit ≡ exceeds_of v limit
unfolding exceeds_of
exceeds_turned limit m t h = any_turned (larger limit) (larger_even limit) m t h

-- ---- arithmetic, axis by axis

zero_neg : Same (of_bits binary32 0) (neg (of_bits binary32 0))
unfolding plain neg of_bits
zero_neg = record { number = refl }

zero_axis : (s : Signed) → Same (of_bits binary32 0) (read neg (of_bits binary32 0) (of_bits binary32 0) (of_bits binary32 0) s)
zero_axis Px = same_refl _
zero_axis Py = same_refl _
zero_axis Pz = same_refl _
zero_axis Nx = zero_neg
zero_axis Ny = zero_neg
zero_axis Nz = zero_neg

pub turned_zero : (m : Mounting) → TurnedBy m zero_vector zero_vector
turned_zero m = record { x = zero_axis m.x; y = zero_axis m.y; z = zero_axis m.z }

-- an operation that takes two changed signs out, and keeps floats that are the same number so
record Odd (op : Float → Float → Float) : Type 0 where
  odd : (x y : Float) → Same (op (neg x) (neg y)) (neg (op x y))
  same : {x x' y y' : Float} → Same x x' → Same y y' → Same (op x y) (op x' y')

abbrev each : (Float → Float → Float) → Vector → Vector → Vector
each op v w = record { x = op v.x w.x; y = op v.y w.y; z = op v.z w.z }

module _ (op : Float → Float → Float) (o : Odd op) where
  read_op : (v w : Vector) (s : Signed)
      → Same (op (read neg v.x v.y v.z s) (read neg w.x w.y w.z s)) (read neg (op v.x w.x) (op v.y w.y) (op v.z w.z) s)
  read_op v w Px = same_refl _
  read_op v w Py = same_refl _
  read_op v w Pz = same_refl _
  read_op v w Nx = o.odd v.x w.x
  read_op v w Ny = o.odd v.y w.y
  read_op v w Nz = o.odd v.z w.z

  turned_each : (m : Mounting) {v v' w w' : Vector} → TurnedBy m v v' → TurnedBy m w w' → TurnedBy m (each op v w) (each op v' w')
  turned_each m {v} {v'} {w} {w'} h k =
      record {
        x = same_trans (o.same h.x k.x) (read_op v w m.x);
        y = same_trans (o.same h.y k.y) (read_op v w m.y);
        z = same_trans (o.same h.z k.z) (read_op v w m.z);
      }

pub turned_add : (m : Mounting) {v v' w w' : Vector} → TurnedBy m v v' → TurnedBy m w w' → TurnedBy m (add_of v w) (add_of v' w')
turned_add m h k = turned_each (add binary32) (record { odd = add_neg binary32; same = same_add binary32 }) m h k

pub turned_sub : (m : Mounting) {v v' w w' : Vector} → TurnedBy m v v' → TurnedBy m w w' → TurnedBy m (sub_of v w) (sub_of v' w')
turned_sub m h k = turned_each (sub binary32) (record { odd = sub_neg binary32; same = same_sub binary32 }) m h k

read_mul : (v : Vector) (k : Float) (s : Signed)
    → mul binary32 (read neg v.x v.y v.z s) k ≡ read neg (mul binary32 v.x k) (mul binary32 v.y k) (mul binary32 v.z k) s
read_mul v k Px = refl
read_mul v k Py = refl
read_mul v k Pz = refl
read_mul v k Nx = mul_neg binary32 v.x k
read_mul v k Ny = mul_neg binary32 v.y k
read_mul v k Nz = mul_neg binary32 v.z k

pub turned_mul : (m : Mounting) {v v' : Vector} (k : Float) → TurnedBy m v v' → TurnedBy m (mul_of v k) (mul_of v' k)
turned_mul m {v} k h =
    record {
      x = same_trans (same_mul binary32 h.x (same_refl k)) (same_of (read_mul v k m.x));
      y = same_trans (same_mul binary32 h.y (same_refl k)) (same_of (read_mul v k m.y));
      z = same_trans (same_mul binary32 h.z (same_refl k)) (same_of (read_mul v k m.z));
    }
