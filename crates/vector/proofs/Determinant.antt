-- The mountings are all the triples of signed axes with determinant 1: tests that antt computes at all 216 triples. Assumes nothing.
use Prim.Native.Nat.{ℕ, zero, suc, ◌<◌}
use native.Mathlib.Omega.{arith}
use mathlib.Core.Path.{◌≡◌, ap, sym, subst, ◌∙◌}
use mathlib.Core.Bool.{Bool, true, false, not, ◌&&◌, ◌||◌, beq}
use mathlib.Core.List.{List, [], ◌∷◌}
use lib.Dec.{T, T_not, eqb, eqb→eq, eqb_refl}
use lib.IntN.{ℤ, pos, negsuc}
use lib.ListN.{length, get_or}
use lib.Ieee.Fits.{and_i, and_l, and_r}
use Rattle.vector.specs.Axes.{place_of, signed_axes}
use Rattle.vector.specs.Mounting.{Signed, Px, Py, Pz, Nx, Ny, Nz, Mounting, mounting, mountings, mounting_of}
use Rattle.vector.specs.Determinant.{determinant_of, letter_of, Permutation, Numbered, AllOfDeterminantOne}
use Rattle.vector.proofs.Axes.{at_place}
use Rattle.vector.proofs.Turning.{beq_eq}

-- ---- whether two mountings are the same

abbrev alike : Signed → Signed → Bool
alike s t = eqb (place_of s) (place_of t)

alike_eq : (s t : Signed) → T (alike s t) → s ≡ t
alike_eq s t h =
    let itself = at_place (λ (s : Signed). s) Px in
    sym (itself s) ∙ ap (λ (n : ℕ). get_or signed_axes n Px) (eqb→eq (place_of s) (place_of t) h) ∙ itself t

abbrev same : Mounting → Mounting → Bool
same m k = alike m.x k.x && (alike m.y k.y && alike m.z k.z)

same_eq : (m k : Mounting) → T (same m k) → m ≡ k
same_eq m k t =
    let yz = and_r (alike m.x k.x) (alike m.y k.y && alike m.z k.z) t in
    let x = alike_eq m.x k.x (and_l (alike m.x k.x) (alike m.y k.y && alike m.z k.z) t) in
    let y = alike_eq m.y k.y (and_l (alike m.y k.y) (alike m.z k.z) yz) in
    let z = alike_eq m.z k.z (and_r (alike m.y k.y) (alike m.z k.z) yz) in
    λ i. record { x = x i; y = y i; z = z i }

same_itself : (m : Mounting) → T (same m m)
same_itself m =
    let x = place_of m.x in
    let y = place_of m.y in
    let z = place_of m.z in
    and_i (eqb x x) (eqb y y && eqb z z) (eqb_refl x) (and_i (eqb y y) (eqb z z) (eqb_refl y) (eqb_refl z))

-- ---- whether a list has a mounting

abbrev member : Mounting → List Mounting → Bool
member m [] = false
member m (k ∷ ks) = same m k || member m ks

abbrev At : Mounting → List Mounting → Type 0
At m ks = (n : ℕ) × (n < length ks) × (get_or ks n (mounting Px Py Pz) ≡ m)

member_at : (m : Mounting) (ks : List Mounting) → T (member m ks) → At m ks
member_at m [] t = absurd t
member_at m (k ∷ ks) t = go (same m k) (same_eq m k) t (member_at m ks)
  where
    go : (b : Bool) → (T b → m ≡ k) → T (b || member m ks) → (T (member m ks) → At m ks) → At m (k ∷ ks)
    go true e h among = (0, omega arith, sym (e tt))
    go false e h among = let (n, l, f) = among h in (suc n, omega arith, f)

first : (a b : Bool) → T a → T (a || b)
first true b t = tt
first false b t = absurd t

later : (a b : Bool) → T b → T (a || b)
later true b t = tt
later false b t = t

at_member : (ks : List Mounting) (n : ℕ) → n < length ks → T (member (get_or ks n (mounting Px Py Pz)) ks)
at_member [] n h = absurd (omega arith)
at_member (k ∷ ks) zero h = first (same k k) (member k ks) (same_itself k)
at_member (k ∷ ks) (suc n) h =
    let m = get_or ks n (mounting Px Py Pz) in
    later (same m k) (member m ks) (at_member ks n (omega arith))

-- ---- a test at every triple

abbrev each : (Signed → Bool) → Bool
each f = f Px && (f Py && (f Pz && (f Nx && (f Ny && f Nz))))

each_at : (f : Signed → Bool) → T (each f) → (s : Signed) → T (f s)
each_at f t s =
    let t1 = and_r (f Px) _ t in
    let t2 = and_r (f Py) _ t1 in
    let t3 = and_r (f Pz) _ t2 in
    let t4 = and_r (f Nx) _ t3 in
    pick (and_l (f Px) _ t) (and_l (f Py) _ t1) (and_l (f Pz) _ t2) (and_l (f Nx) _ t3) (and_l (f Ny) _ t4) (and_r (f Ny) _ t4) s
  where
    pick : T (f Px) → T (f Py) → T (f Pz) → T (f Nx) → T (f Ny) → T (f Nz) → (s : Signed) → T (f s)
    pick a b c d e g Px = a
    pick a b c d e g Py = b
    pick a b c d e g Pz = c
    pick a b c d e g Nx = d
    pick a b c d e g Ny = e
    pick a b c d e g Nz = g

abbrev everywhere : (Mounting → Bool) → Bool
everywhere test = each (λ a. each (λ b. each (λ c. test (mounting a b c))))

at_triple : (test : Mounting → Bool) → T (everywhere test) → (m : Mounting) → T (test m)
at_triple test t m =
    let x = each_at (λ a. each (λ b. each (λ c. test (mounting a b c)))) t m.x in
    let y = each_at (λ b. each (λ c. test (mounting m.x b c))) x m.y in
    each_at (λ c. test (mounting m.x m.y c)) y m.z

-- ---- the determinant is 1 where the triple is a mounting, and nowhere else; and there no letter is shared

abbrev is_one : ℤ → Bool
is_one (pos n) = eqb n 1
is_one (negsuc n) = false

is_one_lem : (z : ℤ) → T (is_one z) → z ≡ pos 1
is_one_lem (pos n) t = ap pos (eqb→eq n 1 t)
is_one_lem (negsuc n) t = absurd t

one_is : (z : ℤ) → z ≡ pos 1 → T (is_one z)
one_is z e = subst (λ (y : ℤ). T (is_one y)) (sym e) tt

agree : (m : Mounting) → is_one (determinant_of m) ≡ member m mountings
unfolding determinant_of
agree m =
    beq_eq (is_one (determinant_of m)) (member m mountings)
    (at_triple (λ k. beq (is_one (determinant_of k)) (member k mountings)) tt m)

abbrev apart : Signed → Signed → Bool
apart s t = not (eqb (letter_of s) (letter_of t))

apart_letters : (s t : Signed) → T (apart s t) → letter_of s ≡ letter_of t → ⊥
apart_letters s t h e = T_not (eqb (letter_of s) (letter_of t)) h (subst (λ (n : ℕ). T (eqb (letter_of s) n)) e (eqb_refl (letter_of s)))

abbrev shuffles : Mounting → Bool
shuffles m = apart m.x m.y && (apart m.y m.z && apart m.z m.x)

shuffled : (m : Mounting) → T (is_one (determinant_of m)) → T (shuffles m)
unfolding determinant_of
shuffled m t = implied (is_one (determinant_of m)) (shuffles m) (at_triple (λ k. not (is_one (determinant_of k)) || shuffles k) tt m) t
  where
    implied : (a b : Bool) → T (not a || b) → T a → T b
    implied true b h t = h
    implied false b h t = absurd t

-- ---- as a statement

numbered : (m : Mounting) → At m mountings → Numbered m
unfolding mounting_of
numbered m (n, l, e) = record { number = n; below = l; is = e }

number_one : (n : ℕ) → n < 24 → determinant_of (mounting_of n) ≡ pos 1
unfolding mounting_of
number_one n h = is_one_lem (determinant_of (mounting_of n)) (subst T (sym (agree (mounting_of n))) (at_member mountings n h))

permutation : (m : Mounting) → T (shuffles m) → Permutation m
permutation m t =
    let xy = apart m.x m.y in
    let yz = apart m.y m.z in
    let zx = apart m.z m.x in
    let rest = and_r xy (yz && zx) t in
    record {
      x_y = apart_letters m.x m.y (and_l xy (yz && zx) t);
      y_z = apart_letters m.y m.z (and_l yz zx rest);
      z_x = apart_letters m.z m.x (and_r yz zx rest);
    }

pub all_of_determinant_one : AllOfDeterminantOne
all_of_determinant_one =
    record {
      all = λ m e. numbered m (member_at m mountings (subst T (agree m) (one_is (determinant_of m) e)));
      no_other = λ m h. sym (ap determinant_of h.is) ∙ number_one h.number h.below;
      permutation = λ m e. permutation m (shuffled m (one_is (determinant_of m) e));
    }
