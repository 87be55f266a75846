-- A text over what a slice held: nothing, one text behind another, and a text where it fits. Assumes nothing.
use Prim.Native.Nat.{ℕ, ◌+◌, ◌-◌, ◌≤◌, ◌<◌}
use native.Mathlib.Omega.{arith}
use mathlib.Core.Path.{◌≡◌, refl, ap, ap₂, sym, ◌∙◌, subst}
use mathlib.Core.List.{List, [], ◌++◌, append_assoc, append-nil}
use lib.ListN.{length, take, drop, length-append, length-drop, drop_of_length-le, take-append-drop}
use lib.Seq.{drop-drop, length-take-le, take_all, take-append_seam, drop-append_seam, take-append-add, drop-append-add}
use borrow.Author.Tests.{le-leb, lt-leb}
use borrow.Rule.Slice.PartMut.{mid_of, post_of, put_mid}
use Rattle.text.specs.Putting.{over, put_at, Puts, Fits}

-- the same text, by another name
pub puts_as : {t u old after : List ℕ} {n : ℕ} → t ≡ u → Puts t old after n → Puts u old after n
puts_as {t} {u} {old} {after} {n} e p = subst (λ (x : List ℕ). Puts x old after n) e p

pub puts_nothing : (old : List ℕ) → Puts [] old old 0
unfolding over
puts_nothing old = record { count = refl; holds = refl }

-- ---- one text behind another

-- of a slice, what stands from n on was lent and came back as ys
put_rest : (n : ℕ) (old ys : List ℕ) → n ≤ length old → put_mid n (length old - n) old ys ≡ take n old ++ ys
put_rest n old ys h =
    let e : post_of n (length old - n) old ≡ [] = drop_of_length-le (drop n old) {i = length old - n} (omega (arith, length-drop n old)) in
    ap (λ (x : List ℕ). take n old ++ (ys ++ x)) e ∙ ap (λ (x : List ℕ). take n old ++ x) (append-nil ys)

mid_rest : (n : ℕ) (old : List ℕ) → mid_of n (length old - n) old ≡ drop n old
mid_rest n old = take_all (length old - n) (drop n old) (omega (arith, length-drop n old))

pub rest_long : (n : ℕ) (old : List ℕ) → length (mid_of n (length old - n) old) ≡ length old - n
rest_long n old = ap length (mid_rest n old) ∙ length-drop n old

pub behind : (n : ℕ) (old : List ℕ) {t ys : List ℕ} {p : ℕ} → n ≤ length old → Puts t (mid_of n (length old - n) old) ys p
    → put_mid n (length old - n) old ys ≡ put_at n t old
behind n old {t} {ys} h q = put_rest n old ys h ∙ ap (λ (x : List ℕ). take n old ++ x) (q.holds ∙ ap (over t) (mid_rest n old))

pub over_over : (t u old : List ℕ) → take (length t) (over t old) ++ over u (drop (length t) (over t old)) ≡ over (t ++ u) old
unfolding over
over_over t u old =
    ap₂ (λ (x y : List ℕ). x ++ (u ++ drop (length u) y)) (take-append_seam t (drop (length t) old)) (drop-append_seam t (drop (length t) old))
    ∙ ap (λ (x : List ℕ). t ++ (u ++ x)) (drop-drop (length u) (length t) old ∙ ap (λ (k : ℕ). drop k old) (sym (length-append t u)))
    ∙ sym (append_assoc t u (drop (length (t ++ u)) old))

pub put_none : (n : ℕ) (old : List ℕ) → put_at n [] old ≡ old
unfolding over
put_none n old = take-append-drop n old

-- what comes behind a text is put behind its bytes
pub put_more : (n : ℕ) (old t u : List ℕ) → n ≤ length old → put_at n (t ++ u) old ≡ put_at (n + length t) u (put_at n t old)
put_more n old t u h =
    let x = take n old in
    let y = over t (drop n old) in
    let e : n ≡ length x = sym (length-take-le n old h) in
    sym
    (ap₂ (λ (a b : List ℕ). a ++ over u b)
    (ap (λ (k : ℕ). take (k + length t) (x ++ y)) e ∙ take-append-add x y (length t))
    (ap (λ (k : ℕ). drop (k + length t) (x ++ y)) e ∙ drop-append-add x y (length t))
    ∙ append_assoc x (take (length t) y) (over u (drop (length t) y))
    ∙ ap (λ (a : List ℕ). x ++ a) (over_over t u (drop n old)))

-- ---- a text where it fits

module _ (text old : List ℕ) where
  pub too_long : length old < length text → Fits text old old 0
  too_long h = record { count = rw (lt-leb (length text) (length old) h); holds = rw (lt-leb (length text) (length old) h) }

  module _ {after : List ℕ} {n : ℕ} (h : length text ≤ length old) where
    pub put_fits : Puts text old after n → Fits text old after n
    put_fits p =
        record { count = p.count ∙ rw (le-leb (length text) (length old) h); holds = p.holds ∙ rw (le-leb (length text) (length old) h) }

    pub fits_put : Fits text old after n → Puts text old after n
    fits_put f =
        record { count = f.count ∙ rw (le-leb (length text) (length old) h); holds = f.holds ∙ rw (le-leb (length text) (length old) h) }

pub fits_as : {t u old after : List ℕ} {n : ℕ} → t ≡ u → Fits t old after n → Fits u old after n
fits_as {t} {u} {old} {after} {n} e f = subst (λ (x : List ℕ). Fits x old after n) e f
