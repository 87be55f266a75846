-- A name with its number: its length, and how it is put, each part behind the one before. Assumes nothing.
use Prim.Native.Nat.{ℕ, suc, ◌+◌, ◌-◌, ◌≤◌, ◌<◌}
use native.Mathlib.Omega.{arith}
use mathlib.Core.Path.{◌≡◌, ap, ap₂, sym, ◌∙◌}
use mathlib.Core.List.{List, [], ◌∷◌, ◌++◌, append_assoc}
use lib.ListN.{length, take, drop, set, length-append}
use lib.Seq.{drop-drop, set_split}
use borrow.Rule.Slice.PartMut.{mid_of, put_mid}
use Rattle.text.specs.Text.{space, newline, decimal_of, named_of}
use Rattle.text.specs.Putting.{over, Puts, Fits}
use Rattle.text.proofs.Putting.{behind, over_over, too_long, put_fits}
use Rattle.text.proofs.Feeding.{longer}

pub named_long : (name : List ℕ) (n : ℕ) → length (named_of name n) ≡ length name + 2 + length (decimal_of n)
unfolding named_of
named_long name n =
    omega (arith, length-append (name ++ (space ∷ decimal_of n)) (newline ∷ []), length-append name (space ∷ decimal_of n))

-- a byte behind a text
put_byte : (t old : List ℕ) (b : ℕ) → length t < length old → set (over t old) (length t) b ≡ over (t ++ (b ∷ [])) old
unfolding over
put_byte t old b h =
    let x = over t old in
    let size : length t < length x = omega (arith, longer t old) in
    let next : suc (length t) ≡ length t + 1 = omega arith in
    set_split x (length t) b size
    ∙ ap (λ (y : List ℕ). take (length t) x ++ (b ∷ y)) (ap (λ (k : ℕ). drop k x) next ∙ sym (drop-drop 1 (length t) x))
    ∙ over_over t (b ∷ []) old

module _ (name : List ℕ) (number : ℕ) (old : List ℕ) {k : ℕ} (size : k ≡ length (decimal_of number)) where
  pub no_named : length old < length name + (k + 2) → Fits (named_of name number) old old 0
  no_named h = too_long (named_of name number) old (omega (arith, named_long name number))

  module _ (room : length name + (k + 2) ≤ length old) {one : List ℕ} {n : ℕ} (p : Puts name old one n) where
    abbrev spaced : List ℕ
    spaced = set one n space

    is_spaced : spaced ≡ over (name ++ (space ∷ [])) old
    is_spaced = ap₂ (λ (x : List ℕ) (i : ℕ). set x i space) p.holds p.count ∙ put_byte name old space (omega arith)

    pub puts_named : {digits : List ℕ} {j : ℕ} → Puts (decimal_of number) (mid_of (n + 1) (length spaced - (n + 1)) spaced) digits j
        → Fits (named_of name number) old (set (put_mid (n + 1) (length spaced - (n + 1)) spaced digits) (n + 1 + k) newline) (n + k + 2)
    unfolding named_of
    puts_named {digits} q =
        let t = name ++ (space ∷ []) in
        let d = decimal_of number in
        let a = length-append name (space ∷ []) in
        let b = length-append t d in
        let start : n + 1 ≡ length t = omega (arith, p.count, a) in
        let whole : put_mid (n + 1) (length spaced - (n + 1)) spaced digits ≡ over (t ++ d) old
        = behind (n + 1) spaced (omega (arith, p.count, a, ap length is_spaced ∙ longer t old)) q
        ∙ ap₂ (λ (i : ℕ) (x : List ℕ). take i x ++ over d (drop i x)) start is_spaced ∙ over_over t d old in
        let line : set (over (t ++ d) old) (length (t ++ d)) newline ≡ over (named_of name number) old
        = put_byte (t ++ d) old newline (omega (arith, a, b))
        ∙ ap (λ (x : List ℕ). over (x ++ (newline ∷ [])) old) (append_assoc name (space ∷ []) d) in
        let end : n + 1 + k ≡ length (t ++ d) = omega (arith, p.count, a, b) in
        put_fits (named_of name number) old (omega (arith, named_long name number))
        (record {
          count = omega (arith, p.count, named_long name number);
          holds = ap₂ (λ (x : List ℕ) (i : ℕ). set x i newline) whole end ∙ line;
        })
