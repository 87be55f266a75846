-- Each name is read as its mounting, and no other bytes are that name. Assumes nothing.
use Prim.Native.Nat.{ℕ, zero, suc, ◌+◌, ◌≤◌, ◌<◌}
use native.Mathlib.Omega.{arith}
use mathlib.Core.Path.{◌≡◌, refl, ap, sym, ◌∙◌}
use mathlib.Core.Bool.{Bool, true, false, not}
use mathlib.Core.List.{List, [], ◌∷◌}
use lib.Dec.{eqb, ltb, eqb→eq}
use lib.ListN.{length, get_or, drop}
use borrow.Author.Tests.{ltb-false, le-ltb, lt-ltb}
use Rattle.answer.specs.Said.{alone}
use Rattle.answer.proofs.Tests.{agrees}
use Rattle.answer.specs.Refusals.{check, refusal_of, accepted}
use Rattle.vector.specs.Axes.{places_of}
use Rattle.vector.specs.Mounting.{mounting_of}
use Rattle.std.specs.declared.result.Result.TheVariants.{Ok, Err}
use Rattle.answer.specs.declared.refusal.Refusal.TheVariants.{Unknown}
use Rattle.answer.specs.Rows.{refusal_at}
use Rattle.remap.specs.First.{first}
use Rattle.remap.specs.Given.{Gives}
use Rattle.remap.specs.Names.{name_of, same, named_by, read_checks, NameRead, NoOther}
use Rattle.remap.specs.Inner.{byte_of}
use Rattle.answer.proofs.Answering.{fails, passes, all_pass, unfailed, refuses_result, gives_result}
use Rattle.std.proofs.lemmas.List.{ext_get_or}
use Rattle.remap.proofs.Searching.{first_passes, same_next, same_not, same_end, same_eq}
use Rattle.remap.proofs.Tabled.{at_each, at_both}

name_length : (n : ℕ) → length (name_of n) ≡ 6
unfolding name_of
name_length n = refl

-- ---- six bytes s against a name, of which k are passed

module _ (s : List ℕ) (n k : ℕ) (six : length s ≡ 6) where
  pub name_next : k < 6 → get_or s k 0 ≡ get_or (name_of n) k 0 → same (drop k s) (drop k (name_of n)) ≡ same (drop (k + 1) s) (drop (k + 1) (name_of n))
  name_next h = same_next s (name_of n) k (omega arith) (omega (arith, name_length n))

  pub name_not : k < 6 → (get_or s k 0 ≡ get_or (name_of n) k 0 → ⊥) → same (drop k s) (drop k (name_of n)) ≡ false
  name_not h = same_not s (name_of n) k (omega arith) (omega (arith, name_length n))

  pub name_end : 6 ≤ k → same (drop k s) (drop k (name_of n)) ≡ true
  name_end h = same_end s (name_of n) k (omega arith) (omega (arith, name_length n))

-- ---- the code's bytes

-- the bytes that are read off a mounting's number are its name: a test that antt computes at all 144
pub byte_at : (n k : ℕ) {a : ℕ} → n < 24 → k < 6 → a ≡ places_of n → byte_of a k ≡ get_or (name_of n) k 0
unfolding byte_of name_of mounting_of
byte_at n k h g e =
    ap (λ (a : ℕ). byte_of a k) e
    ∙ eqb→eq (byte_of (places_of n) k) (get_or (name_of n) k 0) (at_both 24 6 (λ m i. eqb (byte_of (places_of m) i) (get_or (name_of m) i 0)) tt n k h g)

-- six bytes of which each is read off the number are its name
module _ (n : ℕ) {a : ℕ} {s : List ℕ} (h : n < 24) (e : a ≡ places_of n) (six : length s ≡ 6) where
  pub spelled : get_or s 0 0 ≡ byte_of a 0 → get_or s 1 0 ≡ byte_of a 1 → get_or s 2 0 ≡ byte_of a 2 → get_or s 3 0 ≡ byte_of a 3
      → get_or s 4 0 ≡ byte_of a 4 → get_or s 5 0 ≡ byte_of a 5 → s ≡ name_of n
  spelled p q r t u v = ext_get_or 0 s (name_of n) (six ∙ sym (name_length n)) (λ i g. each i (omega (arith, six)) ∙ byte_at n i h (omega (arith, six)) e)
    where
      each : (i : ℕ) → i < 6 → get_or s i 0 ≡ byte_of a i
      each zero g = p
      each (suc zero) g = q
      each (suc (suc zero)) g = r
      each (suc (suc (suc zero))) g = t
      each (suc (suc (suc (suc zero)))) g = u
      each (suc (suc (suc (suc (suc zero))))) g = v
      each (suc (suc (suc (suc (suc (suc i)))))) g = absurd (omega arith)

-- ---- writing and reading

-- neither of the two checks fails
passed_both : (a b : Bool) → refusal_of (check 1 a ∷ check 4 b ∷ []) ≡ 0 → (a ≡ false) × (b ≡ false)
passed_both a b e =
    let (first, rest) = unfailed 0 a _ e in
    (first, (unfailed 3 b [] rest).0)

module _ (s : List ℕ) (six : length s ≡ 6) where
  pub reads : (n : ℕ) → n < 24 → named_by s ≡ n → Gives (read_checks s) (named_by s) (Ok n)
  reads n h e =
      gives_result alone (read_checks s) (named_by s) (sym (passes 1 _ (agrees (length s) 6 six) ∙ passes 4 _ (le-ltb 23 (named_by s) (omega arith)) ∙ all_pass))
      (ap Ok (sym e))

  pub unknown : (n : ℕ) → 24 ≤ n → named_by s ≡ n → Gives (read_checks s) (named_by s) (Err Unknown)
  unknown n h e =
      refuses_result alone (read_checks s) (named_by s) Unknown
      (sym (passes 1 _ (agrees (length s) 6 six) ∙ fails 4 _ (lt-ltb 23 (named_by s) (omega arith))))

-- the search finds each name at its own number: a test that antt computes
found : (n : ℕ) → n < 24 → named_by (name_of n) ≡ n
unfolding first same name_of mounting_of
found n h = eqb→eq (named_by (name_of n)) n (at_each 24 (λ i. eqb (named_by (name_of i)) i) tt n h)

pub name_read : NameRead
unfolding name_of
name_read n h = sym (reads (name_of n) refl n h (found n h)).exact

-- what is found is its name
pub is_name : (s : List ℕ) → named_by s < 24 → s ≡ name_of (named_by s)
is_name s h = same_eq s (name_of (named_by s)) (first_passes (λ n. same s (name_of n)) 24 0 h)

pub no_other : NoOther
no_other s n e = go (refusal_of (read_checks s)) refl e
  where
    go : (k : ℕ) → refusal_of (read_checks s) ≡ k → accepted k (Ok (named_by s)) (Err (refusal_at k)) ≡ Ok n → (n < 24) × (s ≡ name_of n)
    go zero p q =
        let f : named_by s ≡ n = cc in
        let b = ltb-false 23 (named_by s) (passed_both (not (eqb (length s) 6)) (ltb 23 (named_by s)) p).1 in
        (omega arith, is_name s (omega arith) ∙ ap name_of f)
    go (suc k) p q = (let z : ◌≡◌ {A = ℕ} 0 1 = cc in omega arith, cc)
