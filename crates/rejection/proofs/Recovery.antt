-- A locked-out sensor always comes back: `AlwaysBack` and `NeverBegins` hold. A step from natural numbers leaves natural numbers, one law for each way that it
-- may go; the rest is induction over the readings. Assumes nothing.
use Prim.Native.Nat.{ℕ, zero, suc, ◌+◌, ◌-◌, ◌*◌, ◌<◌, ◌≤◌, min}
use native.Mathlib.Omega.{arith}
use mathlib.Core.Path.{◌≡◌, refl, ap, ap₂, sym, subst, ◌∙◌}
use mathlib.Core.Bool.{Bool, true, false, cond, false≢true}
use mathlib.Core.Logic.{⊎_elim}
use mathlib.Core.List.{List, [], ◌∷◌, ◌++◌}
use lib.Dec.{ltb, leb}
use lib.ListN.{replicate}
use lib.IntN.{ℤ, pos, negsuc}
use lib.Signed.{lt_z}
use borrow.Author.Tests.{ltb-true, ltb-false, lt-ltb, le-ltb, le-leb, lt-leb}
use Rattle.number.specs.Whole.{saturated_of, clamp_of}
use Rattle.rejection.specs.declared.Counts.{Counts}
use Rattle.rejection.specs.declared.Updated.{Updated}
use Rattle.rejection.specs.Counts.{counted, reset_of, moved_of, settled_of, updated_of, recovery_of}
use Rattle.rejection.specs.Inside.{NotBelow, ZeroOr}
use Rattle.rejection.specs.Readings.{Kind, good, over, all_zero, by_kind, after_all}
use Rattle.rejection.specs.Recovery.{locked_out, begun, recovering, ninth, AlwaysBack, largest, NeverBegins}
use Rattle.rejection.proofs.Inside.{stays_inside}

abbrev at : ℕ → ℕ → Counts
at t h = counted (pos t) (pos h)

abbrev leaving : Counts → Bool → Updated
leaving c used = record { counts = c; used = used }

-- ---- a reading over the limit

saturated : (n : ℕ) → n ≤ 2147483647 → saturated_of (pos n) ≡ pos n
unfolding saturated_of
saturated n p = rw (le-ltb 2147483647 n p)

module _ (T t h : ℕ) (b : T < 2147483647) (p : t ≤ T) where
  rises : by_kind (pos T) (at t h) over ≡ settled_of (pos T) (pos h) (pos (t + 1)) true
  unfolding updated_of moved_of
  rises = ap (λ (z : ℤ). settled_of (pos T) (pos h) z true) (saturated (t + 1) (omega arith))

  -- not above the threshold, and so not above T: it is ignored
  waits : t + 1 ≤ h → t < T → by_kind (pos T) (at t h) over ≡ leaving (at (t + 1) T) false
  unfolding clamp_of
  waits q r = rises ∙ (rw (le-ltb (t + 1) 0 (omega arith), le-ltb h (t + 1) q, le-ltb T (t + 1) (omega arith)))

  -- above the threshold, and above T: it is used, and the trigger is T
  begins : h < t + 1 → t ≡ T → by_kind (pos T) (at t h) over ≡ leaving (at T 0) true
  unfolding clamp_of
  begins q r = rises ∙ (rw (le-ltb (t + 1) 0 (omega arith), lt-ltb h (t + 1) q, lt-ltb T (t + 1) (omega arith)))

-- what n of them leave
abbrev locked : ℕ → ℕ → Counts
locked T n = at (min n T) (cond (leb n T) T 0)

locked_low : (T n : ℕ) → n ≤ T → locked T n ≡ at n T
locked_low T n p = ap₂ at (omega arith) (rw (le-leb n T p))

locked_high : (T n : ℕ) → T < n → locked T n ≡ at T 0
locked_high T n p = ap₂ at (omega arith) (rw (lt-leb n T p))

one_more : (T n : ℕ) → T < 2147483647 → by_kind (pos T) (locked T n) over ≡ leaving (locked T (suc n)) (leb T n)
one_more T n b = go (ltb n T) (ltb T n) refl refl
  where
    from : (c : Counts) → locked T n ≡ c → by_kind (pos T) (locked T n) over ≡ by_kind (pos T) c over
    from c e = ap (λ (c : Counts). by_kind (pos T) c over) e

    go : (p q : Bool) → ltb n T ≡ p → ltb T n ≡ q → by_kind (pos T) (locked T n) over ≡ leaving (locked T (suc n)) (leb T n)
    go true q e f =
        let l = ltb-true n T e in
        from (at n T) (locked_low T n (omega arith)) ∙ waits T n T b (omega arith) (omega arith) l
        ∙ ap₂ leaving (ap₂ at (omega arith) refl ∙ sym (locked_low T (suc n) (omega arith))) (sym (lt-leb T n l))
    go false true e f =
        let l = ltb-true T n f in
        from (at T 0) (locked_high T n l) ∙ begins T T 0 b (omega arith) (omega arith) refl
        ∙ ap₂ leaving (sym (locked_high T (suc n) (omega arith))) (sym (le-leb T n (omega arith)))
    go false false e f =
        let k = ltb-false n T e in
        let l = ltb-false T n f in
        from (at n T) (locked_low T n l) ∙ begins T n T b l (omega arith) (omega arith)
        ∙ ap₂ leaving (sym (locked_high T (suc n) (omega arith))) (sym (le-leb T n k))

more : (T m n : ℕ) → T < 2147483647 → after_all (pos T) (locked T m) (replicate n over) ≡ locked T (m + n)
more T m zero b = ap (locked T) (omega arith)
more T m (suc n) b =
    ap (λ (u : Updated). after_all (pos T) u.counts (replicate n over)) (one_more T m b) ∙ more T (suc m) n b ∙ ap (locked T) (omega arith)

all_over : (T n : ℕ) → T < 2147483647 → locked_out T n ≡ locked T n
all_over T n b =
    ap (λ (c : Counts). after_all (pos T) c (replicate n over)) (sym (locked_low T 0 (omega arith))) ∙ more T 0 n b ∙ ap (locked T) (omega arith)

used_from : (T n : ℕ) → T < 2147483647 → (by_kind (pos T) (locked_out T n) over).used ≡ leb T n
used_from T n b = ap (λ (c : Counts). (by_kind (pos T) c over).used) (all_over T n b) ∙ ap (λ (u : Updated). u.used) (one_more T n b)

-- ---- good readings in recovery

-- more than 9 are left: recovery goes on
falls : (T t : ℕ) → t ≤ T → T ≤ 2147483647 → 9 < t → by_kind (pos T) (at t 0) good ≡ leaving (at (t - 9) 0) true
unfolding updated_of moved_of saturated_of clamp_of
falls T t p b q =
    let saturates = le-ltb 2147483647 (t - 9) (omega arith) in
    let clamps = le-ltb T (t - 9) (omega arith) in
    rw (le-ltb t 9 (omega arith), saturates, le-ltb (t - 9) 0 (omega arith), lt-ltb 0 (t - 9) (omega arith), clamps)

-- 9 or fewer: it ends
lasts : (T t : ℕ) → T ≤ 2147483647 → t ≤ 9 → by_kind (pos T) (at t 0) good ≡ leaving (at 0 T) true
unfolding updated_of moved_of saturated_of clamp_of
lasts T t b q = go (ltb t 9) refl
  where
    go : (p : Bool) → ltb t 9 ≡ p → by_kind (pos T) (at t 0) good ≡ leaving (at 0 T) true
    go true e = rw (e, le-ltb 2147483647 (9 - suc t) (omega arith))
    go false e =
        let nine : t ≡ 9 = omega (arith, ltb-false t 9 e) in
        ap (λ (n : ℕ). by_kind (pos T) (at n 0) good) nine ∙ (rw (le-ltb T 0 (omega arith)))

-- where it has not begun, a good reading leaves what a reset left
pub stays_reset : (timeout : ℤ) → NotBelow (pos 0) timeout → (by_kind timeout (reset_of timeout) good).counts ≡ reset_of timeout
unfolding updated_of moved_of saturated_of clamp_of
stays_reset (pos T) h = refl
stays_reset (negsuc n) h = absurd (false≢true (sym h))

rests : (T k : ℕ) → after_all (pos T) (at 0 T) (replicate k good) ≡ at 0 T
rests T zero = refl
rests T (suc k) = ap (λ (c : Counts). after_all (pos T) c (replicate k good)) (stays_reset (pos T) (le-ltb T 0 (omega arith))) ∙ rests T k

goes_on : (T t k : ℕ) → t ≤ T → T ≤ 2147483647 → 9 * k < t → after_all (pos T) (at t 0) (replicate k good) ≡ at (t - 9 * k) 0
goes_on T t zero p b q = ap₂ at (omega arith) refl
goes_on T t (suc k) p b q =
    ap (λ (u : Updated). after_all (pos T) u.counts (replicate k good)) (falls T t p b (omega arith))
    ∙ goes_on T (t - 9) k (omega arith) b (omega arith) ∙ ap₂ at (omega arith) refl

ends_by : (T t k : ℕ) → 1 ≤ t → t ≤ T → T ≤ 2147483647 → ninth t ≤ k → after_all (pos T) (at t 0) (replicate k good) ≡ at 0 T
ends_by T t zero o p b q = absurd (omega arith)
ends_by T t (suc k) o p b q = go (ltb 9 t) refl (λ l. ends_by T (t - 9) k (omega arith) (omega arith) b (omega arith))
  where
    through
        : (u : Updated) → by_kind (pos T) (at t 0) good ≡ u → after_all (pos T) u.counts (replicate k good) ≡ at 0 T
        → after_all (pos T) (at t 0) (replicate (suc k) good) ≡ at 0 T
    through u e h = ap (λ (u : Updated). after_all (pos T) u.counts (replicate k good)) e ∙ h

    go
        : (r : Bool) → ltb 9 t ≡ r → (9 < t → after_all (pos T) (at (t - 9) 0) (replicate k good) ≡ at 0 T)
        → after_all (pos T) (at t 0) (replicate (suc k) good) ≡ at 0 T
    go true e rest = through _ (falls T t p b (ltb-true 9 t e)) (rest (ltb-true 9 t e))
    go false e rest = through _ (lasts T t b (ltb-false 9 t e)) (rests T k)

up_until : (T k : ℕ) → T ≤ 2147483647 → k < ninth T → recovery_of (recovering T k) ≡ true
up_until T k b p = ap recovery_of (goes_on T T k (omega arith) b (omega arith)) ∙ lt-ltb 0 (T - 9 * k) (omega arith)

-- ---- a good reading before recovery has begun

nine_off : (T : ℕ) → (by_kind (pos T) (at 9 T) good).counts ≡ at 0 T
unfolding updated_of moved_of saturated_of clamp_of
nine_off T = rw (le-ltb T 0 (omega arith))

nine_and_one : (T : ℕ) → T < 2147483647 → 9 ≤ T → after_all (pos T) (reset_of (pos T)) (replicate 9 over ++ (good ∷ [])) ≡ at 0 T
nine_and_one T b p = ap (λ (c : Counts). (by_kind (pos T) c good).counts) (all_over T 9 b ∙ locked_low T 9 p) ∙ nine_off T

-- ---- a reading over the limit in recovery

-- a trigger above the threshold stays above it
record Raised (h t : ℕ) : Type 0 where
  number : ℕ
  is : saturated_of (pos (t + 1)) ≡ pos number
  above : h < number

raised : (h t : ℕ) → h < 2147483647 → h < t → Raised h t
unfolding saturated_of
raised h t b p = go (ltb 2147483647 (t + 1)) refl
  where
    go : (q : Bool) → ltb 2147483647 (t + 1) ≡ q → Raised h t
    go true e = record { number = 2147483647; is = rw e; above = b }
    go false e = record { number = t + 1; is = rw e; above = omega arith }

-- then the reading is used, the threshold is 0, and the trigger is not unless T is
record Up (T : ℕ) (u : Updated) : Type 0 where
  trigger : ℕ
  is : u ≡ leaving (at trigger 0) true
  some : 1 ≤ T → 0 < trigger

settles : (T h m : ℕ) → h < m → Up T (settled_of (pos T) (pos h) (pos m) true)
unfolding clamp_of
settles T h m p = go (ltb T m) refl
  where
    go : (q : Bool) → ltb T m ≡ q → Up T (settled_of (pos T) (pos h) (pos m) true)
    go true e = record { trigger = T; is = rw (lt-ltb h m p, le-ltb m 0 (omega arith), e); some = λ o. o }
    go false e = record { trigger = m; is = rw (lt-ltb h m p, le-ltb m 0 (omega arith), e); some = λ o. omega arith }

above : (T h : ℕ) → h < 2147483647 → (t : ℤ) → lt_z (pos h) t ≡ true → Up T (by_kind (pos T) (counted t (pos h)) over)
unfolding updated_of moved_of
above T h b (negsuc n) up = absurd (false≢true up)
above T h b (pos t) up =
    let r = raised h t b (ltb-true h t up) in
    subst (λ (z : ℤ). Up T (settled_of (pos T) (pos h) z true)) (sym r.is) (settles T h r.number r.above)

stays_up : (T : ℕ) → T < 2147483647 → (c : Counts) → ZeroOr (pos T) c.threshold → recovery_of c ≡ true → Up T (by_kind (pos T) c over)
stays_up T b c z up = ⊎_elim (λ e. at_threshold 0 (omega arith) e) (λ e. at_threshold T b e) z
  where
    at_threshold : (h : ℕ) → h < 2147483647 → c.threshold ≡ pos h → Up T (by_kind (pos T) c over)
    at_threshold h l e =
        subst (λ (z : ℤ). Up T (by_kind (pos T) (counted c.trigger z) over)) (sym e)
        (above T h l c.trigger (ap (λ (z : ℤ). lt_z z c.trigger) (sym e) ∙ up))

-- the threshold is not T, since the trigger is above it
up_at : (T : ℕ) (c : Counts) → ZeroOr (pos T) c.threshold → recovery_of c ≡ true → c.trigger ≡ pos T → c ≡ begun T
up_at T c z up t = ⊎_elim (λ e. ap₂ counted t e) (λ e. absurd (false≢true (sym (le-ltb T T (omega arith)) ∙ sym (ap₂ lt_z e t) ∙ up))) z

pub always_back : AlwaysBack
always_back T b =
    record {
      trigger = λ n. ap (λ (c : Counts). c.trigger) (all_over T n b);
      ignored = λ n p. used_from T n b ∙ lt-leb T n p;
      used = λ n p. used_from T n b ∙ le-leb T n p;
      once_in_ten = nine_and_one T b;
      begins = λ n p. all_over T n b ∙ locked_high T n p;
      begun_is = up_at T;
      not_sooner = λ k p. up_until T k (omega arith) p;
      ends = λ o k p. ends_by T T k o (omega arith) (omega arith) p;
      bad_used = λ c z up. ap (λ (u : Updated). u.used) (stays_up T b c z up).is;
      bad = λ o c z up.
          let u = stays_up T b c z up in
          ap (λ (u : Updated). recovery_of u.counts) u.is ∙ lt-ltb 0 u.trigger (u.some o);
      unread = λ c. refl;
    }

-- ---- T = 2^31 - 1

itself : lt_z largest largest ≡ false
itself = le-ltb 2147483647 2147483647 (omega arith)

saturated_below : (z : ℤ) → lt_z largest (saturated_of z) ≡ false
unfolding saturated_of
saturated_below z = go (lt_z z (negsuc 2147483647)) (lt_z largest z) refl
  where
    go : (p q : Bool) → lt_z largest z ≡ q → lt_z largest (cond p (negsuc 2147483647) (cond q largest z)) ≡ false
    go true q e = refl
    go false true e = itself
    go false false e = e

moved_below : (bad : Bool) (z : ℤ) → lt_z largest (moved_of bad z) ≡ false
unfolding moved_of
moved_below true z = saturated_below _
moved_below false z = saturated_below _

-- the threshold is T, and the trigger is not above it
record Shut (c : Counts) : Type 0 where
  threshold : c.threshold ≡ largest
  below : lt_z largest c.trigger ≡ false

-- no reading moves the trigger above it
does_not_pass : (c : Counts) (bad : Bool) → Shut c → lt_z c.threshold (moved_of bad c.trigger) ≡ false
does_not_pass c bad s = ap (λ (z : ℤ). lt_z z (moved_of bad c.trigger)) s.threshold ∙ moved_below bad c.trigger

updated_shut : (c : Counts) (bad : Bool) → Shut c → Shut (updated_of largest c bad).counts
unfolding updated_of
updated_shut c bad s =
    record {
      threshold = ap (λ (b : Bool). cond b (pos 0) largest) (does_not_pass c bad s);
      below = (stays_inside.update largest refl c bad).most;
    }

one_shut : (c : Counts) (x : Kind) → Shut c → Shut (by_kind largest c x).counts
one_shut c good s = updated_shut c false s
one_shut c over s = updated_shut c true s
one_shut c all_zero s = s

all_shut : (c : Counts) (xs : List Kind) → Shut c → Shut (after_all largest c xs)
all_shut c [] s = s
all_shut c (x ∷ xs) s = all_shut (by_kind largest c x).counts xs (one_shut c x s)

fresh_shut : (xs : List Kind) → Shut (after_all largest (reset_of largest) xs)
fresh_shut xs = all_shut (reset_of largest) xs (record { threshold = refl; below = refl })

never_used : (c : Counts) → Shut c → (by_kind largest c over).used ≡ false
unfolding updated_of
never_used c s = rw (does_not_pass c true s)

pub never_begins : NeverBegins
never_begins =
    record {
      down = λ xs. let s = fresh_shut xs in rw s.threshold s.below;
      ignored = λ xs. never_used _ (fresh_shut xs);
    }
