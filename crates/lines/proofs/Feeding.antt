-- What holds as a part of the input is fed byte by byte. Assumes nothing.
use Prim.Native.Nat.{ℕ, ◌+◌, ◌*◌, ◌≤◌, ◌<◌}
use native.Mathlib.Omega.{arith}
use native.Mathlib.Numerals.{add-one}
use mathlib.Core.Path.{◌≡◌, refl, ap, ap₂, sym, ◌∙◌}
use mathlib.Core.List.{List, [], ◌∷◌, ◌++◌, append-nil}
use lib.ListN.{length, take, drop, get_or, length-append}
use lib.Seq.{take-suc, take_all}
use Rattle.answer.specs.Refusals.{Check, refusal_of}
use Rattle.answer.specs.Rows.{number_in}
use Rattle.std.specs.declared.result.Result.TheVariants.{Ok}
use Rattle.wire.proofs.Cutting.{after_append, gives_append}
use Rattle.text.specs.Putting.{over, Feeds}
use Rattle.text.proofs.Putting.{puts_as, over_over}
use Rattle.text.proofs.Feeding.{fed}
use Rattle.lines.specs.declared.Line.{Line}
use Rattle.lines.specs.declared.Fed.{Fed}
use Rattle.lines.specs.Machine.{kept_of, print_of, line_after, text_after}
use Rattle.lines.specs.Inner.{Takes}
use Rattle.lines.proofs.Keeping.{print_short}

line_snoc : (l : Line) (s : List ℕ) (b : ℕ) → line_after l (s ++ (b ∷ [])) ≡ kept_of (line_after l s) b
unfolding line_after
line_snoc l s b = after_append kept_of print_of l s (b ∷ [])

text_snoc : (l : Line) (s : List ℕ) (b : ℕ) → text_after l (s ++ (b ∷ [])) ≡ text_after l s ++ print_of (line_after l s) b
unfolding text_after line_after
text_snoc l s b = gives_append kept_of print_of l s (b ∷ []) ∙ ap (λ (q : List ℕ). text_after l s ++ q) (append-nil (print_of (line_after l s) b))

-- after i bytes of s
pub record Feeding (s old : List ℕ) (l : Line) (out : List ℕ) (f : Fed) (i : ℕ) : Type 0 where
  pub within : i ≤ length s
  pub room : f.n ≤ 10 * i
  pub long : length out ≡ length old
  pub number : number_in f.result ≡ 0
  pub line : f.line ≡ line_after l (take i s)
  pub count : f.n ≡ length (text_after l (take i s))
  pub holds : out ≡ over (text_after l (take i s)) old

pub feed_none : (s old : List ℕ) (l : Line) → Feeding s old l old (record { line = l; n = 0; result = Ok tt }) 0
unfolding line_after text_after over
feed_none s old l = record { within = omega arith; room = omega arith; long = refl; number = refl; line = refl; count = refl; holds = refl }

module _ (s old : List ℕ) (l : Line) (out : List ℕ) (f : Fed) (i : ℕ) (g : Feeding s old l out f i) where
  pub feed_next
      : (after : List ℕ) (r : Fed) → i < length s → length after ≡ length out → Takes f (get_or s i 0) out after r
      → Feeding s old l after r (i + 1)
  feed_next after r h same t =
      let b = get_or s i 0 in
      let snoc : take (i + 1) s ≡ take i s ++ (b ∷ []) = rw add-one (take-suc s i 0 h) in
      let text : text_after l (take (i + 1) s) ≡ text_after l (take i s) ++ print_of f.line b
      = ap (text_after l) snoc ∙ text_snoc l (take i s) b ∙ ap (λ (x : Line). text_after l (take i s) ++ print_of x b) (sym g.line) in
      record {
        within = omega arith;
        room = omega (arith, g.room, t.count, print_short f.line b);
        long = same ∙ g.long;
        number = t.number;
        line = t.line ∙ ap (λ (x : Line). kept_of x b) g.line ∙ sym (line_snoc l (take i s) b) ∙ ap (line_after l) (sym snoc);
        count =
            t.count ∙ ap (λ (k : ℕ). k + length (print_of f.line b)) g.count
            ∙ sym (ap length text ∙ length-append (text_after l (take i s)) (print_of f.line b));
        holds =
            t.holds
            ∙ ap₂ (λ (k : ℕ) (x : List ℕ). take k x ++ over (print_of f.line b) (drop k x)) g.count g.holds
            ∙ over_over (text_after l (take i s)) (print_of f.line b) old ∙ ap (λ (x : List ℕ). over x old) (sym text);
      }

  pub feed_all : (cs : List Check) → refusal_of cs ≡ 0 → length s ≤ i
      → Feeds cs l (line_after l s) (text_after l s) old out f.line f.n (number_in f.result)
  feed_all cs e h =
      let whole : take i s ≡ s = take_all i s h in
      fed cs l (line_after l s) (text_after l s) old e g.number (g.line ∙ ap (line_after l) whole)
      (puts_as (ap (text_after l) whole) (record { count = g.count; holds = g.holds }))
