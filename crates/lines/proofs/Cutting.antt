-- Wherever the input is cut into parts, what is printed is what the rule says of the whole input. Assumes nothing.
use Prim.Native.Nat.{ℕ, ◌≤◌, ◌<◌}
use native.Mathlib.Omega.{arith}
use native.Mathlib.Numerals.{add-one}
use native.Mathlib.Decide.{dec_lt}
use mathlib.Core.Path.{◌≡◌, refl, ap, ap₂, sym, ◌∙◌, subst}
use mathlib.Core.Bool.{Bool, true, false, cond}
use mathlib.Core.List.{List, [], ◌∷◌, ◌++◌, append_assoc}
use lib.ListN.{length, take, length-append, length-set}
use lib.Seq.{take-suc-set, take_all}
use lib.Dec.{eqb}
use borrow.Author.Tests.{eqb-true, eqb-false, ne_eqb}
use Rattle.wire.specs.Stream.{joined}
use Rattle.wire.proofs.Cutting.{cut}
use Rattle.lines.specs.declared.Line.{Line}
use Rattle.lines.specs.Rule.{text_of, line_text, last_of, printed}
use Rattle.lines.specs.Machine.{line, fresh_line, kept_of, print_of, line_after, text_after, CutAnywhere}
use Rattle.lines.proofs.Answering.{not_13}
use Rattle.lines.proofs.Keeping.{ended, stored, counted, answered, silent}

-- ---- the bounded state stands for a line of any length

-- the state holds the bytes p of a line: all of them, or that they are more than 13
data Holds (l : Line) (p : List ℕ) : Type 0 where
  all : length l.text ≡ 13 → l.n ≡ length p → length p ≤ 13 → take l.n l.text ≡ p → Holds l p
  more : 13 < l.n → 13 < length p → Holds l p

holds_fresh : Holds fresh_line []
unfolding fresh_line
holds_fresh = all refl refl (omega arith) refl

-- no byte but the 13 of a line of 13 is read
holds_text : {l : Line} {p : List ℕ} → Holds l p → line_text l.n l.text ≡ line_text (length p) p
holds_text {l} {p} (all t n s e) = go (eqb l.n 13) refl
  where
    go : (u : Bool) → eqb l.n 13 ≡ u → line_text l.n l.text ≡ line_text (length p) p
    go true h =
        let g : l.n ≡ 13 = eqb-true l.n 13 h in
        ap₂ (λ (k : ℕ) (x : List ℕ). line_text k x) n (sym (take_all l.n l.text (omega arith)) ∙ e)
    go false h =
        let g : l.n ≡ 13 → ⊥ = eqb-false l.n 13 h in
        ap text_of (sym (not_13 l.n l.text g) ∙ not_13 (length p) p (λ q. g (n ∙ q)))
holds_text {l} {p} (more n s) = ap text_of (sym (not_13 l.n l.text (λ g. omega arith)) ∙ not_13 (length p) p (λ g. omega arith))

holds_none : {l : Line} {p : List ℕ} → Holds l p → eqb l.n 0 ≡ eqb (length p) 0
holds_none {l} {p} (all t n s e) = ap (λ (k : ℕ). eqb k 0) n
holds_none {l} {p} (more n s) = ne_eqb l.n 0 (λ g. omega arith) ∙ sym (ne_eqb (length p) 0 (λ g. omega arith))

holds_last : {l : Line} {p : List ℕ} → Holds l p → last_of l.n l.text ≡ last_of (length p) p
unfolding last_of
holds_last h = ap₂ (λ (t : Bool) (x : List ℕ). cond t [] x) (holds_none h) (holds_text h)

holds_next : {l : Line} {p : List ℕ} (b : ℕ) → (b ≡ 10 → ⊥) → Holds l p → Holds (kept_of l b) (p ++ (b ∷ []))
holds_next {l} {p} b g (all t n s e) = go (dec_lt l.n 13)
  where
    go : Dec (l.n < 13) → Holds (kept_of l b) (p ++ (b ∷ []))
    go (yes h) =
        subst (λ (r : Line). Holds r (p ++ (b ∷ []))) (stored l b g h)
        (all (length-set l.text l.n b ∙ t) (simp length-append (omega arith)) (simp length-append (omega arith))
        (rw add-one (take-suc-set l.text l.n b (omega arith) ∙ ap (λ (q : List ℕ). q ++ (b ∷ [])) e)))
    go (no h) = subst (λ (r : Line). Holds r (p ++ (b ∷ []))) (counted l b g (omega arith)) (more (omega arith) (simp length-append (omega arith)))
holds_next {l} {p} b g (more n s) =
    subst (λ (r : Line). Holds r (p ++ (b ∷ []))) (counted l b g (omega arith)) (more (omega arith) (simp length-append (omega arith)))

-- ---- all that is printed of some bytes and the end of the input

total : Line → List ℕ → List ℕ
total l bs = text_after l bs ++ last_of (line_after l bs).n (line_after l bs).text

total_next : (l : Line) (b : ℕ) (bs : List ℕ) → total l (b ∷ bs) ≡ print_of l b ++ total (kept_of l b) bs
unfolding total text_after line_after
total_next l b bs = append_assoc (print_of l b) (text_after (kept_of l b) bs) (last_of (line_after (kept_of l b) bs).n (line_after (kept_of l b) bs).text)

total_printed : (bs : List ℕ) (l : Line) (p : List ℕ) → Holds l p → total l bs ≡ printed p bs
unfolding total text_after line_after printed
total_printed [] l p h = holds_last h
total_printed (b ∷ bs) l p h =
    total_next l b bs
    ∙ go (eqb b 10) refl (total_printed bs fresh_line [] holds_fresh)
    (λ g. total_printed bs (kept_of l b) (p ++ (b ∷ [])) (holds_next b g h))
  where
    go : (t : Bool) → eqb b 10 ≡ t → total fresh_line bs ≡ printed [] bs → ((b ≡ 10 → ⊥) → total (kept_of l b) bs ≡ printed (p ++ (b ∷ [])) bs)
        → print_of l b ++ total (kept_of l b) bs ≡ cond t (line_text (length p) p ++ printed [] bs) (printed (p ++ (b ∷ [])) bs)
    go true e line on =
        let g : b ≡ 10 = eqb-true b 10 e in
        ap₂ (λ (x : List ℕ) (m : Line). x ++ total m bs) (sym (answered l b g) ∙ holds_text h) (sym (ended l b g))
        ∙ ap (λ (x : List ℕ). line_text (length p) p ++ x) line
    go false e line on =
        let g : b ≡ 10 → ⊥ = eqb-false b 10 e in
        ap (λ (x : List ℕ). x ++ total (kept_of l b) bs) (sym (silent l b g)) ∙ on g

pub cut_anywhere : CutAnywhere
unfolding total text_after line_after
cut_anywhere parts =
    cut kept_of print_of (λ (l : Line). last_of l.n l.text) fresh_line parts ∙ total_printed (joined parts) fresh_line [] holds_fresh
