-- Wrong answers that the promises refuse, each by evaluation. Assumes nothing.
use Prim.Native.Nat.{ℕ}
use native.Mathlib.Omega.{arith}
use mathlib.Core.Path.{◌≡◌, ap}
use mathlib.Core.List.{List, [], ◌∷◌}
use lib.ListN.{replicate, get_or}
use Rattle.answer.specs.Refusals.{refusal_of}
use Rattle.std.specs.declared.result.Result.{Result}
use Rattle.std.specs.declared.result.Result.TheVariants.{Ok, Err}
use Rattle.answer.specs.declared.refusal.Refusal.{Refusal}
use Rattle.answer.specs.declared.refusal.Refusal.TheVariants.{Length}
use Rattle.text.specs.Text.{space, newline, decimal_of, named_of, refused_of}
use Rattle.text.specs.Putting.{over}
use Rattle.lines.specs.declared.Line.{Line}
use Rattle.lines.specs.declared.Fed.{Fed}
use Rattle.lines.specs.Rule.{answer_of, text_of, last_of}
use Rattle.lines.specs.Machine.{line, fresh_line, kept_of, print_of, line_after, text_after}
use Rattle.lines.specs.Feeding.{PartFed, LastFed}

abbrev blank : List ℕ
blank = replicate 10 0

abbrev fed : Line → ℕ → Result (Unit {0}) Refusal → Fed
fed l n r = record { line = l; n = n; result = r }

-- a byte that never came; bytes that are not zero
pub of_fresh : (line 1 (replicate 13 0) ≡ fresh_line → ⊥) × (line 0 (replicate 13 43) ≡ fresh_line → ⊥)
unfolding fresh_line
of_fresh = (
  λ h. let z : ◌≡◌ {A = ℕ} 1 0 = ap (λ (l : Line). l.n) h in omega arith,
  λ h. let z : ◌≡◌ {A = ℕ} 43 0 = ap (λ (l : Line). get_or l.text 0 0) h in omega arith,
)

-- of `+`: refused where there is room, the line untouched; of a newline: nothing printed; of the 13th byte: one too many
pub of_feed
    : (PartFed fresh_line (43 ∷ []) blank blank (fed fresh_line 0 (Err Length)) → ⊥)
    × (PartFed fresh_line (43 ∷ []) blank blank (fed fresh_line 0 (Ok tt)) → ⊥)
    × (PartFed fresh_line (newline ∷ []) blank blank (fed fresh_line 0 (Ok tt)) → ⊥)
    × (PartFed (line 12 (replicate 13 43)) (43 ∷ []) blank blank (fed (line 14 (replicate 13 43)) 0 (Ok tt)) → ⊥)
unfolding refusal_of refused_of named_of decimal_of answer_of text_of fresh_line kept_of print_of line_after text_after
of_feed = (
  λ h. let e = h.number in omega arith,
  λ h. let z : ◌≡◌ {A = ℕ} 0 1 = ap (λ (l : Line). l.n) h.state in omega arith,
  λ h. let e = h.count in omega arith,
  λ h. let z : ◌≡◌ {A = ℕ} 14 13 = ap (λ (l : Line). l.n) h.state in omega arith,
)

-- two names and a space, all `+X+Y+Z`
abbrev names : List ℕ
names = 43 ∷ 88 ∷ 43 ∷ 89 ∷ 43 ∷ 90 ∷ space ∷ 43 ∷ 88 ∷ 43 ∷ 89 ∷ 43 ∷ 90 ∷ []

-- of an empty line: an answer; of a line of one byte: none, the line kept for another time, and `refused 4`; of one of 12: a name
pub of_last
    : ((after : List ℕ) → LastFed fresh_line blank after (fed fresh_line 10 (Ok tt)) → ⊥)
    × ((after : List ℕ) → LastFed (line 1 names) blank after (fed fresh_line 0 (Ok tt)) → ⊥)
    × ((after : List ℕ) → LastFed (line 1 names) blank after (fed (line 1 names) 10 (Ok tt)) → ⊥)
    × (LastFed (line 1 names) blank (refused_of 4) (fed fresh_line 10 (Ok tt)) → ⊥)
    × ((after : List ℕ) → LastFed (line 12 names) blank after (fed fresh_line 7 (Ok tt)) → ⊥)
unfolding refusal_of refused_of named_of decimal_of over answer_of text_of last_of fresh_line
of_last = (
  λ after h. let e = h.count in omega arith,
  λ after h. let e = h.count in omega arith,
  λ after h. let z : ◌≡◌ {A = ℕ} 1 0 = ap (λ (l : Line). l.n) h.state in omega arith,
  λ h. let z : ◌≡◌ {A = ℕ} 52 49 = ap (λ (s : List ℕ). get_or s 8 0) h.holds in omega arith,
  λ after h. let e = h.count in omega arith,
)
