-- Bytes that a reader took, and the lines that it gave.
use Rattle.std.proofs.Common.{◌≡◌, ℕ, ◌+◌, ◌-◌, ◌≤◌, List, [], ◌∷◌, ◌++◌, Option, None, Some, Bool, true, false, refl, sym, ◌∙◌, arith}
use Rattle.std.specs.Prelude.{Ok, Err, Result}
use Rattle.std.specs.Io.KnownBytes.{IsAtEnd, prepend_known}
use Rattle.etp_io.specs.declared.lines.InFault.{InFault}
use Rattle.etp_io.specs.declared.lines.Next.{Next}
use Rattle.etp_io.specs.declared.lines.Next.TheVariants.{Line, Long, End}
use Rattle.etp_io.specs.Stream.{Loses}
use Rattle.etp_io.specs.Counts.{RisesBy}
use Rattle.etp_io.specs.Answers.{says}
use Rattle.etp_io.proofs.CallLemmas.{Loses-then}
use Rattle.etp_serving.specs.Endings.{line_text}
use Rattle.etp_serving.specs.Ends.{Takes}

-- no line comes after the end
pub no_part : (part now : List ℕ) → [] ≡ part ++ now → part ≡ []
no_part [] now e = refl
no_part (b ∷ part) now e = absurd (cc)

-- a count that rose twice
rises-more : (g0 g g' n n' : ℕ) → RisesBy g0 g n → RisesBy g g' (n' - n) → n ≤ n' → RisesBy g0 g' n'
rises-more g0 g g' n n' h r le = record {
  later = omega (arith, h.later, r.later);
  risen = omega (arith, h.risen, r.risen);
  no_further = omega (arith, h.no_further, r.no_further, le);
  stands = λ b. r.stands (h.stands b);
}

-- a count that stood
pub rises-by_none : (g : ℕ) → RisesBy g g 0
rises-by_none g = record { later = omega arith; risen = omega arith; no_further = omega arith; stands = λ b. b }

pub takes-more : (told left left' : Option (List ℕ)) (g0 g g' n n' : ℕ) → Takes told left g0 g n → Loses left left' (n' - n) → RisesBy g g' (n' - n) → n ≤ n'
    → Takes told left' g0 g' n'
takes-more told left left' g0 g g' n n' h l r le =
    let e : n + (n' - n) ≡ n' = omega arith in
    record { loses = rw e at (Loses-then told left left' n (n' - n) h.loses l); counted = rises-more g0 g g' n n' h.counted r le }

pub says-line : (next : Next) (line : List ℕ) → (next ≡ End → ⊥) → says next line ≡ line_text next line ∷ []
says-line Line line n = refl
says-line Long line n = refl
says-line End line n = absurd (n refl)

pub at-end : (left : Option (List ℕ)) → IsAtEnd left → IsAtEnd (prepend_known [] left)
at-end None a = tt
at-end (Some xs) a = a

-- a call that fails made a read, so the source had not ended
pub goes-on : (result : Result Next InFault) (fault : InFault) (ended : Bool) → result ≡ Err fault → (ended ≡ true → result ≡ Ok End) → ended ≡ false
goes-on result fault true e h = let both : Err fault ≡ Ok End = sym e ∙ h refl in absurd (cc)
goes-on result fault false e h = refl
