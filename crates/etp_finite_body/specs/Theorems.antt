-- What ties lines, bodies about finite magmas and refusals together.
use Rattle.std.specs.Prelude.{◌≡◌, ℕ, Bool, List}
use Rattle.etp_io.specs.Texts.{LineText}
use Rattle.etp_finite_lines.specs.FiniteLines.{FiniteLine, Says}
use Rattle.etp_finite_body.specs.Reading.{FiniteRefuses}
use Rattle.etp_finite_body.specs.declared.refusal.FiniteBodyRefusal.{FiniteBodyRefusal}

pub record FiniteBodyTheorems : Type 0 where
  -- a line says one thing
  pub one_line : (line : List ℕ) (l m : FiniteLine) → Says line l → Says line m → l ≡ m
  -- and lines that are refused have one refusal
  pub one_refusal : (count : ℕ) (lines : List LineText) (closed : Bool) (r s : FiniteBodyRefusal)
      → FiniteRefuses count lines closed r → FiniteRefuses count lines closed s → r ≡ s
