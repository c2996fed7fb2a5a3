-- How much of a text was written for words that read nothing.
use Rattle.std.specs.Prelude.{◌≡◌, ℕ, List, [], ◌⊎◌}
use Rattle.std.specs.declared.option.Option.{Option}
use Rattle.std.specs.Io.KnownBytes.{Appends}
use Rattle.etp_io.specs.Stream.{AppendsPrefix}

-- with the status 0 the whole text was written, with 4 and 5 a prefix; no other status comes
pub record WritesText (text : List ℕ) (took_before took_after : Option (List ℕ)) (status : ℕ) : Type 0 where
  pub whole : status ≡ 0 → Appends took_before took_after text
  pub cut : (status ≡ 4) ⊎ (status ≡ 5) → AppendsPrefix took_before took_after text
  pub statuses : (status ≡ 0) ⊎ ((status ≡ 4) ⊎ (status ≡ 5))

-- a text of which `Is` holds, whole or a prefix of it
pub record WritesOne (Is : List ℕ → Type 0) (Written : List ℕ → Type 0) : Type 0 where
  pub text : List ℕ
  pub is : Is text
  pub written : Written text

-- with the status 0 a text of which `Is` holds was written, with 4 a prefix of one, with 5 nothing; no
-- other status comes
pub record WritesSome (Is : List ℕ → Type 0) (took_before took_after : Option (List ℕ)) (status : ℕ) : Type 0 where
  pub whole : status ≡ 0 → WritesOne Is (Appends took_before took_after)
  pub cut : status ≡ 4 → WritesOne Is (AppendsPrefix took_before took_after)
  pub nothing : status ≡ 5 → Appends took_before took_after []
  pub statuses : (status ≡ 0) ⊎ ((status ≡ 4) ⊎ (status ≡ 5))
