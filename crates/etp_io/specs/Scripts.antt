-- What a form in memory does, whose failing calls are listed.
use Rattle.std.specs.Prelude.{◌≡◌, ◌↔◌, ℕ, IsErr, IfOk}
use Rattle.std.specs.declared.result.Result.{Result}

-- a call fails exactly in one case, and moves so many bytes in any other
pub record MovesUnless {E : Type 0} (fails : Type 0) (most : ℕ) (result : Result ℕ E) : Type 0 where
  pub failed : IsErr result ↔ fails
  pub moved : IfOk result (λ n. n ≡ most)
