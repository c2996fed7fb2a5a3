-- Four words ask nothing, and more than six neither.
use Rattle.std.proofs.Common.{◌≡◌, ℕ, ◌<◌, List, [], ◌∷◌, length, refl, arith}
use Rattle.etp_arguments.specs.Arguments.{task_of}
use Rattle.etp_arguments.specs.declared.task.Task.TheVariants.{Unknown}

pub many_words : (words : List (List ℕ)) → 6 < length words → Unknown ≡ task_of words
many_words [] h = absurd (omega arith)
many_words (a ∷ []) h = absurd (omega arith)
many_words (a ∷ b ∷ []) h = absurd (omega arith)
many_words (a ∷ b ∷ c ∷ []) h = absurd (omega arith)
many_words (a ∷ b ∷ c ∷ d ∷ []) h = absurd (omega arith)
many_words (a ∷ b ∷ c ∷ d ∷ e ∷ []) h = absurd (omega arith)
many_words (a ∷ b ∷ c ∷ d ∷ e ∷ f ∷ []) h = absurd (omega arith)
many_words (a ∷ b ∷ c ∷ d ∷ e ∷ f ∷ g ∷ words) h = refl

pub four_words : (words : List (List ℕ)) → length words ≡ 4 → Unknown ≡ task_of words
four_words [] h = absurd (omega (arith, h))
four_words (a ∷ []) h = absurd (omega (arith, h))
four_words (a ∷ b ∷ []) h = absurd (omega (arith, h))
four_words (a ∷ b ∷ c ∷ []) h = absurd (omega (arith, h))
four_words (a ∷ b ∷ c ∷ d ∷ []) h = refl
four_words (a ∷ b ∷ c ∷ d ∷ e ∷ words) h = absurd (omega (arith, h))
