-- What `number` answers.
use Rattle.std.specs.Prelude.{◌≡◌, ◌<◌, ◌≤◌, ◌+◌, min}
use Rattle.etp_theory.specs.Trees.{Equation, ops, law_ops}
use Rattle.etp_laws.specs.LawLists.{LawList, IsNumberOf, HasNumber, IsTrivial}
use Rattle.etp_laws.specs.declared.laws.Numbered.{Numbered}
use Rattle.etp_laws.specs.declared.laws.Numbered.TheVariants.{Is, Trivial, TooManyOps}

-- the number; else equal sides that aren't a lone variable; else more operations than the order,
-- those of each side counted up to 65536
abbrev pub IsNumberAnswer : LawList → Equation → Numbered → Type 0
IsNumberAnswer l p (Is n) = (law_ops p ≤ l.order) × HasNumber p × IsNumberOf l.equations p n
IsNumberAnswer l p Trivial = (law_ops p ≤ l.order) × IsTrivial p
IsNumberAnswer l p (TooManyOps n) = (l.order < law_ops p) × (n ≡ min (ops p.left) 65536 + min (ops p.right) 65536)
