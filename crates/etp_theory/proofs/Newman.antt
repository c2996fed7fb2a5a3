use Rattle.std.proofs.Common.{ℕ, zero, suc, ◌<◌, List, arith}
use Rattle.etp_theory.specs.Trees.{Tree, Equation}
use Rattle.etp_theory.specs.Rewriting.{Steps, stop, more, Joinable, IsLocallyConfluent, Convertible, here, forth, back}
use Rattle.etp_theory.specs.Weights.{Weight, weigh, AllDecrease}
use Rattle.etp_theory.proofs.Rewriting.{then, one}
use Rattle.etp_theory.proofs.Weights.{step_falls}

abbrev pub size : Weight → Tree → ℕ
size w t = weigh w (λ v. 0) t

module _ (w : Weight) (rules : List Equation) (all : AllDecrease w rules) (local : IsLocallyConfluent rules) where
  confluent_below : (n : ℕ) {s a b : Tree} → size w s < n → Steps rules s a → Steps rules s b → Joinable rules a b
  confluent_below zero h x y = absurd (omega arith)
  confluent_below (suc n) {s} {a} {b} h (stop t) y = record { meet = b; from_left = y; from_right = stop b }
  confluent_below (suc n) {s} {a} {b} h (more x d) (stop t) = record { meet = a; from_left = stop a; from_right = more x d }
  confluent_below (suc n) {s} {a} {b} h (more {t = a'} x d) (more {t = b'} y d') =
      let j = local s a' b' x y in
      let below : size w a' < n = omega (arith, step_falls w rules all (λ v. 0) x) in
      let below' : size w b' < n = omega (arith, step_falls w rules all (λ v. 0) y) in
      let k = confluent_below n below d j.from_left in
      let l = confluent_below n below' (then rules j.from_right k.from_right) d' in
      record { meet = l.meet; from_left = then rules k.from_left l.from_left; from_right = l.from_right }

  pub confluent : {s a b : Tree} → Steps rules s a → Steps rules s b → Joinable rules a b
  confluent {s} x y = confluent_below (suc (size w s)) (omega arith) x y

  pub convertible_join : {s t : Tree} → Convertible rules s t → Joinable rules s t
  convertible_join (here t) = record { meet = t; from_left = stop t; from_right = stop t }
  convertible_join (forth d c) = let j = convertible_join c in record { meet = j.meet; from_left = more d j.from_left; from_right = j.from_right }
  convertible_join (back d c) =
      let j = convertible_join c in
      let k = confluent (one rules d) j.from_left in
      record { meet = k.meet; from_left = k.from_left; from_right = then rules j.from_right k.from_right }
