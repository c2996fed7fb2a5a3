use Rattle.std.proofs.Common.{◌≡◌, ◌+◌, ◌-◌, ◌*◌, ◌^◌, ◌<◌, ◌≤◌, ℕ, suc, List, length, get_or, set, sym, ap, ◌∙◌, arith, length-set, get_or-set_other, get_or-set_same, subst, inl, inr}
use Rattle.std.proofs.Math.Nat.{pow-suc}
use Rattle.std.proofs.lemmas.Bool.{cases_eq}
use Rattle.etp_theory.specs.Tables.{place_of}
use Rattle.etp_table.specs.Digits.{AreDigits}
use Rattle.etp_table.proofs.Places.{place_of-set}
use Rattle.etp_table.proofs.compiled.advance.Goals as goal

risen : (n whole : ℕ) (xs : List ℕ) (at : ℕ) → 0 < at → at ≤ length xs → place_of n xs + n ^ (length xs - at) ≡ whole → place_of n (set xs (at - 1) (get_or xs (at - 1) 0 + 1)) ≡ whole
risen n whole xs at h k e =
    let d = get_or xs (at - 1) 0 in
    let written = place_of-set n xs (at - 1) (d + 1) (length xs - at) (omega arith) in
    omega (arith, written, e)

carry : (n whole : ℕ) (xs : List ℕ) (at : ℕ) → 0 < at → at ≤ length xs → get_or xs (at - 1) 0 + 1 ≡ n → place_of n xs + n ^ (length xs - at) ≡ whole → place_of n (set xs (at - 1) 0) + n ^ (length (set xs (at - 1) 0) - (at - 1)) ≡ whole
carry n whole xs at h k top e =
    let d = get_or xs (at - 1) 0 in
    let m = length xs - at in
    let written = place_of-set n xs (at - 1) 0 m (omega arith) in
    let long : length (set xs (at - 1) 0) - (at - 1) ≡ suc m = omega (arith, length-set xs (at - 1) 0) in
    let power : n ^ (length (set xs (at - 1) 0) - (at - 1)) ≡ n ^ m * n = ap (λ z. n ^ z) long ∙ pow-suc n m in
    let last : n ^ m * n ≡ n ^ m * (d + 1) = ap (λ z. n ^ m * z) (sym top) in
    omega (arith, written, power, last, e)

zeroed : (n : ℕ) (xs : List ℕ) (at : ℕ) → 0 < n → AreDigits n xs → AreDigits n (set xs at 0)
zeroed n xs at some digits i l =
    let inside : i < length xs = omega (arith, length-set xs at 0) in
    elim (cases_eq i at) [
      | inl e ↦ subst (λ z. z < n) (sym (ap (λ j. get_or (set xs at 0) j 0) e ∙ get_or-set_same xs at 0 0 (omega arith))) some
      | inr e ↦ subst (λ z. z < n) (sym (get_or-set_other xs at i 0 0 e)) (digits i inside)
    ]

pub returns-then-digits-at-clause-next : goal.returns-then-digits-at-clause-next
returns-then-digits-at-clause-next c =
    risen c.args.size (place_of c.args.size c.args.digits.now + 1) c.loop-at.digits c.loop-at.at (omega arith) (omega arith) c.loop-at.invariant.carried

pub loop-at-preserved : goal.loop-at-preserved
loop-at-preserved c =
    let digit = c.loop-at.invariant.digits (c.loop-at.at - 1) (omega arith) in
    record {
      digits = zeroed c.args.size c.loop-at.digits (c.loop-at.at - 1) (omega arith) c.loop-at.invariant.digits;
      carried = carry c.args.size (place_of c.args.size c.args.digits.now + 1) c.loop-at.digits c.loop-at.at (omega arith) (omega arith) (omega arith) c.loop-at.invariant.carried;
    }
