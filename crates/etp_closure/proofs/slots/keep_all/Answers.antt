use Rattle.std.proofs.Common.{◌≡◌, ◌<◌, ◌⊎◌, ℕ, List, inl, inr, get_or, subst, sym, refl, arith}
use Rattle.std.proofs.lemmas.List.{get_or_default}
use Rattle.std.proofs.lemmas.Bool.{cases_eq}
use Rattle.etp_theory.specs.LawNumbers.{dual_number}
use Rattle.etp_closure.specs.Closures.{IsKept}
use Rattle.etp_closure.specs.Tables.{IsNamed, listed, dual_listed}
use Rattle.etp_closure.proofs.SlotLemmas.{kept_on, extends_then, item_among}
use Rattle.etp_closure.proofs.slots.keep_all.Goals as goal

-- a law that is kept after one law more
step : (before now after duals list : List ℕ) (law : ℕ) → ((other : ℕ) → IsKept now other → IsKept before other ⊎ IsNamed duals list other)
    → ((other : ℕ) → IsKept after other → IsKept now other ⊎ (other ≡ law)) → IsNamed duals list law
    → (other : ℕ) → IsKept after other → IsKept before other ⊎ IsNamed duals list other
step before now after duals list law only one named other kept =
    elim (one other kept) [ inl old ↦ only other old | inr same ↦ inr (subst (IsNamed duals list) (sym same) named) ]

pub returns-in_err-keep-clause-only : goal.returns-in_err-keep-clause-only
returns-in_err-keep-clause-only c =
    step c.args.slots.now c.loop-law.slots c.keep.new.slots c.args.duals.now c.args.list.now (get_or c.args.list.now c.loop-law.law-index 0) c.loop-law.invariant.only c.keep.ensures.only (listed (item_among c.args.list.now c.loop-law.law-index c.loop-law-test.true))

pub returns-in_err-keep-2-clause-only : goal.returns-in_err-keep-2-clause-only
returns-in_err-keep-2-clause-only c =
    let among = item_among c.args.list.now c.loop-law.law-index c.loop-law-test.true in
    step c.args.slots.now c.keep.new.slots c.keep-in-loop-law.new.slots c.args.duals.now c.args.list.now (dual_number c.args.duals.now (get_or c.args.list.now c.loop-law.law-index 0)) (step c.args.slots.now c.loop-law.slots c.keep.new.slots c.args.duals.now c.args.list.now (get_or c.args.list.now c.loop-law.law-index 0) c.loop-law.invariant.only c.keep.ensures.only (listed among)) c.keep-in-loop-law.ensures.only (dual_listed _ among refl)

pub loop-law-preserved : goal.loop-law-preserved
loop-law-preserved c =
    let i = c.loop-law.law-index in
    let list = c.args.list.now in
    let among = item_among list i c.loop-law-test.true in
    let first = c.in_ok-keep.ensures in
    let second = c.in_ok-keep-2.ensures in
    let both = extends_then first.extends second.extends in
    record {
      paired = second.paired;
      few = second.few;
      extends = extends_then c.loop-law.invariant.extends both;
      kept = λ k below.
          elim (cases_eq k i) [
            | inl same ↦ subst (λ n. IsKept c.keep-in-loop-law.new.slots (get_or list n 0)) (sym same) (kept_on second.extends _ first.kept)
            | inr differs ↦ kept_on both _ (c.loop-law.invariant.kept k (omega (arith, below, differs)))
          ];
      dual_kept = λ k below.
          elim (cases_eq k i) [
            | inl same ↦ subst (λ n. IsKept c.keep-in-loop-law.new.slots (dual_number c.args.duals.now (get_or list n 0))) (sym same) second.kept
            | inr differs ↦ kept_on both _ (c.loop-law.invariant.dual_kept k (omega (arith, below, differs)))
          ];
      only = step c.args.slots.now c.keep.new.slots c.keep-in-loop-law.new.slots c.args.duals.now c.args.list.now (dual_number c.args.duals.now (get_or c.args.list.now c.loop-law.law-index 0)) (step c.args.slots.now c.loop-law.slots c.keep.new.slots c.args.duals.now c.args.list.now (get_or c.args.list.now c.loop-law.law-index 0) c.loop-law.invariant.only first.only (listed among)) second.only (dual_listed _ among refl);
    }

pub returns-clause-kept : goal.returns-clause-kept
returns-clause-kept c = λ k d inside.
    let list = c.args.list.now in
    let inv = c.loop-law.invariant in
    let same = get_or_default list k 0 d inside in
    let below : k < c.loop-law.law-index = omega (arith, c.loop-law-test.false) in
    (subst (IsKept c.loop-law.slots) same (inv.kept k below), subst (λ n. IsKept c.loop-law.slots (dual_number c.args.duals.now n)) same (inv.dual_kept k below))
