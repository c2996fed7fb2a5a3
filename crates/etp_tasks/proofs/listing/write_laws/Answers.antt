use Rattle.std.proofs.Common.{arith, ◌≡◌, ◌∙◌, sym, ap, None, Some, refl}
use Rattle.std.specs.Option.{option_map, option_copied, IsSome}
use Rattle.etp_term.specs.Laws.{equation_of}
use Rattle.etp_tasks.proofs.ListingLemmas.{listed-next, listing-ends, listing-cut, listing-cut_last, some-law}
use Rattle.etp_tasks.proofs.WritingLemmas.{writes-no_memory, writes-no_write}
use Rattle.etp_tasks.proofs.listing.write_laws.Goals as goal

pub unwrap-law-requires : goal.unwrap-law-requires
unwrap-law-requires g c =
    let law = some-law c.args.laws.now.equations c.listed.n (omega (arith, c.listed-test.true, c.count-n-end.ensures.len)) in
    let e : option_map equation_of (option_copied c.law.result) ≡ Some law.0 = c.law.ensures.entry ∙ law.1 in
    (elim c.law.result as (λ o. option_map equation_of (option_copied o) ≡ Some law.0 → IsSome o) [ None ↦ λ h. absurd (cc) | Some x ↦ λ h. refl ]) e

pub returns-in-Err-clause-laws : goal.returns-in-Err-clause-laws
returns-in-Err-clause-laws g c = writes-no_memory _ _ _ (listing-ends _ _ _ _ _ c.listed.invariant.0)

pub returns-in-Err-write_piece-clause-laws : goal.returns-in-Err-write_piece-clause-laws
returns-in-Err-write_piece-clause-laws g c =
    writes-no_write _ _ _
    (listing-cut _ _ _ _ _ _ c.listed.n (equation_of c.unwrap-law.result.now) c.listed.invariant.0
    (sym c.law.ensures.entry ∙ ap (λ o. option_map equation_of (option_copied o)) c.unwrap-law.ensures) c.in-Ok.ensures c.in-Err-write_piece.ensures.err)

pub listed-preserved : goal.listed-preserved
listed-preserved g c = (
  listed-next _ _ _ _ _ _ _ c.listed.n (equation_of c.unwrap-law.result.now) c.listed.invariant.0
      (sym c.law.ensures.entry ∙ ap (λ o. option_map equation_of (option_copied o)) c.unwrap-law.ensures) c.in-Ok.ensures c.in-Ok-write_piece.ensures.ok,
  omega (arith, c.listed.invariant.1, c.write_piece.ensures.cause.later),
)

pub returns-clause-laws : goal.returns-clause-laws
returns-clause-laws g c = writes-no_write _ _ _ (listing-cut_last _ _ _ _ c.listed.text c.listed.n c.listed.invariant.0 (rw c.as_slice.ensures at c.in-Err-write_all.ensures.err))
