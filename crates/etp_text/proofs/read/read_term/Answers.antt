use Rattle.std.proofs.Common.{subst, sym, refl, ap, arith}
use Rattle.std.proofs.lemmas.Result.{err_from_is_err_and}
use Rattle.etp_theory.specs.Trees.{leaves}
use Rattle.etp_term.specs.Terms.{tree_of}
use Rattle.etp_text.specs.Refusals.{RefusesTerm}
use Rattle.etp_text.specs.Machine.{state_of}
use Rattle.etp_text.proofs.Answering.{term_refused, term_refused_only, term_ended, term_spelled, term_leaves, same_term}
use Rattle.etp_text.proofs.read.read_term.Goals as goal

-- a refusal while the tokens are read
pub returns-in_err-reading-clause-only : goal.returns-in_err-reading-clause-only
returns-in_err-reading-clause-only c t s few =
    let p = err_from_is_err_and c.from_residual.result c.from_residual.ensures.1 in
    let bytes = c.args.bytes.now in
    rw (p.1, p.2) (term_refused_only bytes c.in_err-reading.field-0.0 (term_refused bytes c.in_err-reading.field-0.0 c.in_err-reading.ensures) t s few)

-- the text ends too early
pub returns-in_err-term-clause-refused : goal.returns-in_err-term-clause-refused
returns-in_err-term-clause-refused c =
    let p = err_from_is_err_and c.from_residual-in_err-term.result c.from_residual-in_err-term.ensures.1 in
    let bytes = c.args.bytes.now in
    rw (p.1, p.2) (subst (RefusesTerm bytes) (sym c.in_err-term.ensures.0) (term_ended bytes (state_of c.in_ok-reading.reading) c.in_ok-reading.end c.in_ok-reading.ensures c.in_err-term.ensures.1))

pub returns-in_err-term-clause-only : goal.returns-in_err-term-clause-only
returns-in_err-term-clause-only c t s few =
    let p = err_from_is_err_and c.from_residual-in_err-term.result c.from_residual-in_err-term.ensures.1 in
    let bytes = c.args.bytes.now in
    rw (p.1, p.2) (term_refused_only bytes c.in_err-term.field-0.0 (subst (RefusesTerm bytes) (sym c.in_err-term.ensures.0) (term_ended bytes (state_of c.in_ok-reading.reading) c.in_ok-reading.end c.in_ok-reading.ensures c.in_err-term.ensures.1)) t s few)

-- the term that stands whole
pub check_leaves-requires : goal.check_leaves-requires
check_leaves-requires c =
    let s = term_spelled c.args.bytes.now (state_of c.in_ok-reading.reading) c.in_ok-reading.end (tree_of c.in_ok-term.term) c.in_ok-reading.ensures c.in_ok-term.ensures in
    omega (arith, term_leaves c.args.bytes.now (tree_of c.in_ok-term.term) s, c.requires)

pub returns-in_err-check_leaves-clause-refused : goal.returns-in_err-check_leaves-clause-refused
returns-in_err-check_leaves-clause-refused c =
    let p = err_from_is_err_and c.from_residual-in_err-check_leaves.result c.from_residual-in_err-check_leaves.ensures.1 in
    let s = term_spelled c.args.bytes.now (state_of c.in_ok-reading.reading) c.in_ok-reading.end (tree_of c.in_ok-term.term) c.in_ok-reading.ensures c.in_ok-term.ensures in
    rw (p.1, p.2) (subst (RefusesTerm c.args.bytes.now) (sym c.in_err-check_leaves.ensures.0) (tree_of c.in_ok-term.term, s, c.in_err-check_leaves.ensures.1, refl))

pub returns-in_err-check_leaves-clause-only : goal.returns-in_err-check_leaves-clause-only
returns-in_err-check_leaves-clause-only c t s few =
    let k = term_spelled c.args.bytes.now (state_of c.in_ok-reading.reading) c.in_ok-reading.end (tree_of c.in_ok-term.term) c.in_ok-reading.ensures c.in_ok-term.ensures in
    absurd (omega (arith, c.in_err-check_leaves.ensures.1, ap leaves (same_term c.args.bytes.now t (tree_of c.in_ok-term.term) s k)))

pub returns-clause-spelled : goal.returns-clause-spelled
returns-clause-spelled c = term_spelled c.args.bytes.now (state_of c.in_ok-reading.reading) c.in_ok-reading.end (tree_of c.in_ok-term.term) c.in_ok-reading.ensures c.in_ok-term.ensures

pub returns-clause-only : goal.returns-clause-only
returns-clause-only c t s few =
    same_term c.args.bytes.now (tree_of c.in_ok-term.term) t (term_spelled c.args.bytes.now (state_of c.in_ok-reading.reading) c.in_ok-reading.end (tree_of c.in_ok-term.term) c.in_ok-reading.ensures c.in_ok-term.ensures) s
