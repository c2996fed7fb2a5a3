use Rattle.std.proofs.Common.{inl, inr, subst, sym, refl, ap, option_map, arith}
use Rattle.std.proofs.lemmas.Result.{err_from_is_err_and}
use Rattle.etp_theory.specs.Trees.{Equation, leaves}
use Rattle.etp_term.specs.Terms.{tree_of}
use Rattle.etp_text.specs.Refusals.{RefusesLaw}
use Rattle.etp_text.specs.Machine.{state_of}
use Rattle.etp_text.proofs.Answering.{law_refused, law_refused_only, law_ended, law_spelled, law_leaves, same_law}
use Rattle.etp_text.proofs.read.read_law.Goals as goal

-- a refusal while the tokens are read
pub returns-in_err-reading-clause-only : goal.returns-in_err-reading-clause-only
returns-in_err-reading-clause-only c law s l r =
    let p = err_from_is_err_and c.from_residual.result c.from_residual.ensures.1 in
    rw (p.1, p.2) (law_refused_only c.args.bytes.now c.in_err-reading.field-0.0 (law_refused c.args.bytes.now c.in_err-reading.field-0.0 c.in_err-reading.ensures) law s l r)

-- the text ends too early
pub returns-in_default-clause-refused : goal.returns-in_default-clause-refused
returns-in_default-clause-refused c =
    law_ended c.args.bytes.now (state_of c.in_ok-reading.reading) c.in_ok-reading.end c.in_ok-reading.ensures (inl (ap (option_map tree_of) (sym c.in_default.ensures.value)))

pub returns-in_default-clause-only : goal.returns-in_default-clause-only
returns-in_default-clause-only c law s l r =
    law_refused_only c.args.bytes.now _ (law_ended c.args.bytes.now (state_of c.in_ok-reading.reading) c.in_ok-reading.end c.in_ok-reading.ensures (inl (ap (option_map tree_of) (sym c.in_default.ensures.value)))) law s l r

pub returns-in_err-right-clause-refused : goal.returns-in_err-right-clause-refused
returns-in_err-right-clause-refused c =
    let p = err_from_is_err_and c.from_residual-in_err-right.result c.from_residual-in_err-right.ensures.1 in
    rw (p.1, p.2) (subst (RefusesLaw c.args.bytes.now) (sym c.in_err-right.ensures.0) (law_ended c.args.bytes.now (state_of c.in_ok-reading.reading) c.in_ok-reading.end c.in_ok-reading.ensures (inr c.in_err-right.ensures.1)))

pub returns-in_err-right-clause-only : goal.returns-in_err-right-clause-only
returns-in_err-right-clause-only c law s l r =
    let p = err_from_is_err_and c.from_residual-in_err-right.result c.from_residual-in_err-right.ensures.1 in
    rw (p.1, p.2) (law_refused_only c.args.bytes.now c.in_err-right.field-0.0 (subst (RefusesLaw c.args.bytes.now) (sym c.in_err-right.ensures.0) (law_ended c.args.bytes.now (state_of c.in_ok-reading.reading) c.in_ok-reading.end c.in_ok-reading.ensures (inr c.in_err-right.ensures.1))) law s l r)

-- the law that stands whole
pub check_leaves-requires : goal.check_leaves-requires
check_leaves-requires c =
    omega (arith, (law_leaves c.args.bytes.now (record { left = tree_of c.in-Some.left; right = tree_of c.in_ok-right.right }) (law_spelled c.args.bytes.now (state_of c.in_ok-reading.reading) c.in_ok-reading.end (tree_of c.in-Some.left) (tree_of c.in_ok-right.right) c.in_ok-reading.ensures (ap (option_map tree_of) (sym c.in-Some.ensures.value)) c.in_ok-right.ensures)).0, c.requires)

pub returns-in_err-check_leaves-clause-refused : goal.returns-in_err-check_leaves-clause-refused
returns-in_err-check_leaves-clause-refused c =
    let p = err_from_is_err_and c.from_residual-in_err-check_leaves.result c.from_residual-in_err-check_leaves.ensures.1 in
    rw (p.1, p.2) (subst (RefusesLaw c.args.bytes.now) (sym c.in_err-check_leaves.ensures.0) ((record { left = tree_of c.in-Some.left; right = tree_of c.in_ok-right.right }), law_spelled c.args.bytes.now (state_of c.in_ok-reading.reading) c.in_ok-reading.end (tree_of c.in-Some.left) (tree_of c.in_ok-right.right) c.in_ok-reading.ensures (ap (option_map tree_of) (sym c.in-Some.ensures.value)) c.in_ok-right.ensures, (inl (c.in_err-check_leaves.ensures.1, refl))))

pub returns-in_err-check_leaves-clause-only : goal.returns-in_err-check_leaves-clause-only
returns-in_err-check_leaves-clause-only c law s l r =
    absurd (omega (arith, c.in_err-check_leaves.ensures.1, ap (λ (x : Equation). leaves x.left) (same_law c.args.bytes.now law (record { left = tree_of c.in-Some.left; right = tree_of c.in_ok-right.right }) s (law_spelled c.args.bytes.now (state_of c.in_ok-reading.reading) c.in_ok-reading.end (tree_of c.in-Some.left) (tree_of c.in_ok-right.right) c.in_ok-reading.ensures (ap (option_map tree_of) (sym c.in-Some.ensures.value)) c.in_ok-right.ensures))))

pub check_leaves-requires-2 : goal.check_leaves-requires-2
check_leaves-requires-2 c =
    omega (arith, (law_leaves c.args.bytes.now (record { left = tree_of c.in-Some.left; right = tree_of c.in_ok-right.right }) (law_spelled c.args.bytes.now (state_of c.in_ok-reading.reading) c.in_ok-reading.end (tree_of c.in-Some.left) (tree_of c.in_ok-right.right) c.in_ok-reading.ensures (ap (option_map tree_of) (sym c.in-Some.ensures.value)) c.in_ok-right.ensures)).1, c.requires)

pub returns-in_err-check_leaves-2-clause-refused : goal.returns-in_err-check_leaves-2-clause-refused
returns-in_err-check_leaves-2-clause-refused c =
    let p = err_from_is_err_and c.from_residual-in_err-check_leaves-2.result c.from_residual-in_err-check_leaves-2.ensures.1 in
    rw (p.1, p.2) (subst (RefusesLaw c.args.bytes.now) (sym c.in_err-check_leaves-2.ensures.0) ((record { left = tree_of c.in-Some.left; right = tree_of c.in_ok-right.right }), law_spelled c.args.bytes.now (state_of c.in_ok-reading.reading) c.in_ok-reading.end (tree_of c.in-Some.left) (tree_of c.in_ok-right.right) c.in_ok-reading.ensures (ap (option_map tree_of) (sym c.in-Some.ensures.value)) c.in_ok-right.ensures, (inr (c.in_ok-check_leaves.ensures, c.in_err-check_leaves-2.ensures.1, refl))))

pub returns-in_err-check_leaves-2-clause-only : goal.returns-in_err-check_leaves-2-clause-only
returns-in_err-check_leaves-2-clause-only c law s l r =
    absurd (omega (arith, c.in_err-check_leaves-2.ensures.1, ap (λ (x : Equation). leaves x.right) (same_law c.args.bytes.now law (record { left = tree_of c.in-Some.left; right = tree_of c.in_ok-right.right }) s (law_spelled c.args.bytes.now (state_of c.in_ok-reading.reading) c.in_ok-reading.end (tree_of c.in-Some.left) (tree_of c.in_ok-right.right) c.in_ok-reading.ensures (ap (option_map tree_of) (sym c.in-Some.ensures.value)) c.in_ok-right.ensures))))

pub returns-clause-spelled : goal.returns-clause-spelled
returns-clause-spelled c =
    law_spelled c.args.bytes.now (state_of c.in_ok-reading.reading) c.in_ok-reading.end (tree_of c.in-Some.left) (tree_of c.in_ok-right.right) c.in_ok-reading.ensures (ap (option_map tree_of) (sym c.in-Some.ensures.value)) c.in_ok-right.ensures

pub returns-clause-only : goal.returns-clause-only
returns-clause-only c law s l r =
    same_law c.args.bytes.now (record { left = tree_of c.in-Some.left; right = tree_of c.in_ok-right.right }) law (law_spelled c.args.bytes.now (state_of c.in_ok-reading.reading) c.in_ok-reading.end (tree_of c.in-Some.left) (tree_of c.in_ok-right.right) c.in_ok-reading.ensures (ap (option_map tree_of) (sym c.in-Some.ensures.value)) c.in_ok-right.ensures) s
