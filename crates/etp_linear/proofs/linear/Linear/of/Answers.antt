use Rattle.std.proofs.Common.{rules, sym, subst, ◌≢◌}
use Rattle.std.specs.Int.{w64}
use Rattle.std.proofs.lemmas.Int.{to_z-of_z}
use Rattle.etp_linear.specs.Magmas.{LinearMagma, IsCoefficient}
use Rattle.etp_linear.specs.Judgements.{IsOutOfRange}
use Rattle.etp_linear.specs.declared.parts.Ring.TheVariants.{Modulo}
use Rattle.etp_linear.proofs.linear.Linear.of.Goals as goal

pub returns-then-not-allows-3-clause-err : goal.returns-then-not-allows-3-clause-err
returns-then-not-allows-3-clause-err c =
    let ring = c.args.ring in
    let l : LinearMagma = record { ring = ring; a = c.args.a; b = c.args.b; c = c.args.c } in
    let n : ring ≢ Modulo 0 = search rules in
    let ce = to_z-of_z w64 c.args.c c.ranges.c in
    let a = subst (IsCoefficient ring) (to_z-of_z w64 c.args.a c.ranges.a) (c.allows.ensures.0 c.if-not-allows.false) in
    let b = subst (IsCoefficient ring) (to_z-of_z w64 c.args.b c.ranges.b) (c.allows-2.ensures.0 c.if-not-allows-2.false) in
    let d : IsCoefficient ring c.args.c → ⊥ = λ h. let q = c.allows-3.ensures.1 (subst (IsCoefficient ring) (sym ce) h) in let r = c.if-not-allows-3.true in cc in
    subst (IsOutOfRange l) (sym c.out_of_range-then-not-allows-3.ensures) (n, a, b, d, ce)

pub invariant_of-result : goal.invariant_of-result
invariant_of-result c = record {
  in_range = record {
    modulus = search rules;
    a_in_range = c.allows.ensures.0 c.if-not-allows.false;
    b_in_range = c.allows-2.ensures.0 c.if-not-allows-2.false;
    c_in_range = c.allows-3.ensures.0 c.if-not-allows-3.false;
  };
}
