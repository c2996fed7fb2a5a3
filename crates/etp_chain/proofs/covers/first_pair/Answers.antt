use Rattle.std.proofs.Common.{◌≡◌, ◌*◌, ◌+◌, sym, arith, subst, None, slice_get, ℕ}
use Rattle.std.proofs.lemmas.Option.{slice_get-get_or}
use Rattle.etp_theory.specs.Reach.{implies}
use Rattle.etp_chain.specs.Evidence.{HasNoPairBefore}
use Rattle.etp_chain.specs.Searches.{IsFound}
use Rattle.etp_chain.proofs.Pairs.{none_at_all}
use Rattle.etp_chain.proofs.covers.first_pair.Goals as goal
use Rattle.etp_chain.proofs.covers.first_pair.Goals.{in-Some+in_default-pair_of_fact, in_default}

pub loop-file-preserved : goal.loop-file-preserved
loop-file-preserved g c =
    let said = g.L.Facts.said c.args.facts.now in
    let file = c.loop-file.file in
    elim c.match-fact.branch [
      | in-Some+in_default-pair_of_fact w ↦
          let none = w.in_default-pair_of_fact.ensures said (sym w.in-Some.ensures) c.loop-file.invariant in
          let P : ℕ → Type 0 = λ turn. HasNoPairBefore c.args.duals.now said (IsFound c.args.before.now) (IsFound c.args.after.now) turn in
          let turn : 2 * file + 1 + 1 ≡ 2 * (file + 1) = omega arith in
          subst P turn none
      | in_default w ↦
          let d = implies 0 0 in
          let is = slice_get-get_or said file d (omega (arith, c.loop-file-test.true, c.count-file-end.ensures)) in
          let none : None ≡ slice_get said file = w.in_default.ensures in
          absurd (cc (is, none))
    ]

pub returns : goal.returns
returns g c =
    let said = g.L.Facts.said c.args.facts.now in
    none_at_all c.args.duals.now said c.args.before.now c.args.after.now (2 * c.loop-file.file)
    (omega (arith, c.loop-file-test.false, c.count-file-end.ensures)) c.loop-file.invariant
