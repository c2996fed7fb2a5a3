use Rattle.std.proofs.Common.{◌≡◌, ◌<◌, ℕ, ◌+◌, get_or, subst, sym, arith, Option, Some, IfSome, IsTrue}
use Rattle.etp_closure.specs.Tables.{image_of}
use Rattle.etp_chain.specs.Searches.{IsFound}
use Rattle.etp_chain.proofs.Pairs.{LeastUpTo, least_stays, least_now, least_of_all}
use Rattle.etp_chain.proofs.covers.least_found.Goals as goal
use Rattle.etp_chain.proofs.covers.least_found.Goals.{then-found-law-gt0+then-is_below, else-found-law-gt0, else-found-law-gt0-via-then-found-law-gt0+else-is_below, else-found-law-gt0-via-else-found-law-gt0}

pub loop-law-preserved : goal.loop-law-preserved
loop-law-preserved c =
    let duals = c.args.duals.now in
    let dual = c.args.dual in
    let found = c.args.found.now in
    let laws = c.args.laws.now in
    let i = c.loop-law.law-index in
    let least = c.loop-law.least in
    let inv = c.loop-law.invariant in
    let law = c.image-law.result in
    let is : law ≡ image_of duals dual (get_or laws i 0) = c.image-law.ensures.value in
    let F : ℕ → Type 0 = λ x. IsFound found x in
    let B : ℕ → Type 0 = λ x. IfSome least (λ other. x < other) in
    let Q : Option ℕ → Type 0 = λ o. LeastUpTo duals dual found laws (i + 1) o in
    elim c.if-found-law-gt0.branch [
      | then-found-law-gt0+then-is_below w ↦
          let below = subst B is (w.is_below.ensures.0 w.if-is_below.true) in
          let now = least_now duals dual found laws i c.loop-law-test.true least inv (subst F is w.if-found-law-gt0.true) below in
          let P : ℕ → Type 0 = λ x. LeastUpTo duals dual found laws (i + 1) (Some x) in
          subst Q (sym w.least-is) (subst P (sym is) now)
      | else-found-law-gt0 w ↦
          subst Q (sym w.least-is)
          (least_stays duals dual found laws i c.loop-law-test.true least inv (λ there below.
          elim w.else-found-law-gt0.branch [
            | else-found-law-gt0-via-then-found-law-gt0+else-is_below v ↦
                let yes : IsTrue v.is_below.result = v.is_below.ensures.1 (subst B (sym is) below) in
                absurd (cc (yes, v.if-is_below.false))
            | else-found-law-gt0-via-else-found-law-gt0 v ↦
                let yes = subst F (sym is) there in
                omega (arith, yes, v.if-found-law-gt0.false)
          ]))
    ]

pub returns : goal.returns
returns c =
    least_of_all c.args.duals.now c.args.dual c.args.found.now c.args.laws.now c.loop-law.law-index c.loop-law.least c.loop-law-test.false c.loop-law.invariant
