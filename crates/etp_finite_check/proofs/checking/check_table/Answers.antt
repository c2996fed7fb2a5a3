use Rattle.std.proofs.Common.{◌≡◌, ◌≢◌, ◌⊎◌, inl, inr, rules}
use Rattle.etp_table.specs.declared.refusal.TableRefusal.TheVariants as Tables
use Rattle.etp_items.specs.Bodies.{table, claims_of}
use Rattle.etp_finite_body.specs.FiniteBodies.{model}
use Rattle.etp_finite_check.specs.FiniteRefusals.{IsTableOffence, IsCheckRefused}
use Rattle.etp_finite_check.specs.declared.refusal.FiniteRefusal.TheVariants.{Table, NoMemory}
use Rattle.etp_finite_check.proofs.checking.check_table.Goals as goal

pub returns-clause-err : goal.returns-clause-err
returns-clause-err c =
    by (search rules) c.of_table-in-Err-judge.ensures
  where
    by : IsTableOffence c.args.laws.now.equations (record { size = c.args.body.now.size; entries = c.args.body.now.entries }) (claims_of c.args.body.now.claims) c.in-Err-judge.refusal
        → ((c.of_table-in-Err-judge.result ≡ NoMemory) × (c.in-Err-judge.refusal ≡ Tables.NoMemory)) ⊎ ((c.of_table-in-Err-judge.result ≡ Table c.in-Err-judge.refusal) × (c.in-Err-judge.refusal ≢ Tables.NoMemory))
        → IsCheckRefused c.args.laws.now (model (table c.args.body.now.size c.args.body.now.entries) (claims_of c.args.body.now.claims)) c.of_table-in-Err-judge.result
    by offence (inl none) = inl none.0
    by offence (inr some) = inr (c.in-Err-judge.refusal, some.0, offence)
