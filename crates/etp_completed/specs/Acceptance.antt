-- The body that a completion ends with is valid, and accepted.
use Rattle.std.specs.Prelude.{◌≡◌, List, []}
use Rattle.etp_theory.specs.Trees.{Equation}
use Rattle.etp_laws.specs.LawLists.{LawList}
use Rattle.etp_items.specs.Bodies.{body_of}
use Rattle.etp_items.specs.declared.body.RulesBody.{RulesBody}
use Rattle.etp_items.specs.declared.body.Body.TheVariants.{Rules}
use Rattle.etp_check.specs.Checks.{IsValidBody}
use Rattle.etp_check.specs.Refusals.{IsCheckRefused}
use Rattle.etp_check.specs.declared.refusal.CheckRefusal.{CheckRefusal}
use Rattle.etp_check.specs.declared.refusal.CheckRefusal.TheVariants.{NoMemory}
use Rattle.etp_complete.specs.Derived.{IsValidSystem}

pub record AcceptanceTheorems : Type 0 where
  -- the body of a valid system is valid as a file's body
  pub valid : (laws : List Equation) (body : RulesBody) → IsValidSystem laws body
      → IsValidBody laws (body_of (Rules body)) []
  -- so its check refuses it for want of memory alone
  pub accepted : (laws : LawList) (body : RulesBody) (r : CheckRefusal)
      → IsValidSystem laws.equations body → IsCheckRefused laws (body_of (Rules body)) [] r
      → r ≡ NoMemory
