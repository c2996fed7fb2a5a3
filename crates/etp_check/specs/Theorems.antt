-- A body has one verdict.
use Rattle.std.specs.Prelude.{◌≡◌, ℕ, List}
use Rattle.etp_laws.specs.Listing.{IsTheList}
use Rattle.etp_laws.specs.LawLists.{LawList}
use Rattle.etp_items.specs.Bodies.{FileBody}
use Rattle.etp_check.specs.Checks.{IsRightBody}
use Rattle.etp_check.specs.Refusals.{IsBodyOffence}
use Rattle.etp_check.specs.declared.refusal.CheckRefusal.{CheckRefusal}

pub record CheckTheorems : Type 0 where
  -- a right body, and so a valid one, has no offence
  pub right_or_refused : (l : LawList) (body : FileBody) (cited : List ℕ) (r : CheckRefusal)
      → IsRightBody l.equations body cited → ¬ IsBodyOffence l body cited r
  -- any other has one
  pub one_offence : (l : LawList) (body : FileBody) (cited : List ℕ) (r s : CheckRefusal)
      → IsTheList l.order l.equations → IsBodyOffence l body cited r → IsBodyOffence l body cited s
      → r ≡ s
