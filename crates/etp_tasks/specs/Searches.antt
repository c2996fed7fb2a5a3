-- The text that answers the question for a shortest proof.
use Rattle.std.specs.Prelude.{◌≡◌, ℕ, List, [], ◌∷◌, ◌++◌, codes, decimal}
use Rattle.etp_theory.specs.Trees.{Equation}
use Rattle.etp_laws.specs.Listing.{IsTheList}
use Rattle.etp_replay.specs.Validity.{law_at, IsValid}
use Rattle.etp_items.specs.Bodies.{proof, proof_of}
use Rattle.etp_search.specs.Searched.{space_for, IsAnswer, IfFound, IsNamed}
use Rattle.etp_search.specs.declared.answer.Searched.{Searched}
use Rattle.etp_search.specs.declared.answer.Searched.TheVariants.{Found, Nothing, Budget}
use Rattle.etp_show.specs.Printed.{printed_file}

-- the proof as the lines of a session, under the name `shortest`; or that there is none, or where the
-- search stopped
abbrev pub searched_text : ℕ → ℕ → Searched → List ℕ
searched_text leaves steps (Found p) = printed_file (record { name = codes "shortest"; body = proof (proof_of p) })
searched_text leaves steps Nothing =
    codes "none within " ++ decimal leaves ++ codes " leaves " ++ decimal steps ++ codes " steps" ++ 10 ∷ []
searched_text leaves steps (Budget level) = codes "budget at " ++ decimal level ++ 10 ∷ []

-- what a search from law e to law f comes to, over the laws of order 4: a proof that is found is valid
pub record IsSearchOf (e f leaves steps : ℕ) (text : List ℕ) : Type 0 where
  pub laws : List Equation
  pub the_list : IsTheList 4 laws
  pub searched : Searched
  pub answer : IsAnswer (space_for laws e f leaves) (law_at laws f) steps searched
  pub named : IfFound searched (IsNamed e f)
  pub valid : IfFound searched (λ p. IsValid laws p [])
  pub text_is : text ≡ searched_text leaves steps searched
