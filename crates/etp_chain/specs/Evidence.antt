-- Evidence: a shortest path for a pair that is reached, and a refuting pair for one that is covered.
use Rattle.std.specs.Prelude.{◌≡◌, ℕ, suc, ◌+◌, ◌*◌, ◌≤◌, Bool, if◌then◌else◌, List, [], ◌∷◌, Contains, All, Some, slice_get}
use Rattle.etp_theory.specs.LawNumbers.{IsLaw}
use Rattle.etp_theory.specs.Reach.{Fact, implies, refutes, Edge, Reach}
use Rattle.etp_closure.specs.Tables.{image_of}
use Rattle.etp_chain.specs.declared.evidence.Edge.{Edge as Step}
use Rattle.etp_chain.specs.declared.evidence.Cover.{Cover}

-- all laws that the fact names are among the first so many
abbrev pub NamesLaws : ℕ → Fact → Type 0
NamesLaws laws (implies hypothesis goal) = IsLaw laws hypothesis × IsLaw laws goal
NamesLaws laws (refutes holds fails) = All (IsLaw laws) holds × All (IsLaw laws) fails

-- the file, counted from 0, says that one law implies another, and these or their duals are e and f
pub record GivesEdge (duals : List ℕ) (facts : List Fact) (file : ℕ) (dual : Bool) (e f : ℕ) : Type 0 where
  pub hypothesis : ℕ
  pub goal : ℕ
  pub said : slice_get facts file ≡ Some (implies hypothesis goal)
  pub from : e ≡ image_of duals dual hypothesis
  pub to : f ≡ image_of duals dual goal

-- the file says that no law of one list implies a law of another, and e and f are of these, or duals of these
pub record GivesPair (duals : List ℕ) (facts : List Fact) (file : ℕ) (dual : Bool) (e f : ℕ) : Type 0 where
  pub all_holds : List ℕ
  pub all_fails : List ℕ
  pub said : slice_get facts file ≡ Some (refutes all_holds all_fails)
  pub hold : ℕ
  pub fail : ℕ
  pub hold_in : Contains all_holds hold
  pub fail_in : Contains all_fails fail
  pub from : e ≡ image_of duals dual hold
  pub to : f ≡ image_of duals dual fail

-- files in order, each plain before dual
abbrev pub turn_of : ℕ → Bool → ℕ
turn_of file dual = if dual then 2 * file + 1 else 2 * file

-- so many edges lead from the first law to the second
pub data Walk (duals : List ℕ) (facts : List Fact) : ℕ → ℕ → ℕ → Type 0 where
  stays : (e : ℕ) → Walk duals facts 0 e e
  goes : {n e f g : ℕ} → Edge duals facts e f → Walk duals facts n f g → Walk duals facts (suc n) e g

-- the least number of edges that lead from the first law to the second
pub record IsDistance (duals : List ℕ) (facts : List Fact) (e f n : ℕ) : Type 0 where
  pub walk : Walk duals facts n e f
  pub least : (m : ℕ) → Walk duals facts m e f → n ≤ m

-- the step goes from e to the least law that is one edge nearer to the end,
-- and names the earliest file that gives the edge, plain before dual
pub record IsNextStep (duals : List ℕ) (facts : List Fact) (end e : ℕ) (step : Step) : Type 0 where
  pub from : step.hypothesis ≡ e
  pub left : ℕ
  pub far : IsDistance duals facts e end (suc left)
  pub near : IsDistance duals facts step.goal end left
  pub least : (law : ℕ) → Edge duals facts e law → IsDistance duals facts law end left → step.goal ≤ law
  pub gives : GivesEdge duals facts step.file step.dual e step.goal
  pub earliest : (file : ℕ) (dual : Bool) → GivesEdge duals facts file dual e step.goal
      → turn_of step.file step.dual ≤ turn_of file dual

-- the path from a law to the end, by next steps
pub data IsPath (duals : List ℕ) (facts : List Fact) (end : ℕ) : ℕ → List Step → Type 0 where
  ends : IsPath duals facts end end []
  goes_on : {e : ℕ} {step : Step} {path : List Step} → IsNextStep duals facts end e step
      → IsPath duals facts end step.goal path → IsPath duals facts end e (step ∷ path)

-- no refuting pair before a turn has laws that meet two conditions
abbrev pub HasNoPairBefore : List ℕ → List Fact → (ℕ → Type 0) → (ℕ → Type 0) → ℕ → Type 0
HasNoPairBefore duals facts HasHold HasFail turn = (file : ℕ) (dual : Bool) (e f : ℕ)
    → GivesPair duals facts file dual e f → HasHold e → HasFail f → turn ≤ turn_of file dual

-- the pair of a file, or of its dual, whose laws meet two conditions:
-- with the least law that holds, then with the least law that fails
pub record IsLeastPair (duals : List ℕ) (facts : List Fact) (HasHold HasFail : ℕ → Type 0)
    (file : ℕ) (dual : Bool) (holds fails : ℕ) : Type 0 where
  pub gives : GivesPair duals facts file dual holds fails
  pub has_hold : HasHold holds
  pub has_fail : HasFail fails
  pub least_hold : (e f : ℕ) → GivesPair duals facts file dual e f → HasHold e → HasFail f → holds ≤ e
  pub least_fail : (f : ℕ) → GivesPair duals facts file dual holds f → HasFail f → fails ≤ f

-- that pair of the earliest file that has one, plain before dual
pub record IsFirstPair (duals : List ℕ) (facts : List Fact) (HasHold HasFail : ℕ → Type 0)
    (file : ℕ) (dual : Bool) (holds fails : ℕ) : Type 0 where
  pub least : IsLeastPair duals facts HasHold HasFail file dual holds fails
  pub earliest : HasNoPairBefore duals facts HasHold HasFail (turn_of file dual)

-- the first refuting pair whose first law reaches e and whose second is reached from f, with both paths
pub record IsCover (duals : List ℕ) (facts : List Fact) (e f : ℕ) (cover : Cover) : Type 0 where
  pub pair : IsFirstPair duals facts (λ law. Reach duals facts law e) (λ law. Reach duals facts f law)
      cover.file cover.dual cover.holds cover.fails
  pub before : IsPath duals facts e cover.holds cover.before
  pub after : IsPath duals facts cover.fails f cover.after
