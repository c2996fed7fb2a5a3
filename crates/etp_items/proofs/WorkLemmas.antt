-- What a proof said, and how far it has come, with one line more.
use Rattle.std.proofs.Common.{◌≡◌, ◌<◌, true, false, arith, List, [], ◌∷◌, ◌++◌, length, map, refl, sym, ap, ◌∙◌, Some, None, append_assoc}
use Rattle.etp_proof.specs.Lemmas.{step_of, lemma_of}
use Rattle.etp_proof.specs.Growing.{with_last_step}
use Rattle.etp_proof.specs.declared.proof.Step.{Step}
use Rattle.etp_proof.specs.declared.proof.Lemma as Program
use Rattle.etp_proof.specs.declared.label.Label.{Label}
use Rattle.etp_theory.specs.Trees.{Tree}
use Rattle.etp_theory.specs.Proofs.{Lemma, ProofStep}
use Rattle.etp_term.specs.Terms.{tree_of}
use Rattle.etp_term.specs.declared.term.Term.{Term}
use Rattle.etp_lines.specs.ProofLines.{Version, plain, citing, ProofLine, lemma, step, within, after_in_proof, may_step}
use Rattle.etp_items.specs.Reading.{lemma_lines}
use Rattle.etp_items.specs.Work.{place_with}
use Rattle.etp_lines.proofs.SideLemmas.{map_end}

pub lines_end : (ls : List Lemma) (l : Lemma) → lemma_lines (ls ++ l ∷ []) ≡ lemma_lines ls ++ (lemma l.start ∷ (map step l.steps ++ []))
lines_end [] l = refl
lines_end (m ∷ ms) l =
    ap (λ z. lemma m.start ∷ (map step m.steps ++ z)) (lines_end ms l)
    ∙ ap (λ z. lemma m.start ∷ z) (sym (append_assoc (map step m.steps) (lemma_lines ms) (lemma l.start ∷ (map step l.steps ++ []))))

-- a lemma without steps says one line more
lemma_more : (h : ProofLine) (cites : List ProofLine) (ls : List Program.Lemma) (l : Program.Lemma) → l.steps ≡ []
    → (h ∷ (cites ++ lemma_lines (map lemma_of (ls ++ l ∷ [])))) ≡ (h ∷ (cites ++ lemma_lines (map lemma_of ls))) ++ lemma (lemma_of l).start ∷ []
lemma_more h cites ls l e =
    let one : lemma_lines (map lemma_of (ls ++ l ∷ [])) ≡ lemma_lines (map lemma_of ls) ++ lemma (lemma_of l).start ∷ [] =
    ap lemma_lines (map_end lemma_of ls l) ∙ lines_end (map lemma_of ls) (lemma_of l)
    ∙ ap (λ (xs : List Step). lemma_lines (map lemma_of ls) ++ lemma (lemma_of l).start ∷ (map step (map step_of xs) ++ [])) e in
    ap (λ z. h ∷ (cites ++ z)) one ∙ ap (λ z. h ∷ z) (sym (append_assoc cites (lemma_lines (map lemma_of ls)) (lemma (lemma_of l).start ∷ [])))

lemma_place : (v : Version) (cites : List Label) (ls : List Program.Lemma) (l : Program.Lemma) → place_with v cites (ls ++ l ∷ []) ≡ within v
lemma_place v cites [] l = refl
lemma_place v cites (m ∷ ms) l = refl

step_end : (ls : List Program.Lemma) (x : Step) → 0 < length ls → lemma_lines (map lemma_of (with_last_step ls x)) ≡ lemma_lines (map lemma_of ls) ++ step (step_of x) ∷ []
step_end [] x h = absurd (omega (arith, h))
step_end (l ∷ []) x h =
    ap (λ z. lemma (lemma_of l).start ∷ (map step z ++ [])) (map_end step_of l.steps x)
    ∙ ap (λ z. lemma (lemma_of l).start ∷ (z ++ [])) (map_end step (map step_of l.steps) (step_of x))
    ∙ ap (λ z. lemma (lemma_of l).start ∷ z) (append_assoc (map step (map step_of l.steps)) (step (step_of x) ∷ []) [] ∙ ends)
  where
    ends : map step (map step_of l.steps) ++ ((step (step_of x) ∷ []) ++ []) ≡ (map step (map step_of l.steps) ++ []) ++ step (step_of x) ∷ []
    ends = sym (append_assoc (map step (map step_of l.steps)) [] (step (step_of x) ∷ []))
step_end (l ∷ m ∷ ls) x h =
    ap (λ z. lemma (lemma_of l).start ∷ (map step (map step_of l.steps) ++ z)) (step_end (m ∷ ls) x (omega arith))
    ∙ ap (λ z. lemma (lemma_of l).start ∷ z) (sym (append_assoc (map step (map step_of l.steps)) (lemma_lines (map lemma_of (m ∷ ls))) (step (step_of x) ∷ [])))

-- a step more at the last lemma says one line more
step_more : (h : ProofLine) (cites : List ProofLine) (ls ms : List Program.Lemma) (x : Step) → 0 < length ls → ms ≡ with_last_step ls x
    → (h ∷ (cites ++ lemma_lines (map lemma_of ms))) ≡ (h ∷ (cites ++ lemma_lines (map lemma_of ls))) ++ step (step_of x) ∷ []
step_more h cites ls ms x some e =
    ap (λ (z : List Program.Lemma). h ∷ (cites ++ lemma_lines (map lemma_of z))) e
    ∙ ap (λ z. h ∷ (cites ++ z)) (step_end ls x some) ∙ ap (λ z. h ∷ z) (sym (append_assoc cites (lemma_lines (map lemma_of ls)) (step (step_of x) ∷ [])))

some_place : (v : Version) (cites : List Label) (ls : List Program.Lemma) → 0 < length ls → place_with v cites ls ≡ within v
some_place v cites [] h = absurd (omega (arith, h))
some_place v cites (l ∷ ls) h = refl

step_place : (v : Version) (cites : List Label) (ls ms : List Program.Lemma) (x : Step) → 0 < length ls → ms ≡ with_last_step ls x → place_with v cites ms ≡ within v
step_place v cites [] ms x h e = absurd (omega (arith, h))
step_place v cites (l ∷ []) ms x h e = ap (place_with v cites) e
step_place v cites (l ∷ m ∷ ls) ms x h e = ap (place_with v cites) e

after_lemma : (v : Version) (cites : List Label) (ls : List Program.Lemma) (t : Tree) → after_in_proof (place_with v cites ls) (lemma t) ≡ Some (within v)
after_lemma plain cites [] t = refl
after_lemma citing cites [] t = refl
after_lemma v cites (l ∷ ls) t = refl

pub lemma_taken : (h : ProofLine) (saids : List ProofLine) (v : Version) (cites : List Label) (ls ms : List Program.Lemma) (start : Term) (steps : List Step) → steps ≡ [] → ms ≡ ls ++ record { start = start; steps = steps } ∷ []
    → (after_in_proof (place_with v cites ls) (lemma (tree_of start)) ≡ Some (place_with v cites ms))
    × ((h ∷ (saids ++ lemma_lines (map lemma_of ms))) ≡ (h ∷ (saids ++ lemma_lines (map lemma_of ls))) ++ lemma (tree_of start) ∷ [])
lemma_taken h saids v cites ls ms start steps none e =
    let l : Program.Lemma = record { start = start; steps = steps } in (
      after_lemma v cites ls (tree_of start) ∙ ap Some (sym (ap (place_with v cites) e ∙ lemma_place v cites ls l)),
      ap (λ (z : List Program.Lemma). h ∷ (saids ++ lemma_lines (map lemma_of z))) e ∙ lemma_more h saids ls l none,
    )

after_step : (v : Version) (cites : List Label) (ls : List Program.Lemma) (x : ProofStep) → 0 < length ls → may_step v x.cited ≡ true → after_in_proof (place_with v cites ls) (step x) ≡ Some (within v)
after_step v cites [] x some may = absurd (omega (arith, some))
after_step v cites (l ∷ ls) x some may = rw may refl

pub step_taken : (h : ProofLine) (saids : List ProofLine) (v : Version) (cites : List Label) (ls ms : List Program.Lemma) (x : Step) → 0 < length ls → may_step v x.cited ≡ true → ms ≡ with_last_step ls x
    → (after_in_proof (place_with v cites ls) (step (step_of x)) ≡ Some (place_with v cites ms))
    × ((h ∷ (saids ++ lemma_lines (map lemma_of ms))) ≡ (h ∷ (saids ++ lemma_lines (map lemma_of ls))) ++ step (step_of x) ∷ [])
step_taken h saids v cites ls ms x some may e = (
  after_step v cites ls (step_of x) some may ∙ ap Some (sym (step_place v cites ls ms x some e)),
  step_more h saids ls ms x some e,
)

no_step : (v : Version) (cites : List Label) (ls : List Program.Lemma) (x : ProofStep) → may_step v x.cited ≡ false → after_in_proof (place_with v cites ls) (step x) ≡ None
no_step plain cites [] x may = refl
no_step citing cites [] x may = refl
no_step v cites (l ∷ ls) x may = rw may refl

pub step_left : (v : Version) (cites : List Label) (ls : List Program.Lemma) (x : Step) → may_step v x.cited ≡ false → after_in_proof (place_with v cites ls) (step (step_of x)) ≡ None
step_left v cites ls x may = no_step v cites ls (step_of x) may
