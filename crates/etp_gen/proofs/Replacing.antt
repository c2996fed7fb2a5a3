-- Laws with their variables replaced.
use Rattle.std.proofs.Common.{◌≡◌, ℕ, ◌+◌, ◌%◌, ◌<◌, ◌≤◌, max, ◌⊎◌, inl, inr, List, [], ◌∷◌, length, get_or, Contains, Some, slice_index, refl, sym, ap, ap₂, ◌∙◌, subst, arith}
use Rattle.std.proofs.lemmas.Bool.{cases_order}
use Rattle.std.proofs.lemmas.Option.{same_Some}
use Rattle.etp_theory.specs.Trees.{Tree, var, op, Equation, ops, bound, law_ops, law_word, renamed, law_renamed}
use Rattle.etp_theory.specs.LawNumbers.{law_numbered}
use Rattle.etp_theory.proofs.Sameness.{reflexive as same_itself}
use Rattle.etp_theory.proofs.Trees.{pair_eq}
use Rattle.etp_theory.proofs.Theorems.{term_theorems}
use Rattle.etp_laws.specs.Listing.{Listed, IsTheList}
use Rattle.etp_laws.specs.LawLists.{LawList, HasVariables, IsNumberOf, HasNumber, IsTrivial}
use Rattle.etp_laws.specs.NumberAnswers.{IsNumberAnswer}
use Rattle.etp_laws.specs.declared.laws.Numbered.TheVariants.{Is, Trivial, TooManyOps}
use Rattle.etp_laws.proofs.Entries.{Listed-entry, small_entry}
use Rattle.etp_laws.proofs.Variables.{HasVariables-bound, bound-few}
use Rattle.etp_items.specs.Bodies.{ProofBody}
use Rattle.etp_gen.specs.Draws.{draw, next_draw}
use Rattle.etp_gen.specs.Files.{drawn_number, drawn_value, IsInstance, one_step, ProvesInstance, IsGenerated}
use Rattle.etp_gen.proofs.Drawing.{one_more, two_more, draw-later}

ops-renamed : (f : ℕ → ℕ) (t : Tree) → ops (renamed f t) ≡ ops t
ops-renamed f (var v) = refl
ops-renamed f (op l r) = ap₂ (λ a b. a + b + 1) (ops-renamed f l) (ops-renamed f r)

pub law_ops-renamed : (f : ℕ → ℕ) (p : Equation) → law_ops (law_renamed f p) ≡ law_ops p
law_ops-renamed f p = ap₂ (λ a b. a + b) (ops-renamed f p.left) (ops-renamed f p.right)

-- renamings that agree on the variables of a term
renamed-same : (f g : ℕ → ℕ) (n : ℕ) (t : Tree) → bound t ≤ n → ((v : ℕ) → v < n → f v ≡ g v) → renamed f t ≡ renamed g t
renamed-same f g n (var v) h e = ap var (e v (omega (arith, h)))
renamed-same f g n (op l r) h e = ap₂ op (renamed-same f g n l (omega (arith, h)) e) (renamed-same f g n r (omega (arith, h)) e)

pub law_renamed-same : (f g : ℕ → ℕ) (n : ℕ) (p : Equation) → max (bound p.left) (bound p.right) ≤ n → ((v : ℕ) → v < n → f v ≡ g v) → law_renamed f p ≡ law_renamed g p
law_renamed-same f g n p h e = pair_eq (renamed-same f g n p.left (omega (arith, h)) e) (renamed-same f g n p.right (omega (arith, h)) e)

-- a law has one number of variables, and at least one variable
pub one_count : (p : Equation) (m n : ℕ) → HasVariables p m → HasVariables p n → m ≡ n
one_count p m n h i = by_cases (cases_order m n)
  where
    never : (a : ℕ) → a < a → ⊥
    never a l = omega (arith, l)

    by_cases : ((m ≡ n) ⊎ ((m < n) ⊎ (n < m))) → m ≡ n
    by_cases (inl e) = e
    by_cases (inr (inl l)) = absurd (never m ((h m).0 ((i m).1 l)))
    by_cases (inr (inr l)) = absurd (never n ((i n).0 ((h n).1 l)))

first_of : (w : List ℕ) → 0 < length w → (v : ℕ) × Contains w v
first_of [] h = absurd (omega (arith, h))
first_of (v ∷ w) h = (v, (0, omega arith, refl))

pub some_variable : (p : Equation) (n : ℕ) → HasVariables p n → 0 < n
some_variable p n h =
    let t : Tree = op p.left p.right in
    let long = term_theorems.word_length t in
    let more = term_theorems.leaves_ops t in
    let first = first_of (law_word p) (omega (arith, long, more)) in
    let below = (h first.0).0 first.1 in
    omega (arith, below)

-- a listed law of at most five operations has few variables
pub few_variables : (k : ℕ) (laws : List Equation) (n : ℕ) (p : Equation) → IsTheList k laws → k ≤ 5 → law_numbered laws n ≡ Some p → max (bound p.left) (bound p.right) ≤ 7
few_variables k laws n p l few h =
    let a = bound-few p (Listed-entry k laws n p l h) in
    let b = small_entry k laws n p l h in
    omega (arith, a, b, few)

-- the number of a law with its variables replaced is that of its instance
pub by_number : (l : LawList) (h goal : ℕ) (law q : Equation) (value : ℕ → ℕ) (file : ProofBody) → q ≡ law_renamed value law
    → IsNumberAnswer l q (Is goal) → file ≡ one_step h goal q → ProvesInstance l.equations h law value file
by_number l h goal law q value file e n f = record { instance_law = q; goal = goal; is_instance = inl (subst HasNumber e n.1, e); number = n.2; file_is = f }

pub own_number : (laws : List Equation) (n : ℕ) (p : Equation) → law_numbered laws n ≡ Some p → IsNumberOf laws p n
own_number laws n p h = record { entry = p; stands = h; same = same_itself p }

-- where there is none, the law is its own instance
pub by_itself : (l : LawList) (h : ℕ) (law q : Equation) (value : ℕ → ℕ) (file : ProofBody) → q ≡ law_renamed value law
    → IsNumberAnswer l q Trivial → law_numbered l.equations h ≡ Some law → file ≡ one_step h h law → ProvesInstance l.equations h law value file
by_itself l h law q value file e n stands f =
    record { instance_law = law; goal = h; is_instance = inr (subst IsTrivial e n.1, refl); number = own_number l.equations h law stands; file_is = f }

pub not_too_many : (l : LawList) (h n : ℕ) (law q : Equation) (value : ℕ → ℕ) → q ≡ law_renamed value law → IsTheList l.order l.equations
    → law_numbered l.equations h ≡ Some law → IsNumberAnswer l q (TooManyOps n) → ⊥
not_too_many l h n law q value e list stands answer =
    let small = small_entry l.order l.equations h law list stands in
    let same : law_ops q ≡ law_ops law = ap law_ops e ∙ law_ops-renamed value law in
    omega (arith, small, same, answer.0)

-- values that agree on the law's variables give the same instance
pub other_values : (laws : List Equation) (h : ℕ) (law : Equation) (f g : ℕ → ℕ) (file : ProofBody) → law_renamed f law ≡ law_renamed g law
    → ProvesInstance laws h law f file → ProvesInstance laws h law g file
other_values laws h law f g file e p = record { instance_law = p.instance_law; goal = p.goal; is_instance = turned p.is_instance; number = p.number; file_is = p.file_is }
  where
    turned : IsInstance law f p.instance_law → IsInstance law g p.instance_law
    turned (inl (a, b)) = inl (subst HasNumber e a, b ∙ e)
    turned (inr (a, b)) = inr (subst IsTrivial e a, b)

-- the file of a state, from the draws after the first one
pub generated : (laws : List Equation) (s n after : ℕ) (values : List ℕ) (law : Equation) (file : ProofBody)
    → law_numbered laws (drawn_number s) ≡ Some law → Listed law → HasVariables law n
    → ((i : ℕ) → i < n → get_or values i 0 ≡ draw (next_draw s) (1 + i) % n) → after ≡ draw (next_draw s) n
    → ProvesInstance laws (drawn_number s) law (λ v. slice_index values v) file → IsGenerated laws s file after
generated laws s n after values law file stands listed has drawn after_is proves =
    let count : max (bound law.left) (bound law.right) ≡ n = one_count law _ n (HasVariables-bound law listed) has in
    let agree : (v : ℕ) → v < n → slice_index values v ≡ drawn_value s n v = (λ v h. drawn v h ∙ ap (λ d. d % n) (draw-later s (1 + v) ∙ ap (draw s) (two_more v))) in
    record {
      law = law;
      n = n;
      stands = stands;
      has_variables = has;
      proves = other_values laws (drawn_number s) law (λ v. slice_index values v) (drawn_value s n) file
          (law_renamed-same (λ v. slice_index values v) (drawn_value s n) n law (omega (arith, count)) agree) proves;
      after_is = after_is ∙ draw-later s n ∙ ap (draw s) (one_more n);
    }

-- the same, from what is known where the draws are made
pub next_generated : (laws : List Equation) (k s d n after : ℕ) (values : List ℕ) (law : Equation) (file : ProofBody) → IsTheList k laws → d ≡ next_draw s
    → law_numbered laws (1 + d % 4694) ≡ Some law → ((e : Equation) × (law_numbered laws (1 + d % 4694) ≡ Some e) × HasVariables e n)
    → ((i : ℕ) → i < n → slice_index values i ≡ draw d (1 + i) % n) → after ≡ draw d n
    → ProvesInstance laws (1 + d % 4694) law (λ v. slice_index values v) file → IsGenerated laws s file after
next_generated laws k s d n after values law file l e stands has drawn after_is proves =
    generated laws s n after values law file (subst (λ u. law_numbered laws (1 + u % 4694) ≡ Some law) e stands) (Listed-entry k laws (1 + d % 4694) law l stands)
    (subst (λ (p : Equation). HasVariables p n) (same_Some has.0 law (sym has.1 ∙ stands)) has.2)
    (λ i h. subst (λ u. get_or values i 0 ≡ draw u (1 + i) % n) e (drawn i h)) (after_is ∙ ap (λ u. draw u n) e)
    (subst (λ u. ProvesInstance laws (1 + u % 4694) law (λ v. slice_index values v) file) e proves)
