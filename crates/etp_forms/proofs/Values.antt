-- The value of a term is the value of its form, and a law holds where both sides have one form.
use Rattle.std.proofs.Common.{◌≡◌, ℕ, zero, suc, ◌<◌, ◌≤◌, ◌⊎◌, inl, inr, max, Bool, true, false, cond, eqb, List, Contains, refl, sym, ap, ap₂, ◌∙◌, subst, arith, eq-eqb, ne_eqb}
use Rattle.std.specs.Prelude.{IsTrue}
use Rattle.etp_theory.specs.Trees.{Tree, var, op, bound}
use Rattle.etp_theory.specs.Magmas.{meaning, IsClosed, Holds}
use Rattle.etp_theory.specs.Sound.{meaning_inside}
use Rattle.etp_theory.proofs.Comparing.{equal_or_below}
use Rattle.etp_forms.specs.Forms.{Affine, combined, coefficient, constant, sum_to, only, IsLinear, Spanned, is_origin, is_generator, is_sum, is_difference, Generate, HaveOneForm}

cond_cases : {A : Type 0} (P : A → Type 0) (b : Bool) (x y : A) → P x → P y → P (cond b x y)
cond_cases P true x y p q = p
cond_cases P false x y p q = q

module _ {A : Type 0} (inside : A → Bool) (times : A → A → A) (f : Affine A) (linear : IsLinear inside times f) where
  abbrev In : A → Type 0
  In x = IsTrue (inside x)

  abbrev plus : A → A → A
  plus = f.plus

  combined_inside : (x y : A) → In x → In y → In (combined f x y)
  combined_inside x y i j = linear.plus_inside _ _ (linear.plus_inside _ _ (linear.left_inside x i) (linear.right_inside y j)) linear.added_inside

  pub closed : IsClosed inside times
  closed x y i j = subst In (sym (linear.operation x y i j)) (combined_inside x y i j)

  only_inside : (v : ℕ) (z : A) → In z → (x : ℕ) → In (only f v z x)
  only_inside v z i x = cond_cases In (eqb x v) z f.origin i linear.origin_inside

  pub coefficient_inside : (t : Tree) (v : ℕ) (z : A) → In z → In (coefficient f t v z)
  coefficient_inside (var x) v z i = cond_cases In (eqb x v) z f.origin i linear.origin_inside
  coefficient_inside (op l r) v z i = linear.plus_inside _ _ (linear.left_inside _ (coefficient_inside l v z i)) (linear.right_inside _ (coefficient_inside r v z i))

  pub constant_inside : (t : Tree) → In (constant f t)
  constant_inside (var x) = linear.origin_inside
  constant_inside (op l r) = combined_inside _ _ (constant_inside l) (constant_inside r)

  sum_inside : (n : ℕ) (g : ℕ → A) → ((v : ℕ) → In (g v)) → In (sum_to f n g)
  sum_inside zero g i = linear.origin_inside
  sum_inside (suc n) g i = linear.plus_inside _ _ (sum_inside n g i) (i n)

  left_neutral : (x : A) → In x → plus f.origin x ≡ x
  left_neutral x i = linear.commutative f.origin x linear.origin_inside i ∙ linear.neutral x i

  shuffled : (a b c d : A) → In a → In b → In c → In d → plus (plus a b) (plus c d) ≡ plus (plus a c) (plus b d)
  shuffled a b c d i j k l =
      linear.associative a b (plus c d) i j (linear.plus_inside c d k l)
      ∙ ap (plus a) (sym (linear.associative b c d j k l) ∙ ap (λ x. plus x d) (linear.commutative b c j k) ∙ linear.associative c b d k j l)
      ∙ sym (linear.associative a c (plus b d) i k (linear.plus_inside b d j l))

  -- an additive map takes zero to zero
  origin_kept : (g : A → A) → ((x : A) → In x → In (g x)) → ((x y : A) → In x → In y → g (plus x y) ≡ plus (g x) (g y)) → g f.origin ≡ f.origin
  origin_kept g kept additive =
      let o = linear.origin_inside in
      let p : In (g f.origin) = kept f.origin o in
      linear.cancelled (g f.origin) f.origin (g f.origin) p o p
      (sym (additive f.origin f.origin o o) ∙ ap g (linear.neutral f.origin o) ∙ sym (left_neutral (g f.origin) p))

  left_origin : f.on_left f.origin ≡ f.origin
  left_origin = origin_kept f.on_left linear.left_inside linear.left_additive

  right_origin : f.on_right f.origin ≡ f.origin
  right_origin = origin_kept f.on_right linear.right_inside linear.right_additive

  -- the operation of two sums
  joined : (a k b j : A) → In a → In k → In b → In j → combined f (plus a k) (plus b j) ≡ plus (plus (f.on_left a) (f.on_right b)) (combined f k j)
  joined a k b j ia ik ib ij =
      let la = linear.left_inside a ia in
      let lk = linear.left_inside k ik in
      let rb = linear.right_inside b ib in
      let rj = linear.right_inside j ij in
      ap (λ x. plus x f.added) (ap₂ plus (linear.left_additive a k ia ik) (linear.right_additive b j ib ij) ∙ shuffled _ _ _ _ la lk rb rj)
      ∙ linear.associative _ _ _ (linear.plus_inside _ _ la rb) (linear.plus_inside _ _ lk rj) linear.added_inside

  sum_linear : (n : ℕ) (g h : ℕ → A) → ((v : ℕ) → In (g v)) → ((v : ℕ) → In (h v)) → plus (f.on_left (sum_to f n g)) (f.on_right (sum_to f n h)) ≡ sum_to f n (λ v. plus (f.on_left (g v)) (f.on_right (h v)))
  sum_linear zero g h i j = ap₂ plus left_origin right_origin ∙ linear.neutral f.origin linear.origin_inside
  sum_linear (suc n) g h i j =
      let s = sum_inside n g i in
      let t = sum_inside n h j in
      ap₂ plus (linear.left_additive _ _ s (i n)) (linear.right_additive _ _ t (j n))
      ∙ shuffled _ _ _ _ (linear.left_inside _ s) (linear.left_inside _ (i n)) (linear.right_inside _ t) (linear.right_inside _ (j n))
      ∙ ap (λ x. plus x (plus (f.on_left (g n)) (f.on_right (h n)))) (sum_linear n g h i j)

  sum_none : (n x : ℕ) (r : ℕ → A) → n ≤ x → sum_to f n (λ v. cond (eqb x v) (r v) f.origin) ≡ f.origin
  sum_none zero x r h = refl
  sum_none (suc n) x r h =
      ap₂ (λ s b. plus s (cond b (r n) f.origin)) (sum_none n x r (omega arith)) (ne_eqb x n (omega arith))
      ∙ linear.neutral f.origin linear.origin_inside

  sum_one : (n x : ℕ) (r : ℕ → A) → ((v : ℕ) → In (r v)) → x < n → sum_to f n (λ v. cond (eqb x v) (r v) f.origin) ≡ r x
  sum_one zero x r i h = absurd (omega arith)
  sum_one (suc n) x r i h = go (equal_or_below x n h) (sum_one n x r i)
    where
      go : (x ≡ n) ⊎ (x < n) → (x < n → sum_to f n (λ v. cond (eqb x v) (r v) f.origin) ≡ r x) → sum_to f (suc n) (λ v. cond (eqb x v) (r v) f.origin) ≡ r x
      go (inl e) k = ap₂ (λ s b. plus s (cond b (r n) f.origin)) (sum_none n x r (omega arith)) (eq-eqb x n e) ∙ left_neutral (r n) (i n) ∙ ap r (sym e)
      go (inr l) k = ap₂ (λ s b. plus s (cond b (r n) f.origin)) (k l) (ne_eqb x n (omega arith)) ∙ linear.neutral (r x) (i x)

  pub value : (r : ℕ → A) → ((v : ℕ) → In (r v)) → (n : ℕ) (t : Tree) → bound t ≤ n → meaning times r t ≡ plus (sum_to f n (λ v. coefficient f t v (r v))) (constant f t)
  value r i n (var x) h = sym (sum_one n x r i (omega arith)) ∙ sym (linear.neutral _ (sum_inside n _ (λ v. cond_cases In (eqb x v) (r v) f.origin (i v) linear.origin_inside)))
  value r i n (op s t) h =
      let is = meaning_inside inside times closed r i s in
      let it = meaning_inside inside times closed r i t in
      let cs : (v : ℕ) → In (coefficient f s v (r v)) = λ v. coefficient_inside s v (r v) (i v) in
      let ct : (v : ℕ) → In (coefficient f t v (r v)) = λ v. coefficient_inside t v (r v) (i v) in
      linear.operation _ _ is it
      ∙ ap₂ (combined f) (value r i n s (omega arith)) (value r i n t (omega arith))
      ∙ joined _ _ _ _ (sum_inside n _ cs) (constant_inside s) (sum_inside n _ ct) (constant_inside t)
      ∙ ap (λ x. plus x (constant f (op s t))) (sum_linear n _ _ cs ct)

  pub at_origin : (t : Tree) → meaning times (λ v. f.origin) t ≡ constant f t
  at_origin (var x) = refl
  at_origin (op s t) =
      let o : (v : ℕ) → In f.origin = λ v. linear.origin_inside in
      linear.operation _ _ (meaning_inside inside times closed (λ v. f.origin) o s) (meaning_inside inside times closed (λ v. f.origin) o t)
      ∙ ap₂ (combined f) (at_origin s) (at_origin t)

  pub at_one : (v : ℕ) (z : A) → In z → (t : Tree) → meaning times (only f v z) t ≡ plus (coefficient f t v z) (constant f t)
  at_one v z i (var x) = sym (linear.neutral _ (coefficient_inside (var x) v z i))
  at_one v z i (op s t) =
      let o = only_inside v z i in
      linear.operation _ _ (meaning_inside inside times closed (only f v z) o s) (meaning_inside inside times closed (only f v z) o t)
      ∙ ap₂ (combined f) (at_one v z i s) (at_one v z i t)
      ∙ joined _ _ _ _ (coefficient_inside s v z i) (constant_inside s) (coefficient_inside t v z i) (constant_inside t)

  coefficient_additive : (t : Tree) (v : ℕ) (y z : A) → In y → In z → coefficient f t v (plus y z) ≡ plus (coefficient f t v y) (coefficient f t v z)
  coefficient_additive (var x) v y z i j = go (eqb x v)
    where
      go : (b : Bool) → cond b (plus y z) f.origin ≡ plus (cond b y f.origin) (cond b z f.origin)
      go true = refl
      go false = sym (linear.neutral f.origin linear.origin_inside)
  coefficient_additive (op s t) v y z i j =
      let sy = coefficient_inside s v y i in
      let sz = coefficient_inside s v z j in
      let ty = coefficient_inside t v y i in
      let tz = coefficient_inside t v z j in
      ap₂ (λ a b. plus (f.on_left a) (f.on_right b)) (coefficient_additive s v y z i j) (coefficient_additive t v y z i j)
      ∙ ap₂ plus (linear.left_additive _ _ sy sz) (linear.right_additive _ _ ty tz)
      ∙ shuffled _ _ _ _ (linear.left_inside _ sy) (linear.left_inside _ sz) (linear.right_inside _ ty) (linear.right_inside _ tz)

  coefficient_origin : (t : Tree) (v : ℕ) → coefficient f t v f.origin ≡ f.origin
  coefficient_origin t v = origin_kept (coefficient f t v) (coefficient_inside t v) (coefficient_additive t v)

  module _ (generators : List A) (generate : Generate inside f generators) where
    spanned_inside : {z : A} → Spanned inside f generators z → In z
    spanned_inside is_origin = linear.origin_inside
    spanned_inside (is_generator x c) = generate.inside_too x c
    spanned_inside (is_sum x y s t) = linear.plus_inside x y (spanned_inside s) (spanned_inside t)
    spanned_inside (is_difference x y i s t) = i

    -- coefficients that are equal on generators are equal
    agree : (p q : Tree) (v : ℕ) → ((x : A) → Contains generators x → coefficient f p v x ≡ coefficient f q v x) → {z : A} → Spanned inside f generators z → coefficient f p v z ≡ coefficient f q v z
    agree p q v e is_origin = coefficient_origin p v ∙ sym (coefficient_origin q v)
    agree p q v e (is_generator x c) = e x c
    agree p q v e (is_sum x y s t) =
        let ix = spanned_inside s in
        let iy = spanned_inside t in
        coefficient_additive p v x y ix iy ∙ ap₂ plus (agree p q v e s) (agree p q v e t) ∙ sym (coefficient_additive q v x y ix iy)
    agree p q v e (is_difference x y i s t) =
        let iy = spanned_inside t in
        linear.cancelled _ _ _ (coefficient_inside p v x i) (coefficient_inside q v x i) (coefficient_inside p v y iy)
        (sym (coefficient_additive p v x y i iy) ∙ agree p q v e s ∙ coefficient_additive q v x y i iy ∙ ap (plus (coefficient f q v x)) (sym (agree p q v e t)))

    sum_agree : (n : ℕ) (g h : ℕ → A) → ((v : ℕ) → g v ≡ h v) → sum_to f n g ≡ sum_to f n h
    sum_agree zero g h e = refl
    sum_agree (suc n) g h e = ap₂ plus (sum_agree n g h e) (e n)

    pub one_form_holds : (p q : Tree) → HaveOneForm f generators p q → Holds inside times p q
    one_form_holds p q e r i =
        let n : ℕ = max (bound p) (bound q) in
        value r i n p (omega arith)
        ∙ ap₂ plus (sum_agree n _ _ (λ v. agree p q v (e.coefficients v) (generate.spanned (r v) (i v)))) e.constants
        ∙ sym (value r i n q (omega arith))

    pub holds_one_form : (p q : Tree) → Holds inside times p q → HaveOneForm f generators p q
    holds_one_form p q h =
        let constants : constant f p ≡ constant f q = sym (at_origin p) ∙ h (λ v. f.origin) (λ v. linear.origin_inside) ∙ at_origin q in
        record {
          constants = constants;
          coefficients = λ v x c.
              let i = generate.inside_too x c in
              linear.cancelled _ _ _ (coefficient_inside p v x i) (coefficient_inside q v x i) (constant_inside p)
              (sym (at_one v x i p) ∙ h (only f v x) (only_inside v x i) ∙ at_one v x i q ∙ ap (plus (coefficient f q v x)) (sym constants));
        }
