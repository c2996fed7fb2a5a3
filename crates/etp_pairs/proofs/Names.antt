-- Numbers given to the variables of two terms, as they come.
use Rattle.std.proofs.Common.{◌≡◌, ℕ, ◌+◌, ◌<◌, ◌≤◌, max, ◌⊎◌, inl, inr, Bool, true, false, ◌||◌, eqb, map, length, Option, Some, None, refl, sym, ap, ◌∙◌, subst, arith, eq-eqb}
use Rattle.std.specs.Borrow.{Bor}
use Rattle.std.specs.List.{list_any}
use Rattle.std.specs.Option.{option_map, option_copied, is_some}
use Rattle.std.proofs.lemmas.List.{map-append, length-map}
use Rattle.std.proofs.lemmas.List.Folds.{list_any-append}
use Rattle.std.proofs.lemmas.Map.Steps.{le-length_from_below}
use Rattle.etp_theory.specs.Trees.{Tree, var, op, Occurs, bound, leaves, word_of, renamed}
use Rattle.etp_theory.specs.Substitutions.{apply, Partial, total, value_or}
use Rattle.etp_theory.specs.FailingOverlaps.{KeepsApart}
use Rattle.etp_theory.proofs.Theorems.{term_theorems}
use Rattle.etp_theory.proofs.Matching.{apply_agree}
use Rattle.etp_theory.proofs.Sameness.{renamed_applied}
use Rattle.etp_term.specs.Terms.{tree_of}
use Rattle.etp_term.specs.declared.term.Term.{Term}
use Rattle.etp_match.specs.Matching.{IsExtendedTo}
use Rattle.etp_pairs.specs.Numbering.{GoesOn, AreNames, HasRoom, AreNoted, HaveFewVariables, AreNumbered}

-- whether a value was found

pub some_value : (r : Option (Bor Term)) (o : Option Tree) → option_map tree_of (option_copied r) ≡ o → is_some r ≡ true → (u : Tree) × (o ≡ Some u)
some_value None o h k = absurd (cc)
some_value (Some b) o h k = (tree_of b.now, sym h)

pub none_value : (r : Option (Bor Term)) (o : Option Tree) → option_map tree_of (option_copied r) ≡ o → is_some r ≡ false → o ≡ None
none_value None o h k = sym h
none_value (Some b) o h k = absurd (cc)

-- numbers that a term's variables have are no more than its leaves

or_true : (b : Bool) → b || true ≡ true
or_true true = refl
or_true false = refl

module _ (g : ℕ → ℕ) where
  any_word : (q v : ℕ) (t : Tree) → Occurs v t → g v ≡ q → list_any (eqb q) (map g (word_of t)) ≡ true
  any_word q v (var x) o e = ap (λ b. b || false) (eq-eqb q (g x) (sym e ∙ ap g (sym o)))
  any_word q v (op a b) (inl o) e =
      ap (list_any (eqb q)) (map-append g (word_of a) (word_of b))
      ∙ list_any-append (eqb q) (map g (word_of a)) (map g (word_of b))
      ∙ ap (λ x. x || list_any (eqb q) (map g (word_of b))) (any_word q v a o e)
  any_word q v (op a b) (inr o) e =
      ap (list_any (eqb q)) (map-append g (word_of a) (word_of b))
      ∙ list_any-append (eqb q) (map g (word_of a)) (map g (word_of b))
      ∙ ap (λ x. list_any (eqb q) (map g (word_of a)) || x) (any_word q v b o e)
      ∙ or_true (list_any (eqb q) (map g (word_of a)))

  at_most : (n : ℕ) (t : Tree) → ((q : ℕ) → q < n → (v : ℕ) × Occurs v t × (g v ≡ q)) → n ≤ leaves t
  at_most n t h =
      let k : n ≤ length (map g (word_of t)) = le-length_from_below (map g (word_of t)) n (λ q l. let x = h q l in any_word q x.0 t x.1 x.2) in
      omega (arith, k, length-map (word_of t) g, term_theorems.word_length t)

-- the number of a variable, or another one where it has none
abbrev number_or : ℕ → Option Tree → ℕ
number_or d None = d
number_or d (Some (var k)) = k
number_or d (Some (op a b)) = d

lt_or_eq : (q n : ℕ) → q < n + 1 → (q < n) ⊎ (q ≡ n)
lt_or_eq q n h = grind arith

-- one more number is at most the last of the leaves
pub room_left : (m : Partial) (count v : ℕ) (t : Tree) → AreNames m count → HasRoom m t → t ≡ var v → m.value v ≡ None → count + 1 ≤ 64
room_left m count v t names room is free =
    let k : count + 1 ≤ leaves room.whole = at_most (λ w. number_or count (m.value w)) (count + 1) room.whole (λ q h. which q (lt_or_eq q count h)) in
    omega (arith, k, room.few)
  where
    which : (q : ℕ) → (q < count) ⊎ (q ≡ count) → (w : ℕ) × Occurs w room.whole × (number_or count (m.value w) ≡ q)
    which q (inl h) = let r = names.all q h in (r.0, room.named r.0 (var q) r.1, ap (number_or count) r.1)
    which q (inr h) = (v, room.occurring v (subst (Occurs v) (sym is) refl), ap (number_or count) free ∙ sym h)

-- a variable that has a number
pub noted_before : (m : Partial) (count v : ℕ) (t u : Tree) → AreNames m count → t ≡ var v → m.value v ≡ Some u → AreNoted t m m count count
noted_before m count v t u names is has =
    let r = names.number v u has in
    let e : total m v ≡ var r.0 = ap (λ z. value_or z (var v)) has ∙ r.2 in
    let few : r.0 < count = r.1 in
    subst (λ z. AreNoted z m m count count) (sym is) (record {
      names = names;
      kept = λ w x h. h;
      given = λ w o. (u, subst (λ x. m.value x ≡ Some u) o has);
      others = λ w x h. inl h;
      in_order = subst (GoesOn count) (sym e) (omega (arith, few));
      count = subst (λ z. count ≡ max count (bound z)) (sym e) (omega (arith, few));
    })

-- a variable that gets the next number
pub noted_now : (e l : Partial) (count v : ℕ) (t : Tree) → AreNames e count → t ≡ var v → e.value v ≡ None → IsExtendedTo (var v) (var count) e l → AreNoted t e l count (count + 1)
noted_now e l count v t names is free x =
    subst (λ z. AreNoted z e l count (count + 1)) (sym is) (record {
      names = record {
        number = λ w u h. number w u h (same_or_not w v);
        one = λ w y u h k. one w y u h k (same_or_not w v) (same_or_not y v);
        all = λ k h. all k (lt_or_eq k count h);
      };
      kept = x.kept;
      given = x.given;
      others = λ w u h. which w u h (same_or_not w v);
      in_order = subst (GoesOn count) (sym at) (omega arith);
      count = subst (λ z. count + 1 ≡ max count (bound z)) (sym at) (omega arith);
    })
  where
    at : total l v ≡ var count
    at = x.matched

    same_or_not : (i j : ℕ) → (i ≡ j) ⊎ (i ≡ j → ⊥)
    same_or_not i j = grind arith

    here : l.value v ≡ Some (var count)
    here = let g = x.given v refl in g.1 ∙ ap Some (sym (ap (λ z. value_or z (var v)) g.1) ∙ at)

    elsewhere : (w : ℕ) → (w ≡ v → ⊥) → l.value w ≡ e.value w
    elsewhere w n = x.others w (λ o. n (sym o))

    is_new : (w : ℕ) (u : Tree) → l.value w ≡ Some u → w ≡ v → u ≡ var count
    is_new w u h q = let f : Some u ≡ Some (var count) = sym h ∙ ap l.value q ∙ here in cc

    was_there : (w : ℕ) (u : Tree) → l.value w ≡ Some u → (w ≡ v → ⊥) → e.value w ≡ Some u
    was_there w u h n = sym (elsewhere w n) ∙ h

    number : (w : ℕ) (u : Tree) → l.value w ≡ Some u → (w ≡ v) ⊎ (w ≡ v → ⊥) → (k : ℕ) × (k < count + 1) × (u ≡ var k)
    number w u h (inl q) = (count, omega arith, is_new w u h q)
    number w u h (inr n) = let r = names.number w u (was_there w u h n) in let few : r.0 < count = r.1 in (r.0, omega (arith, few), r.2)

    apart : (w : ℕ) (u : Tree) → e.value w ≡ Some u → u ≡ var count → ⊥
    apart w u h q =
        let r = names.number w u h in
        let few : r.0 < count = r.1 in
        let f : var r.0 ≡ var count = sym r.2 ∙ q in
        let g : r.0 ≡ count = cc in
        omega (arith, few, g)

    one : (w y : ℕ) (u : Tree) → l.value w ≡ Some u → l.value y ≡ Some u → (w ≡ v) ⊎ (w ≡ v → ⊥) → (y ≡ v) ⊎ (y ≡ v → ⊥) → w ≡ y
    one w y u h k (inl p) (inl q) = p ∙ sym q
    one w y u h k (inl p) (inr q) = absurd (apart y u (was_there y u k q) (is_new w u h p))
    one w y u h k (inr p) (inl q) = absurd (apart w u (was_there w u h p) (is_new y u k q))
    one w y u h k (inr p) (inr q) = names.one w y u (was_there w u h p) (was_there y u k q)

    all : (k : ℕ) → (k < count) ⊎ (k ≡ count) → (w : ℕ) × (l.value w ≡ Some (var k))
    all k (inl h) = let r = names.all k h in (r.0, x.kept r.0 (var k) r.1)
    all k (inr h) = (v, here ∙ ap (λ n. Some (var n)) (sym h))

    which : (w : ℕ) (u : Tree) → l.value w ≡ Some u → (w ≡ v) ⊎ (w ≡ v → ⊥) → (e.value w ≡ Some u) ⊎ Occurs w (var v)
    which w u h (inl q) = inr (sym q)
    which w u h (inr n) = inl (was_there w u h n)

-- the left part has room where the whole has, and then the right part
pub room_on_left : (m : Partial) (t a b : Tree) → t ≡ op a b → HasRoom m t → HasRoom m a
room_on_left m t a b is room = record {
  whole = room.whole;
  few = room.few;
  named = room.named;
  occurring = λ v o. room.occurring v (subst (Occurs v) (sym is) (inl o));
}

pub room_on_right : (e m : Partial) (t a b : Tree) (before after : ℕ) → t ≡ op a b → HasRoom e t → AreNoted a e m before after → HasRoom m b
room_on_right e m t a b before after is room noted = record {
  whole = room.whole;
  few = room.few;
  named = λ v u h. elim (noted.others v u h) [ inl k ↦ room.named v u k | inr o ↦ room.occurring v (subst (Occurs v) (sym is) (inl o)) ];
  occurring = λ v o. room.occurring v (subst (Occurs v) (sym is) (inr o));
}

-- later numbers change nothing in what has all of its own
still : (e m l : Partial) (a b : Tree) (i j k : ℕ) → AreNoted a e m i j → AreNoted b m l j k → apply (total m) a ≡ apply (total l) a
still e m l a b i j k x y = apply_agree (total m) (total l) a (λ v o. let g = x.given v o in ap (λ z. value_or z (var v)) (g.1 ∙ sym (y.kept v g.0 g.1)))

pub noted_both : (e m l : Partial) (t a b : Tree) (i j k : ℕ) → t ≡ op a b → AreNoted a e m i j → AreNoted b m l j k → AreNoted t e l i k
noted_both e m l t a b i j k is x y =
    let s = still e m l a b i j k x y in
    let middle : j ≡ max i (bound (apply (total l) a)) = x.count ∙ ap (λ z. max i (bound z)) s in
    subst (λ z. AreNoted z e l i k) (sym is) (record {
      names = y.names;
      kept = λ v u h. y.kept v u (x.kept v u h);
      given = λ v o. elim o [ inl p ↦ let g = x.given v p in (g.0, y.kept v g.0 g.1) | inr p ↦ y.given v p ];
      others = λ v u h. elim (y.others v u h) [ inl p ↦ elim (x.others v u p) [ inl q ↦ inl q | inr q ↦ inr (inl q) ] | inr p ↦ inr (inr p) ];
      in_order = (subst (GoesOn i) s x.in_order, subst (λ n. GoesOn n (apply (total l) b)) middle y.in_order);
      count = y.count ∙ ap (λ n. max n (bound (apply (total l) b))) middle ∙ omega arith;
    })

-- both terms with their variables renamed

pub room_at_second : (e m : Partial) (s t : Tree) (i j : ℕ) → ((v : ℕ) → e.value v ≡ None) → HaveFewVariables s t → AreNoted s e m i j → HasRoom m t
room_at_second e m s t i j h few noted = record {
  whole = few.whole;
  few = few.few;
  named = λ v u k. elim (noted.others v u k) [ inl p ↦ absurd (let f : None ≡ Some u = sym (h v) ∙ p in cc) | inr o ↦ few.first v o ];
  occurring = few.second;
}

module _ (e m l : Partial) (s t : Tree) (j k : ℕ) (none : (v : ℕ) → e.value v ≡ None) (few : HaveFewVariables s t) (x : AreNoted s e m 0 j) (y : AreNoted t m l j k) where
  new : ℕ → ℕ
  new v = number_or v (l.value v)

  is_renaming : (v : ℕ) → total l v ≡ var (new v)
  unfolding new
  is_renaming v = go (l.value v) refl
    where
      go : (o : Option Tree) → l.value v ≡ o → value_or o (var v) ≡ var (number_or v o)
      go None h = refl
      go (Some (var n)) h = refl
      go (Some (op a b)) h = absurd (let r = y.names.number v (op a b) h in let f : op a b ≡ var r.0 = r.2 in cc)

  renames : (u : Tree) → apply (total l) u ≡ renamed new u
  renames u = apply_agree (total l) (λ v. var (new v)) u (λ v o. is_renaming v) ∙ sym (renamed_applied new u)

  has_number : (v : ℕ) → Occurs v s ⊎ Occurs v t → (u : Tree) × (l.value v ≡ Some u)
  has_number v (inl o) = let g = x.given v o in (g.0, y.kept v g.0 g.1)
  has_number v (inr o) = y.given v o

  apart : KeepsApart new s t
  apart v w o p q =
      let g = has_number v o in
      let h = has_number w p in
      let f : g.0 ≡ h.0 = sym (ap (λ z. value_or z (var v)) g.1) ∙ is_renaming v ∙ ap var q ∙ sym (is_renaming w) ∙ ap (λ z. value_or z (var w)) h.1 in
      y.names.one v w g.0 g.1 (h.1 ∙ ap Some (sym f))

  inside : (v : ℕ) (u : Tree) → l.value v ≡ Some u → Occurs v few.whole
  inside v u h = elim (y.others v u h) [
    | inl p ↦ elim (x.others v u p) [ inl q ↦ absurd (let f : None ≡ Some u = sym (none v) ∙ q in cc) | inr o ↦ few.first v o ]
    | inr o ↦ few.second v o
  ]

  small : k ≤ 64
  small =
      let n : k ≤ leaves few.whole = at_most (λ w. number_or k (l.value w)) k few.whole (λ q h. let r = y.names.all q h in (r.0, inside r.0 (var q) r.1, ap (number_or k) r.1)) in
      omega (arith, n, few.few)

  pub are_numbered : (s' t' : Tree) → s' ≡ apply (total l) s → t' ≡ apply (total l) t → AreNumbered s t s' t'
  are_numbered s' t' h g =
      let same = still e m l s t 0 j k x y in
      let first : j ≡ bound s' = omega (arith, x.count, ap bound (same ∙ sym h)) in
      let last : k ≡ max j (bound t') = y.count ∙ ap (λ z. max j (bound z)) (sym g) in
      record {
        by = new;
        apart = apart;
        left = h ∙ renames s;
        right = g ∙ renames t;
        numbered = record {
          first = subst (GoesOn 0) (same ∙ sym h) x.in_order;
          second = subst (GoesOn (bound s')) (sym g) (subst (λ n. GoesOn n (apply (total l) t)) first y.in_order);
        };
        left_small = omega (arith, small, first, last);
        right_small = omega (arith, small, last);
      }
