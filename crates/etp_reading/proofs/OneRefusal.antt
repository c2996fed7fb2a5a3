-- Lines are read in one way and have one refusal, and lines that are read have none.
use Rattle.std.proofs.Common.{◌≡◌, ℕ, ◌<◌, ◌≤◌, arith, Bool, true, ◌&&◌, List, [], ◌∷◌, ◌++◌, length, take, drop, All, refl, sym, ap, subst, ◌∙◌, inl, inr}
use Rattle.std.proofs.lemmas.List.{take-append-drop, length-take-le}
use Rattle.std.proofs.lemmas.List.Elements.{All-head, All-tail}
use Rattle.std.proofs.lemmas.Option.{none-some, same_Some}
use Rattle.std.proofs.lemmas.Bool.{true≢false}
use Rattle.etp_theory.specs.LawNumbers.{IsLaw}
use Rattle.etp_io.specs.Texts.{LineText, whole, too_long}
use Rattle.etp_reading.specs.Grammars.{Grammar, OneLine}
use Rattle.etp_reading.specs.Reading.{Reads, AreWhole, line_limit, AreListed, IsFirstUnlisted, HasNoPlace, IsBadLine, IsTooMany, IsUnfinished, AreRead, Refuses}
use Rattle.etp_reading.specs.declared.refusal.BodyRefusal.{BodyRefusal}
use Rattle.etp_reading.specs.declared.refusal.BodyRefusal.TheVariants.{BadLine, UnknownLaw, TooManyLines, Unfinished}

-- two ways to cut a list: the longer front has the shorter one and what stands behind it
cut_within : {A : Type 0} (a b c d : List A) (x : A) → a ++ x ∷ c ≡ b ++ d → length a < length b → (w : List A) × (b ≡ a ++ x ∷ w)
cut_within [] [] c d x e h = absurd (omega (arith, h))
cut_within [] (y ∷ b) c d x e h = let f : x ≡ y = cc in (b, ap (λ z. z ∷ b) (sym f))
cut_within (y ∷ a) [] c d x e h = absurd (omega (arith, h))
cut_within {A} (y ∷ a) (z ∷ b) c d x e h =
    let f : y ≡ z = cc in
    let rest : a ++ x ∷ c ≡ b ++ d = cc in
    let on = cut_within a b c d x rest (omega (arith, h)) in
    (on.0, ap (λ u. u ∷ b) (sym f) ∙ ap (λ u. y ∷ u) on.1)

-- two cuts at one length are one
cut_same : {A : Type 0} (a b c d : List A) (x y : A) → a ++ x ∷ c ≡ b ++ y ∷ d → length a ≡ length b → (a ≡ b) × (x ≡ y)
cut_same [] [] c d x y e h = let f : x ≡ y = cc in (refl, f)
cut_same [] (z ∷ b) c d x y e h = absurd (omega (arith, h))
cut_same (z ∷ a) [] c d x y e h = absurd (omega (arith, h))
cut_same (u ∷ a) (z ∷ b) c d x y e h =
    let f : u ≡ z = cc in
    let rest : a ++ x ∷ c ≡ b ++ y ∷ d = cc in
    let on = cut_same a b c d x y rest (omega (arith, h)) in
    (ap (λ v. v ∷ a) f ∙ ap (λ v. z ∷ v) on.0, on.1)

least : (j k : ℕ) → (j < k → ⊥) → (k < j → ⊥) → j ≡ k
least j k a b = omega arith

number_there : (count : ℕ) (known more : List ℕ) (n : ℕ) → All (IsLaw count) (known ++ n ∷ more) → IsLaw count n
number_there count [] more n h = All-head (IsLaw count) n more h
number_there count (k ∷ known) more n h = number_there count known more n (All-tail (IsLaw count) k (known ++ n ∷ more) h)

-- the first number that isn't listed is one
later_number : (count : ℕ) (a b c d : List ℕ) (m n : ℕ) → a ++ m ∷ c ≡ b ++ n ∷ d → All (IsLaw count) b → (IsLaw count m → ⊥) → length a < length b → ⊥
later_number count a b c d m n e listed unlisted h =
    let on = cut_within a b c (n ∷ d) m e h in
    unlisted (number_there count a on.0 m (subst (All (IsLaw count)) on.1 listed))

whole_same : (a b : List ℕ) → whole a ≡ whole b → a ≡ b
whole_same a b e = cc

module _ (g : Grammar) (one : OneLine g) where
  -- what lines say, and where they lead, is one
  pub one_reading : (p : g.Place) (xs : List LineText) (s t : List g.Line) (q r : g.Place) → Reads g p xs s q → Reads g p xs t r → (s ≡ t) × (q ≡ r)
  one_reading p [] s t q r h k = (h.0 ∙ sym k.0, h.1 ∙ sym k.1)
  one_reading p (too_long ∷ xs) s t q r h k = absurd h
  one_reading p (whole line ∷ xs) s t q r (inl h) (inl k) = one_reading p xs s t q r h.1 k.1
  one_reading p (whole line ∷ xs) s t q r (inl h) (inr (said, next, more, says, a, k, e)) = absurd (one.blank_line line said h.0 says)
  one_reading p (whole line ∷ xs) s t q r (inr (said, next, more, says, a, h, e)) (inl k) = absurd (one.blank_line line said k.0 says)
  one_reading p (whole line ∷ xs) s t q r (inr (said, next, more, says, a, h, e)) (inr (other, then, rest, also, b, k, f)) =
      let same : said ≡ other = one.one_line line said other says also in
      let there : next ≡ then = same_Some next then (sym a ∙ ap (g.after p) same ∙ b) in
      let on = one_reading then xs more rest q r (subst (λ (z : g.Place). Reads g z xs more q) there h) k in
      (e ∙ ap (λ z. z ∷ more) same ∙ ap (λ z. other ∷ z) on.0 ∙ sym f, on.1)

  -- lines that are read are read up to each of them
  pub record Split (p q : g.Place) (xs ys : List LineText) (saids : List g.Line) : Type 0 where
    pub before : List g.Line
    pub behind : List g.Line
    pub come : g.Place
    pub first : Reads g p xs before come
    pub second : Reads g come ys behind q
    pub whole : saids ≡ before ++ behind

  reads_split : (p q : g.Place) (xs ys : List LineText) (saids : List g.Line) → Reads g p (xs ++ ys) saids q → Split p q xs ys saids
  reads_split p q [] ys saids h = record { before = []; behind = saids; come = p; first = (refl, refl); second = h; whole = refl }
  reads_split p q (too_long ∷ xs) ys saids h = absurd h
  reads_split p q (whole line ∷ xs) ys saids (inl h) =
      let on = reads_split p q xs ys saids h.1 in
      record { before = on.before; behind = on.behind; come = on.come; first = inl (h.0, on.first); second = on.second; whole = on.whole }
  reads_split p q (whole line ∷ xs) ys saids (inr (said, next, more, says, a, h, e)) =
      let on = reads_split next q xs ys more h in
      record {
        before = said ∷ on.before;
        behind = on.behind;
        come = on.come;
        first = inr (said, next, on.before, says, a, on.first, refl);
        second = on.second;
        whole = e ∙ ap (λ z. said ∷ z) on.whole;
      }

  not_read : (p q : g.Place) (line : LineText) (xs : List LineText) (saids : List g.Line) → HasNoPlace g p line → Reads g p (line ∷ xs) saids q → ⊥
  not_read p q too_long xs saids bad h = h
  not_read p q (whole line) xs saids bad (inl h) = bad.0 h.0
  not_read p q (whole line) xs saids bad (inr (said, next, more, says, a, h, e)) = none-some next (sym (sym a ∙ bad.1 said says))

  -- lines with a bad one among them aren't read
  bad_among : (before xs : List LineText) (line : LineText) (s t : List g.Line) (come q : g.Place) → Reads g g.opening before s come → HasNoPlace g come line → Reads g g.opening (before ++ line ∷ xs) t q → ⊥
  bad_among before xs line s t come q h bad k =
      let on = reads_split g.opening q before (line ∷ xs) t k in
      let same = one_reading g.opening before on.before s on.come come on.first h in
      not_read come q line xs on.behind bad (subst (λ (z : g.Place). Reads g z (line ∷ xs) on.behind q) same.1 on.second)

  bad_reads : (lines : List LineText) (k : ℕ) (t : List g.Line) (q : g.Place) → IsBadLine g lines k → Reads g g.opening lines t q → ⊥
  bad_reads lines k t q b h = bad_among b.before b.behind b.line b.saids t b.come q b.reads b.bad (subst (λ (z : List LineText). Reads g g.opening z t q) b.whole h)

  -- nor are those up to a place behind it
  bad_front : (lines front rest : List LineText) (k : ℕ) (t : List g.Line) (q : g.Place) → IsBadLine g lines k → lines ≡ front ++ rest → k ≤ length front → Reads g g.opening front t q → ⊥
  bad_front lines front rest k t q b e h r =
      let on = cut_within b.before front b.behind rest b.line (sym b.whole ∙ e) (omega (arith, b.place, h)) in
      bad_among b.before on.0 b.line b.saids t b.come q b.reads b.bad (subst (λ (z : List LineText). Reads g g.opening z t q) on.1 r)

  one_bad : (lines : List LineText) (j k : ℕ) → IsBadLine g lines j → IsBadLine g lines k → (j < k) → ⊥
  one_bad lines j k b c h = bad_front lines c.before (c.line ∷ c.behind) j c.saids c.come b c.whole (omega (arith, c.place, h)) c.reads

  bad_many : (lines : List LineText) (j k : ℕ) → IsBadLine g lines j → IsTooMany g lines k → ⊥
  bad_many lines j k b m =
      bad_front lines (take line_limit lines) (drop line_limit lines) j m.saids m.come b (sym (take-append-drop line_limit lines))
      (omega (arith, b.few, length-take-le line_limit lines (omega (arith, m.many)))) m.reads

  -- the numbers of a line that is listed
  listed_there : (count : ℕ) (before behind : List g.Line) (said : g.Line) → AreListed g count (before ++ said ∷ behind) → All (IsLaw count) (g.numbers_of said)
  listed_there count [] behind said h = All-head (λ l. All (IsLaw count) (g.numbers_of l)) said behind h
  listed_there count (l ∷ before) behind said h = listed_there count before behind said (All-tail (λ l. All (IsLaw count) (g.numbers_of l)) l (before ++ said ∷ behind) h)

  read_there : (p q : g.Place) (line : List ℕ) (xs : List LineText) (said : g.Line) (saids : List g.Line) → g.Says line said → Reads g p (whole line ∷ xs) saids q → (more : List g.Line) × (saids ≡ said ∷ more)
  read_there p q line xs said saids says (inl h) = absurd (one.blank_line line said h.0 says)
  read_there p q line xs said saids says (inr (other, next, more, also, a, h, e)) = (more, e ∙ ap (λ z. z ∷ more) (one.one_line line other said also says))

  -- lines whose numbers are listed have no number among them that isn't
  listed_among : (count : ℕ) (before xs : List LineText) (line : List ℕ) (said : g.Line) (known more : List ℕ) (n : ℕ) (t : List g.Line) (q : g.Place) → g.Says line said → g.numbers_of said ≡ known ++ n ∷ more → (IsLaw count n → ⊥)
      → Reads g g.opening (before ++ whole line ∷ xs) t q → AreListed g count t → ⊥
  listed_among count before xs line said known more n t q says e unlisted h listed =
      let on = reads_split g.opening q before (whole line ∷ xs) t h in
      let there = read_there on.come q line xs said on.behind says on.second in
      let whole : t ≡ on.before ++ said ∷ there.0 = on.whole ∙ ap (λ z. on.before ++ z) there.1 in
      unlisted (number_there count known more n (subst (All (IsLaw count)) e (listed_there count on.before there.0 said (subst (AreListed g count) whole listed))))

  later_line : (count : ℕ) (lines : List LineText) (j k m n : ℕ) → IsFirstUnlisted g count lines j m → IsFirstUnlisted g count lines k n → j < k → ⊥
  later_line count lines j k m n f o h =
      let on = cut_within f.before o.before f.behind (whole o.line ∷ o.behind) (whole f.line) (sym f.whole ∙ o.whole) (omega (arith, f.there, o.there, h)) in
      listed_among count f.before on.0 f.line f.said f.known f.more m o.saids o.come f.says f.numbers f.unlisted
      (subst (λ (z : List LineText). Reads g g.opening z o.saids o.come) on.1 o.reads) o.listed

  first_number : (count : ℕ) (lines : List LineText) (k m n : ℕ) → IsFirstUnlisted g count lines k m → IsFirstUnlisted g count lines k n → m ≡ n
  first_number count lines k m n f o =
      let cut = cut_same f.before o.before f.behind o.behind (whole f.line) (whole o.line) (sym f.whole ∙ o.whole) (omega (arith, f.there, o.there)) in
      let line : f.line ≡ o.line = whole_same f.line o.line cut.1 in
      let said : f.said ≡ o.said = one.one_line o.line f.said o.said (subst (λ z. g.Says z f.said) line f.says) o.says in
      let numbers : f.known ++ m ∷ f.more ≡ o.known ++ n ∷ o.more = sym f.numbers ∙ ap g.numbers_of said ∙ o.numbers in
      let long : length f.known ≡ length o.known =
      least (length f.known) (length o.known) (later_number count f.known o.known f.more o.more m n numbers o.known_listed f.unlisted) (later_number count o.known f.known o.more f.more n m (sym numbers) f.known_listed o.unlisted) in
      (cut_same f.known o.known f.more o.more m n numbers long).1

  one_unlisted : (count : ℕ) (lines : List LineText) (j k m n : ℕ) → IsFirstUnlisted g count lines j m → IsFirstUnlisted g count lines k n → UnknownLaw j m ≡ UnknownLaw k n
  one_unlisted count lines j k m n f o =
      let place : j ≡ k = least j k (later_line count lines j k m n f o) (later_line count lines k j n m o f) in
      let number : m ≡ n = first_number count lines k m n (subst (λ z. IsFirstUnlisted g count lines z m) place f) o in
      ap (λ z. UnknownLaw z m) place ∙ ap (UnknownLaw k) number

  bad_whole : (lines : List LineText) (saids : List g.Line) (k : ℕ) → AreWhole g lines saids → IsBadLine g lines k → ⊥
  bad_whole lines saids k h bad = bad_reads lines k saids h.come bad h.reads

  open_whole : (lines : List LineText) (saids : List g.Line) (closed : Bool) (k : ℕ) → AreWhole g lines saids → closed ≡ true → IsUnfinished g lines closed k → ⊥
  open_whole lines saids closed k h c u =
      let same = one_reading g.opening lines u.saids saids u.come h.come u.reads h.reads in
      true≢false (sym (ap (λ z. z && g.is_complete u.come) c ∙ ap g.is_complete same.1 ∙ h.complete) ∙ u.open_end)

  -- lines that are listed have no first number that isn't
  pub none_unlisted : (count : ℕ) (lines : List LineText) (saids : List g.Line) (come : g.Place) (k n : ℕ) → Reads g g.opening lines saids come → AreListed g count saids → IsFirstUnlisted g count lines k n → ⊥
  none_unlisted count lines saids come k n h listed f =
      listed_among count f.before f.behind f.line f.said f.known f.more n saids come f.says f.numbers f.unlisted
      (subst (λ (z : List LineText). Reads g g.opening z saids come) f.whole h) listed

  pub read_or_refused : (count : ℕ) (lines : List LineText) (closed : Bool) (saids : List g.Line) (r : BodyRefusal) → AreRead g count lines closed saids → Refuses g count lines closed r → ⊥
  read_or_refused count lines closed saids (BadLine k) h r = bad_whole lines saids k h.are_whole r
  read_or_refused count lines closed saids (UnknownLaw k n) h r = none_unlisted count lines saids h.are_whole.come k n h.are_whole.reads h.listed r.first
  read_or_refused count lines closed saids (TooManyLines k) h r = omega (arith, h.few, r.many)
  read_or_refused count lines closed saids (Unfinished k) h r = open_whole lines saids closed k h.are_whole h.is_closed r

  pub one_refusal : (count : ℕ) (lines : List LineText) (closed : Bool) (r s : BodyRefusal) → Refuses g count lines closed r → Refuses g count lines closed s → r ≡ s
  one_refusal count lines closed (BadLine j) (BadLine k) r s = ap BadLine (least j k (one_bad lines j k r s) (one_bad lines k j s r))
  one_refusal count lines closed (BadLine j) (UnknownLaw k n) r s = absurd (bad_whole lines s.saids j s.are_whole r)
  one_refusal count lines closed (BadLine j) (TooManyLines k) r s = absurd (bad_many lines j k r s)
  one_refusal count lines closed (BadLine j) (Unfinished k) r s = absurd (bad_reads lines j s.saids s.come r s.reads)
  one_refusal count lines closed (UnknownLaw j m) (BadLine k) r s = absurd (bad_whole lines r.saids k r.are_whole s)
  one_refusal count lines closed (UnknownLaw j m) (UnknownLaw k n) r s = one_unlisted count lines j k m n r.first s.first
  one_refusal count lines closed (UnknownLaw j m) (TooManyLines k) r s = absurd (omega (arith, r.few, s.many))
  one_refusal count lines closed (UnknownLaw j m) (Unfinished k) r s = absurd (open_whole lines r.saids closed k r.are_whole r.is_closed s)
  one_refusal count lines closed (TooManyLines j) (BadLine k) r s = absurd (bad_many lines k j s r)
  one_refusal count lines closed (TooManyLines j) (UnknownLaw k n) r s = absurd (omega (arith, s.few, r.many))
  one_refusal count lines closed (TooManyLines j) (TooManyLines k) r s = ap TooManyLines (r.next ∙ sym s.next)
  one_refusal count lines closed (TooManyLines j) (Unfinished k) r s = absurd (omega (arith, s.few, r.many))
  one_refusal count lines closed (Unfinished j) (BadLine k) r s = absurd (bad_reads lines k r.saids r.come s r.reads)
  one_refusal count lines closed (Unfinished j) (UnknownLaw k n) r s = absurd (open_whole lines s.saids closed j s.are_whole s.is_closed r)
  one_refusal count lines closed (Unfinished j) (TooManyLines k) r s = absurd (omega (arith, r.few, s.many))
  one_refusal count lines closed (Unfinished j) (Unfinished k) r s = ap Unfinished (r.next ∙ sym s.next)
