-- A magma and its claims with one line more.
use Rattle.std.proofs.Common.{◌≡◌, ℕ, ◌+◌, ◌<◌, ◌&&◌, not, arith, Bool, true, false, List, [], ◌∷◌, ◌++◌, length, map, nat_eq, nat_le, nat_lt, refl, sym, ap, subst, ◌∙◌, Option, Some, None, IfOk, OnErr, Result, Ok, Err, append_assoc, append-nil, length-append}
use Rattle.std.specs.Option.{option_map, is_some}
use Rattle.std.specs.List.{concat}
use Rattle.std.proofs.lemmas.Bool.{le-leb, lt-ltb, eq-eqb}
use Rattle.std.proofs.lemmas.List.Folds.{concat-append}
use Rattle.std.proofs.lemmas.List.Elements.{All-push}
use Rattle.etp_lines.specs.TableLines.{TableLine, table, row, after_in_table}
use Rattle.etp_lines.specs.Claims.{ClaimLine, holds, fails, ClaimPlace, failing, first_claim, after_claim}
use Rattle.etp_lines.specs.BodyLines as Lines
use Rattle.etp_lines.specs.BodyLines.{Line, of_proofs, of_tables, of_linear, of_matrices, of_rules, of_claims, Head, opened_head, next_head, BeginsNoProof, Place, opening, in_head, in_claims, table_line, rules_line, claim_line, after_opening, after_head, after, is_told, is_complete}
use Rattle.etp_items.specs.Bodies.{model, claims_of}
use Rattle.etp_items.specs.Reading.{SaysModel}
use Rattle.etp_items.specs.Work.{HasRows, OpensTable, rows_place, TakesRow, matrix_said, claim_at, TakesInTable, HasHead, OpensHead, TakesInHead, is_told_by, told_by, claim_place, OpensClaims, TakesInClaims, HasModel, HasCome, Takes, IsWhole}
use Rattle.etp_items.specs.declared.table.work.TableWork.{TableWork}
use Rattle.etp_items.specs.declared.claims.work.ClaimsWork.{ClaimsWork}
use Rattle.etp_lines.specs.declared.linear.LinearLine.{LinearLine}
use Rattle.etp_items.specs.declared.magma.MagmaWork.{MagmaWork}
use Rattle.etp_items.specs.declared.magma.MagmaWork.TheVariants.{Table, Linear, Matrix, Rules}
use Rattle.etp_items.specs.declared.model.ModelWork.{ModelWork}
use Rattle.etp_items.specs.declared.work.Work.{Work}
use Rattle.etp_items.specs.declared.work.Work.TheVariants.{Opening, Model}
use Rattle.etp_items.proofs.MatrixLemmas.{matrix_says}
use Rattle.etp_items.proofs.RulesLemmas.{rules_say}

map_end : {A B : Type 0} (f : A → B) (xs : List A) (x : A) → map f (xs ++ x ∷ []) ≡ map f xs ++ f x ∷ []
map_end f [] x = refl
map_end f (y ∷ ys) x = ap (λ zs. f y ∷ zs) (map_end f ys x)

both : (a b : Bool) → a ≡ true → b ≡ true → (a && b) ≡ true
both a b h k = rw (h, k) refl

concat_end : (xss : List (List ℕ)) (xs : List ℕ) → concat (xss ++ xs ∷ []) ≡ concat xss ++ xs
concat_end xss xs = concat-append xss (xs ∷ []) ∙ ap (λ z. concat xss ++ z) (append-nil xs)

-- a row more
pub row_taken : (old new : TableWork) (said : TableLine) (entries : List ℕ) (rows : List (List ℕ)) → HasRows old rows → said ≡ row entries
    → old.rows < old.size → length entries ≡ old.size → new.size ≡ old.size → new.rows ≡ old.rows + 1 → new.entries ≡ old.entries ++ entries → TakesRow old new said rows
row_taken old new said entries rows h e few long size count grown =
    let n : length (rows ++ entries ∷ []) ≡ length rows + 1 = length-append rows (entries ∷ []) in
    let c : old.rows ≡ length rows = h.count_is in
    let lt : nat_lt (length rows) old.size ≡ true = lt-ltb (length rows) old.size (omega arith) in
    let eq : nat_eq (length entries) old.size ≡ true = eq-eqb (length entries) old.size long in
    record {
      entries = entries;
      said_is = e;
      size_is = size;
      stands = ap (after_in_table (rows_place old rows)) e ∙ rw (lt, eq, n, size) refl;
      now = record {
        some = rw size h.some;
        count_is = omega (arith, count);
        few = omega (arith, size);
        each = rw size (All-push (λ r. length r ≡ old.size) rows entries h.each long);
        entries_are = grown ∙ ap (λ z. z ++ entries) h.entries_are ∙ sym (concat_end rows entries);
      };
    }

-- claims open
pub claims_opened : (w : ClaimsWork) (said : ClaimLine) (numbers : List ℕ) → said ≡ holds numbers → w.failing ≡ false → w.claims.holds ≡ numbers → w.claims.fails ≡ []
    → OpensClaims said (Some w)
claims_opened w said numbers e none f g = (
  ap first_claim e ∙ rw none refl,
  record {
    says = record {
      held = numbers ∷ [];
      failed = [];
      whole = ap (λ z. z ∷ []) e;
      holds_are = f ∙ sym (append-nil numbers);
      fails_are = g;
    };
    stage = λ s. refl;
  },
)

-- a line of laws that are to hold
pub holds_taken : (old new : ClaimsWork) (said : ClaimLine) (numbers : List ℕ) → said ≡ holds numbers → old.failing ≡ false → new.failing ≡ old.failing
    → new.claims.holds ≡ old.claims.holds ++ numbers → new.claims.fails ≡ old.claims.fails → TakesInClaims old said new true
holds_taken old new said numbers e none kept f g = (
  ap (after_claim (claim_place old)) e ∙ rw (kept, none) refl,
  λ lines h.
      let empty : h.says.failed ≡ [] = h.stage none in
      let held : lines ≡ map holds h.says.held = h.says.whole ∙ ap (λ z. map holds h.says.held ++ map fails z) empty ∙ append-nil (map holds h.says.held) in
      record {
        says = record {
          held = h.says.held ++ numbers ∷ [];
          failed = [];
          whole = ap (λ z. lines ++ z ∷ []) e ∙ ap (λ z. z ++ holds numbers ∷ []) held ∙ sym (map_end holds h.says.held numbers) ∙ sym (append-nil (map holds (h.says.held ++ numbers ∷ [])));
          holds_are = f ∙ ap (λ z. z ++ numbers) h.says.holds_are ∙ sym (concat_end h.says.held numbers);
          fails_are = g ∙ h.says.fails_are ∙ ap concat empty;
        };
        stage = λ s. refl;
      },
)

true_false : true ≡ false → ⊥
true_false e = cc

after_fails : (f : Bool) (numbers : List ℕ) → after_claim (claim_at f) (fails numbers) ≡ Some failing
after_fails true numbers = refl
after_fails false numbers = refl

-- a line of laws that are to fail
pub fails_taken : (old new : ClaimsWork) (said : ClaimLine) (numbers : List ℕ) → said ≡ fails numbers → new.failing ≡ true
    → new.claims.holds ≡ old.claims.holds → new.claims.fails ≡ old.claims.fails ++ numbers → TakesInClaims old said new true
fails_taken old new said numbers e set f g = (
  ap (after_claim (claim_place old)) e ∙ after_fails old.failing numbers ∙ rw set refl,
  λ lines h. record {
    says = record {
      held = h.says.held;
      failed = h.says.failed ++ numbers ∷ [];
      whole = ap (λ z. lines ++ z ∷ []) e ∙ ap (λ z. z ++ fails numbers ∷ []) h.says.whole ∙ append_assoc (map holds h.says.held) (map fails h.says.failed) (fails numbers ∷ [])
          ∙ ap (λ z. map holds h.says.held ++ z) (sym (map_end fails h.says.failed numbers));
      holds_are = f ∙ h.says.holds_are;
      fails_are = g ∙ ap (λ z. z ++ numbers) h.says.fails_are ∙ sym (concat_end h.says.failed numbers);
    };
    stage = λ s. absurd (true_false (sym set ∙ s));
  },
)

none_is : {A : Type 0} (o : Option A) → is_some o ≡ false → o ≡ None
none_is None e = refl
none_is (Some a) e = absurd (true_false e)

pub not_false : (b : Bool) → not b ≡ false → b ≡ true
not_false true e = refl
not_false false e = absurd (true_false e)

-- a table opens a magma
pub table_opens : (said : TableLine) (w : TableWork) → OpensTable said (Some w) → OpensHead (table_line said) (Some (Table w))
table_opens said w t =
    let low : nat_le 1 w.size ≡ true = le-leb 1 w.size t.2.some in
    let high : nat_le w.size 255 ≡ true = le-leb w.size 255 t.1 in (
      Lines.rows (rows_place w []),
      ap (λ (z : TableLine). opened_head (table_line z)) t.0 ∙ rw (low, high) refl,
      ([], t.2, refl, ap (λ (z : TableLine). table_line z ∷ []) t.0),
    )

-- a magma goes on as its table does
pub table_takes : (old new : TableWork) (said : TableLine) (taken : Bool) → TakesInTable old said new taken → TakesInHead (Table old) (table_line said) (Table new) taken
table_takes old new said true t = λ head saids (rows, h, p, s).
    let on = t rows h in
    record {
      next = Lines.rows (rows_place new (rows ++ on.entries ∷ []));
      stands = ap (λ (z : Head). next_head z (table_line said)) p ∙ ap (option_map Lines.rows) on.stands;
      has = (
        rows ++ on.entries ∷ [],
        on.now,
        refl,
        ap (λ z. z ++ table_line said ∷ []) s
            ∙ ap (λ (z : TableLine). map table_line (table old.size ∷ map row rows) ++ table_line z ∷ []) on.said_is
            ∙ sym (map_end table_line (table old.size ∷ map row rows) (row on.entries))
            ∙ ap (λ (z : List TableLine). map table_line (table old.size ∷ z)) (sym (map_end row rows on.entries))
            ∙ ap (λ n. map table_line (table n ∷ map row (rows ++ on.entries ∷ []))) (sym on.size_is),
      );
    }
table_takes old new said false t = λ head saids (rows, h, p, s). ap (λ (z : Head). next_head z (table_line said)) p ∙ ap (option_map Lines.rows) (t rows h)

pub table_takes_ok : {E : Type 0} (old new : TableWork) (said : TableLine) (r : Result Bool E) → IfOk r (TakesInTable old said new) → IfOk r (TakesInHead (Table old) (table_line said) (Table new))
table_takes_ok old new said (Ok taken) t = table_takes old new said taken t
table_takes_ok old new said (Err e) t = tt

-- a line that is no table's tells no more of a table
abbrev pub IsNoTableLine : Line → Type 0
IsNoTableLine (of_tables, said) = ⊥
IsNoTableLine _ = Unit {0}

pub table_keeps : (w : TableWork) (said : Line) → IsNoTableLine said → TakesInHead (Table w) said (Table w) false
table_keeps w (of_proofs, said) none head saids h = ap (λ (z : Head). next_head z (of_proofs, said)) h.2
table_keeps w (of_tables, said) none head saids h = absurd none
table_keeps w (of_linear, said) none head saids h = ap (λ (z : Head). next_head z (of_linear, said)) h.2
table_keeps w (of_matrices, said) none head saids h = ap (λ (z : Head). next_head z (of_matrices, said)) h.2
table_keeps w (of_rules, said) none head saids h = ap (λ (z : Head). next_head z (of_rules, said)) h.2
table_keeps w (of_claims, said) none head saids h = ap (λ (z : Head). next_head z (of_claims, said)) h.2

-- one line tells a linear magma
pub linear_keeps : (l : LinearLine) (said : Line) → TakesInHead (Linear l) said (Linear l) false
linear_keeps l said head saids h = ap (λ (z : Head). next_head z said) h.0

-- whether the magma is told
told_as : (m : MagmaWork) (head : Head) (saids : List Line) → HasHead m head saids → is_told head ≡ is_told_by m
told_as (Table w) head saids (rows, h, p, s) = ap is_told p ∙ ap (λ n. nat_eq n w.size) (sym h.count_is)
told_as (Linear l) head saids h = ap is_told h.0
told_as (Matrix w) head saids (a, b, c, h, p, s) = ap is_told p
told_as (Rules w) head saids (h, p, s) = ap is_told p

-- the lines of a magma that is told tell it
told_says : (m : MagmaWork) (head : Head) (saids : List Line) → HasHead m head saids → is_told head ≡ true → SaysModel saids (told_by m)
told_says (Table w) head saids (rows, h, p, s) told = (table w.size ∷ map row rows, s, record { rows = rows; whole = refl; entries_are = h.entries_are })
told_says (Linear l) head saids h told = h.1
told_says (Matrix w) head saids (a, b, c, h, p, s) told = (matrix_said w a b c, s, matrix_says w a b c h (sym (ap is_told p) ∙ told))
told_says (Rules w) head saids (h, p, s) told = s ∙ ap (map rules_line) (rules_say w (sym (ap is_told p) ∙ told))

-- a line that is none of claims
abbrev pub IsNoClaim : Line → Type 0
IsNoClaim (of_claims, said) = ⊥
IsNoClaim _ = Unit {0}

after_told : (head : Head) (said : Line) → IsNoClaim said → after_head head said ≡ option_map in_head (next_head head said)
after_told head (of_proofs, said) none = refl
after_told head (of_tables, said) none = refl
after_told head (of_linear, said) none = refl
after_told head (of_matrices, said) none = refl
after_told head (of_rules, said) none = refl
after_told head (of_claims, said) none = absurd none

after_claims : (place : ClaimPlace) (said : Line) → IsNoClaim said → after (in_claims place) said ≡ None
after_claims place (of_proofs, said) none = refl
after_claims place (of_tables, said) none = refl
after_claims place (of_linear, said) none = refl
after_claims place (of_matrices, said) none = refl
after_claims place (of_rules, said) none = refl
after_claims place (of_claims, said) none = absurd none

-- the work goes on as its magma does
head_takes : (old new : MagmaWork) (said : Line) (taken : Bool) → IsNoClaim said → TakesInHead old said new taken
    → Takes (Model (record { magma = old; claims = None })) said (Model (record { magma = new; claims = None })) taken
head_takes old new said true none t = λ place saids (head, h, p).
    let on = t head saids h in
    record {
      next = in_head on.next;
      stands = ap (λ (z : Place). after z said) p ∙ after_told head said none ∙ ap (option_map in_head) on.stands;
      come = (on.next, on.has, refl);
    }
head_takes old new said false none t = λ place saids (head, h, p). ap (λ (z : Place). after z said) p ∙ after_told head said none ∙ ap (option_map in_head) (t head saids h)

head_takes_ok : {E : Type 0} (old new : MagmaWork) (said : Line) (r : Result Bool E) → IsNoClaim said → IfOk r (TakesInHead old said new)
    → IfOk r (Takes (Model (record { magma = old; claims = None })) said (Model (record { magma = new; claims = None })))
head_takes_ok old new said (Ok taken) none t = head_takes old new said taken none t
head_takes_ok old new said (Err e) none t = tt

pub head_takes_at : {E : Type 0} (w : ModelWork) (new : MagmaWork) (said : Line) (r : Result Bool E) → IsNoClaim said → is_some w.claims ≡ false → IfOk r (TakesInHead w.magma said new)
    → IfOk r (Takes (Model w) said (Model (record { magma = new; claims = w.claims })))
head_takes_at w new said r none unclaimed t =
    subst (λ o. IfOk r (Takes (Model (record { magma = w.magma; claims = o })) said (Model (record { magma = new; claims = o }))))
    (sym (none_is w.claims unclaimed)) (head_takes_ok w.magma new said r none t)

pub head_kept : {E : Type 0} (w : ModelWork) (new : MagmaWork) (r : Result Bool E) → OnErr r (new ≡ w.magma) → OnErr r (Path ModelWork (record { magma = new; claims = w.claims }) w)
head_kept w new (Ok taken) h = tt
head_kept w new (Err e) h = ap (λ z. record { magma = z; claims = w.claims }) h

-- behind the claims no line of a magma stands
pub head_shut : (w : ModelWork) (c : ClaimsWork) (said : Line) → IsNoClaim said → w.claims ≡ Some c → Takes (Model w) said (Model w) false
head_shut w c said none e place saids h =
    let k : HasModel w.magma (Some c) place saids = subst (λ o. HasModel w.magma o place saids) e h in
    ap (λ (z : Place). after z said) k.6 ∙ after_claims (claim_place c) said none

some_is : {A : Type 0} (o : Option A) → is_some o ≡ true → (a : A) × (o ≡ Some a)
some_is (Some a) e = (a, refl)
some_is None e = absurd (true_false (sym e))

pub head_shut_at : (w : ModelWork) (said : Line) → IsNoClaim said → is_some w.claims ≡ true → Takes (Model w) said (Model w) false
head_shut_at w said none stands = let c = some_is w.claims stands in head_shut w c.0 said none c.1

-- and as its claims do
pub claims_take : (m : MagmaWork) (old new : ClaimsWork) (said : ClaimLine) (taken : Bool) → TakesInClaims old said new taken
    → Takes (Model (record { magma = m; claims = Some old })) (claim_line said) (Model (record { magma = m; claims = Some new })) taken
claims_take m old new said true t = λ place saids (head, told, lines, h, k, n, p, s). record {
  next = in_claims (claim_place new);
  stands = ap (λ (z : Place). after z (claim_line said)) p ∙ ap (option_map in_claims) t.0;
  come = (
    head,
    told,
    lines ++ said ∷ [],
    h,
    t.1 lines k,
    n,
    refl,
    ap (λ z. z ++ claim_line said ∷ []) s
        ∙ append_assoc told (map claim_line lines) (claim_line said ∷ [])
        ∙ ap (λ z. told ++ z) (sym (map_end claim_line lines said)),
  );
}
claims_take m old new said false t = λ place saids (head, told, lines, h, k, n, p, s). ap (λ (z : Place). after z (claim_line said)) p ∙ ap (option_map in_claims) t

pub claims_take_ok : {E : Type 0} (m : MagmaWork) (old new : ClaimsWork) (said : ClaimLine) (r : Result Bool E) → IfOk r (TakesInClaims old said new)
    → IfOk r (Takes (Model (record { magma = m; claims = Some old })) (claim_line said) (Model (record { magma = m; claims = Some new })))
claims_take_ok m old new said (Ok taken) t = claims_take m old new said taken t
claims_take_ok m old new said (Err e) t = tt

pub claims_open : (w : ModelWork) (said : ClaimLine) (o : Option ClaimsWork) → w.claims ≡ None → is_told_by w.magma ≡ true → OpensClaims said o
    → Takes (Model w) (claim_line said) (Model (record { magma = w.magma; claims = o })) (is_some o)
claims_open w said (Some c) e told t = λ place saids h.
    let k : HasModel w.magma None place saids = subst (λ o. HasModel w.magma o place saids) e h in
    let all : is_told k.0 ≡ true = told_as w.magma k.0 saids k.1 ∙ told in
    record {
      next = in_claims (claim_place c);
      stands = ap (λ (z : Place). after z (claim_line said)) k.2 ∙ rw all (ap (option_map in_claims) t.0);
      come = (k.0, saids, said ∷ [], k.1, t.1, all, refl, refl);
    }
claims_open w said None e told t = λ place saids h.
    let k : HasModel w.magma None place saids = subst (λ o. HasModel w.magma o place saids) e h in
    let all : is_told k.0 ≡ true = told_as w.magma k.0 saids k.1 ∙ told in
    ap (λ (z : Place). after z (claim_line said)) k.2 ∙ rw all (ap (option_map in_claims) t)

pub claims_shut : (w : ModelWork) (said : ClaimLine) → w.claims ≡ None → is_told_by w.magma ≡ false → Takes (Model w) (claim_line said) (Model w) false
claims_shut w said e told = λ place saids h.
    let k : HasModel w.magma None place saids = subst (λ o. HasModel w.magma o place saids) e h in
    let all : is_told k.0 ≡ false = told_as w.magma k.0 saids k.1 ∙ told in
    ap (λ (z : Place). after z (claim_line said)) k.2 ∙ rw all refl

-- a magma opens
after_first : (said : Line) → BeginsNoProof said → after_opening said ≡ option_map in_head (opened_head said)
after_first (of_proofs, said) none = absurd none
after_first (of_tables, said) none = refl
after_first (of_linear, said) none = refl
after_first (of_matrices, said) none = refl
after_first (of_rules, said) none = refl
after_first (of_claims, said) none = refl

pub magma_opens : (old : Work) (said : Line) (w : MagmaWork) → old ≡ Opening → BeginsNoProof said → OpensHead said (Some w) → Takes old said (Model (record { magma = w; claims = None })) true
magma_opens old said w o none t = λ place saids h.
    let k : HasCome Opening place saids = subst (λ (z : Work). HasCome z place saids) o h in
    record {
      next = in_head t.0;
      stands = ap (λ (z : Place). after z said) k.0 ∙ after_first said none ∙ ap (option_map in_head) t.1;
      come = (t.0, subst (λ (z : List Line). HasHead w t.0 (z ++ said ∷ [])) (sym k.1) t.2, refl);
    }

pub magma_stays_shut : (old : Work) (said : Line) → old ≡ Opening → BeginsNoProof said → OpensHead said None → Takes old said old false
magma_stays_shut old said o none t = λ place saids h.
    let k : HasCome Opening place saids = subst (λ (z : Work). HasCome z place saids) o h in
    ap (λ (z : Place). after z said) k.0 ∙ after_first said none ∙ ap (option_map in_head) t

pub claim_stays_shut : (old : Work) (said : ClaimLine) → old ≡ Opening → Takes old (claim_line said) old false
claim_stays_shut old said o = λ place saids h.
    let k : HasCome Opening place saids = subst (λ (z : Work). HasCome z place saids) o h in
    ap (λ (z : Place). after z (claim_line said)) k.0

-- at the end
pub model_whole : (w : ModelWork) (c : ClaimsWork) → w.claims ≡ Some c → c.failing ≡ true
    → IsWhole (Model w) (Some (model (told_by w.magma) (claims_of c.claims)))
model_whole w c e set = λ place saids h.
    let k : HasModel w.magma (Some c) place saids = subst (λ o. HasModel w.magma o place saids) e h in (
      ap is_complete k.6 ∙ rw set refl,
      record {
        head = k.1;
        behind = k.2;
        whole = k.7;
        says_model = told_says w.magma k.0 k.1 k.3 k.5;
        says_claims = k.4.says;
      },
    )

pub model_unclaimed : (w : ModelWork) → w.claims ≡ None → IsWhole (Model w) None
model_unclaimed w e = λ place saids h.
    let k : HasModel w.magma None place saids = subst (λ o. HasModel w.magma o place saids) e h in
    ap is_complete k.2

pub model_unfailing : (w : ModelWork) (c : ClaimsWork) → w.claims ≡ Some c → c.failing ≡ false → IsWhole (Model w) None
model_unfailing w c e set = λ place saids h.
    let k : HasModel w.magma (Some c) place saids = subst (λ o. HasModel w.magma o place saids) e h in
    ap is_complete k.6 ∙ rw set refl
