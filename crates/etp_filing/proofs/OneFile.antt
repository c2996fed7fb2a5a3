-- The replies to a file, to its lines and to a withdrawal are one each.
use Rattle.std.proofs.Common.{◌≡◌, ◌≢◌, ℕ, ◌⊎◌, inl, inr, List, [], ◌∷◌, ◌++◌, length, refl, sym, ◌∙◌, ap, subst, Option, None, Some, IsSome, Bool, true, false}
use Rattle.std.specs.Prelude.{codes, slice_get}
use Rattle.etp_laws.specs.Listing.{IsTheList}
use Rattle.etp_laws.specs.LawLists.{LawList}
use Rattle.etp_io.specs.Texts.{LineText}
use Rattle.etp_proof.specs.Names.{IsName}
use Rattle.etp_items.specs.Bodies.{FileBody}
use Rattle.etp_items.specs.Reading.{IsReadBody}
use Rattle.etp_items.proofs.Theorems.{body_theorems}
use Rattle.etp_reading.specs.declared.refusal.BodyRefusal.{BodyRefusal}
use Rattle.etp_check.specs.Checks.{fact_said}
use Rattle.etp_ledger.specs.Files.{File, Stands, body_named}
use Rattle.etp_ledger.specs.Refusals.{IsFileRefused, IsWithdrawalRefused}
use Rattle.etp_ledger.specs.Accepting.{IsAccepted}
use Rattle.etp_ledger.specs.Withdrawing.{IsWithdrawn}
use Rattle.etp_ledger.specs.declared.refusal.LedgerRefusal.{LedgerRefusal}
use Rattle.etp_ledger.specs.declared.refusal.LedgerRefusal.TheVariants.{NoMemory, NoSuchName, Cited}
use Rattle.etp_ledger.proofs.Verdicts as Verdict
use Rattle.etp_print.specs.Texts.{Reply, answered, refused, refused_file}
use Rattle.etp_print.specs.RefusalTexts.{body_refusal, file_refusal}
use Rattle.etp_desk.specs.States.{Opened, Filing, State, over}
use Rattle.etp_filing.specs.FileReplies.{FileReply, no_name, name_taken, no_body, not_accepted, accepted, BodyReply, goes_on, closes, HasNoName, HasFreeName, vector_size, accepted_line}
use Rattle.etp_filing.specs.Withdrawals.{WithdrawReply, no_name as no_such_word, unknown_name, cited, withdrawn}

-- what two replies to a file have in common
same_name : (w : Option (List ℕ)) (n m : List ℕ) → w ≡ Some n → w ≡ Some m → n ≡ m
same_name w n m e f = let x : Some n ≡ Some m = sym e ∙ f in cc

no_name-named : (w : Option (List ℕ)) (n : List ℕ) → HasNoName w → w ≡ Some n → IsName n → ⊥
no_name-named None n h e i = let x : None ≡ Some n = e in absurd (cc)
no_name-named (Some w) n h e i = let x : w ≡ n = cc in h (rw x i)

not_there : (o : Option FileBody) → o ≡ None → IsSome o → ⊥
not_there None e s = let x : false ≡ true = s in absurd (cc)
not_there (Some b) e s = let x : Some b ≡ None = e in absurd (cc)

taken-free : (files : List File) (w : Option (List ℕ)) (n m : List ℕ) → w ≡ Some n → Stands files n → HasFreeName files w m → ⊥
taken-free files w n m e s f =
    let same : n ≡ m = same_name w n m e f.word_is in
    let none : body_named n files ≡ None = rw same f.free in
    not_there (body_named n files) none s

true_false : (b : Bool) → b ≡ true → b ≡ false → ⊥
true_false b e f = let x : true ≡ false = sym e ∙ f in absurd (cc)

file_refusal-only : (l : LawList) (files : List File) (name : List ℕ) (body : FileBody) (r s : LedgerRefusal) → IsTheList l.order l.equations
    → IsFileRefused l files name body r → IsFileRefused l files name body s → r ≢ NoMemory → s ≢ NoMemory → r ≡ s
file_refusal-only l files name body r s t h k n m = by (Verdict.one_refusal l files name body r s t h k)
  where
    by : (r ≡ NoMemory) ⊎ ((s ≡ NoMemory) ⊎ (r ≡ s)) → r ≡ s
    by (inl e) = absurd (n e)
    by (inr (inl e)) = absurd (m e)
    by (inr (inr e)) = e

two-files : (files : List File) (n m : List ℕ) (b c : FileBody) → n ≡ m → b ≡ c
    → files ++ record { name = n; body = b } ∷ [] ≡ files ++ record { name = m; body = c } ∷ []
two-files files n m b c e f = rw (e, f) refl

two-refused : (o : Opened) (f : Filing) (closed : Bool) → IsTheList o.laws.order o.laws.equations → (n m : List ℕ) (b c : FileBody) (r s : LedgerRefusal)
    → HasFreeName o.files f.word n → HasFreeName o.files f.word m
    → IsReadBody (length o.laws.equations) f.lines closed b → IsReadBody (length o.laws.equations) f.lines closed c
    → IsFileRefused o.laws o.files n b r → IsFileRefused o.laws o.files m c s → r ≢ NoMemory → s ≢ NoMemory
    → refused_file n (file_refusal (vector_size b) r) ≡ refused_file m (file_refusal (vector_size c) s)
two-refused o f closed l n m b c r s v w q p h k x y =
    let name : m ≡ n = same_name f.word m n w.word_is v.word_is in
    let body : c ≡ b = body_theorems.one_body f.lines c b p.is_body q.is_body in
    let there : IsFileRefused o.laws o.files n b s = subst (λ (d : FileBody). IsFileRefused o.laws o.files n d s) body (subst (λ (i : List ℕ). IsFileRefused o.laws o.files i c s) name k) in
    ap (λ (t : LedgerRefusal). refused_file n (file_refusal (vector_size b) t)) (file_refusal-only o.laws o.files n b r s l h there x y)
    ∙ ap (λ (d : FileBody). refused_file n (file_refusal (vector_size d) s)) (sym body) ∙ ap (λ (i : List ℕ). refused_file i (file_refusal (vector_size c) s)) (sym name)

refused-accepted : (o : Opened) (f : Filing) (closed : Bool) (n m : List ℕ) (b c : FileBody) (r : LedgerRefusal)
    → HasFreeName o.files f.word n → HasFreeName o.files f.word m
    → IsReadBody (length o.laws.equations) f.lines closed b → IsReadBody (length o.laws.equations) f.lines closed c
    → IsFileRefused o.laws o.files n b r → r ≢ NoMemory → IsAccepted o.laws.equations o.files m c → ⊥
refused-accepted o f closed n m b c r v w q p h x a =
    let name : m ≡ n = same_name f.word m n w.word_is v.word_is in
    let body : c ≡ b = body_theorems.one_body f.lines c b p.is_body q.is_body in
    let there : IsAccepted o.laws.equations o.files n b = subst (λ (d : FileBody). IsAccepted o.laws.equations o.files n d) body (subst (λ (i : List ℕ). IsAccepted o.laws.equations o.files i c) name a) in
    x (Verdict.accepted_or_refused o.laws o.files n b r there h)

pub file_reply-only : (o : Opened) (f : Filing) (closed : Bool) → IsTheList o.laws.order o.laws.equations → (r s : Reply) (g h : List File)
    → FileReply o f closed r g → FileReply o f closed s h → (r ≡ s) × (g ≡ h)
file_reply-only o f closed l r s g h (no_name pn pe pf) (no_name qn qe qf) = (pe ∙ sym qe, pf ∙ sym qf)
file_reply-only o f closed l r s g h (no_name pn pe pf) (name_taken qm qw qi qs qe qf) = absurd (no_name-named f.word qm pn qw qi)
file_reply-only o f closed l r s g h (no_name pn pe pf) (no_body qm qr qw qq qe qf) = absurd (no_name-named f.word qm pn qw.word_is qw.is_name)
file_reply-only o f closed l r s g h (no_name pn pe pf) (not_accepted qm qb qr qw qq qt qk qe qf) = absurd (no_name-named f.word qm pn qw.word_is qw.is_name)
file_reply-only o f closed l r s g h (no_name pn pe pf) (accepted qm qb qw qq qt qe qf) = absurd (no_name-named f.word qm pn qw.word_is qw.is_name)
file_reply-only o f closed l r s g h (name_taken pm pw pi ps pe pf) (no_name qn qe qf) = absurd (no_name-named f.word pm qn pw pi)
file_reply-only o f closed l r s g h (name_taken pm pw pi ps pe pf) (name_taken qm qw qi qs qe qf) = (pe ∙ ap (λ (n : List ℕ). refused (codes "name taken " ++ n)) (same_name f.word pm qm pw qw) ∙ sym qe, pf ∙ sym qf)
file_reply-only o f closed l r s g h (name_taken pm pw pi ps pe pf) (no_body qm qr qw qq qe qf) = absurd (taken-free o.files f.word pm qm pw ps qw)
file_reply-only o f closed l r s g h (name_taken pm pw pi ps pe pf) (not_accepted qm qb qr qw qq qt qk qe qf) = absurd (taken-free o.files f.word pm qm pw ps qw)
file_reply-only o f closed l r s g h (name_taken pm pw pi ps pe pf) (accepted qm qb qw qq qt qe qf) = absurd (taken-free o.files f.word pm qm pw ps qw)
file_reply-only o f closed l r s g h (no_body pm pr pw pq pe pf) (no_name qn qe qf) = absurd (no_name-named f.word pm qn pw.word_is pw.is_name)
file_reply-only o f closed l r s g h (no_body pm pr pw pq pe pf) (name_taken qm qw qi qs qe qf) = absurd (taken-free o.files f.word qm pm qw qs pw)
file_reply-only o f closed l r s g h (no_body pm pr pw pq pe pf) (no_body qm qr qw qq qe qf) = (pe ∙ ap (λ (n : List ℕ). refused_file n (body_refusal pr)) (same_name f.word pm qm pw.word_is qw.word_is) ∙ ap (λ (k : BodyRefusal). refused_file qm (body_refusal k)) (body_theorems.one_refusal _ f.lines closed pr qr pq qq) ∙ sym qe, pf ∙ sym qf)
file_reply-only o f closed l r s g h (no_body pm pr pw pq pe pf) (not_accepted qm qb qr qw qq qt qk qe qf) = absurd (body_theorems.body_stands _ f.lines closed qb pr qq pq)
file_reply-only o f closed l r s g h (no_body pm pr pw pq pe pf) (accepted qm qb qw qq qt qe qf) = absurd (body_theorems.body_stands _ f.lines closed qb pr qq pq)
file_reply-only o f closed l r s g h (not_accepted pm pb pr pw pq pt pk pe pf) (no_name qn qe qf) = absurd (no_name-named f.word pm qn pw.word_is pw.is_name)
file_reply-only o f closed l r s g h (not_accepted pm pb pr pw pq pt pk pe pf) (name_taken qm qw qi qs qe qf) = absurd (taken-free o.files f.word qm pm qw qs pw)
file_reply-only o f closed l r s g h (not_accepted pm pb pr pw pq pt pk pe pf) (no_body qm qr qw qq qe qf) = absurd (body_theorems.body_stands _ f.lines closed pb qr pq qq)
file_reply-only o f closed l r s g h (not_accepted pm pb pr pw pq pt pk pe pf) (not_accepted qm qb qr qw qq qt qk qe qf) = (pe ∙ two-refused o f closed l pm qm pb qb pr qr pw qw pq qq pt qt pk qk ∙ sym qe, pf ∙ sym qf)
file_reply-only o f closed l r s g h (not_accepted pm pb pr pw pq pt pk pe pf) (accepted qm qb qw qq qt qe qf) = absurd (refused-accepted o f closed pm qm pb qb pr pw qw pq qq pt pk qt)
file_reply-only o f closed l r s g h (accepted pm pb pw pq pt pe pf) (no_name qn qe qf) = absurd (no_name-named f.word pm qn pw.word_is pw.is_name)
file_reply-only o f closed l r s g h (accepted pm pb pw pq pt pe pf) (name_taken qm qw qi qs qe qf) = absurd (taken-free o.files f.word qm pm qw qs pw)
file_reply-only o f closed l r s g h (accepted pm pb pw pq pt pe pf) (no_body qm qr qw qq qe qf) = absurd (body_theorems.body_stands _ f.lines closed pb qr pq qq)
file_reply-only o f closed l r s g h (accepted pm pb pw pq pt pe pf) (not_accepted qm qb qr qw qq qt qk qe qf) = absurd (refused-accepted o f closed qm pm qb pb qr qw pw qq pq qt qk pt)
file_reply-only o f closed l r s g h (accepted pm pb pw pq pt pe pf) (accepted qm qb qw qq qt qe qf) = (pe ∙ ap (λ (n : List ℕ). answered (accepted_line n (fact_said pb))) (same_name f.word pm qm pw.word_is qw.word_is) ∙ ap (λ (c : FileBody). answered (accepted_line qm (fact_said c))) (body_theorems.one_body f.lines pb qb pq.is_body qq.is_body) ∙ sym qe, pf ∙ two-files o.files pm qm pb qb (same_name f.word pm qm pw.word_is qw.word_is) (body_theorems.one_body f.lines pb qb pq.is_body qq.is_body) ∙ sym qf)

pub body_reply-only : (o : Opened) (f : Filing) → IsTheList o.laws.order o.laws.equations → (line : LineText) (r s : Reply) (g h : State) → BodyReply o f line r g → BodyReply o f line s h → (r ≡ s) × (g ≡ h)
body_reply-only o f l line r s g h (goes_on t e x) (goes_on u i y) = (e ∙ sym i, x ∙ sym y)
body_reply-only o f l line r s g h (goes_on t e x) (closes gs u i y) = absurd (true_false _ u t)
body_reply-only o f l line r s g h (closes fs t e x) (goes_on u i y) = absurd (true_false _ t u)
body_reply-only o f l line r s g h (closes fs t e x) (closes gs u i y) =
    let one = file_reply-only o f true l r s fs gs e i in (one.0, x ∙ ap (λ (k : List File). over (record { laws = o.laws; files = k })) one.1 ∙ sym y)

withdrawn-not : (files after : List File) (word : List ℕ) (r : LedgerRefusal) (x : IsWithdrawn files word after) → IsWithdrawalRefused files word r → ⊥
withdrawn-not files after word r x h = Verdict.withdrawn_or_refused files word after r x h

unnamed : (files : List File) (word : List ℕ) → body_named word files ≡ None → Stands files word → ⊥
unnamed files word u s = not_there (body_named word files) u s

same_place : {a b : ℕ} → Cited a ≡ Cited b → a ≡ b
same_place e = cc

same_file : {f g : File} {o : Option File} → o ≡ Some f → o ≡ Some g → f ≡ g
same_file {f} {g} e h = let x : Some f ≡ Some g = sym e ∙ h in cc

pub withdraw_reply-only : (files : List File) (word : List ℕ) (r s : Reply) (g h : List File) → WithdrawReply files word r g → WithdrawReply files word s h → (r ≡ s) × (g ≡ h)
withdraw_reply-only files word r s g h (no_such_word n e x) (no_such_word m i y) = (e ∙ sym i, x ∙ sym y)
withdraw_reply-only files word r s g h (no_such_word n e x) (unknown_name m u i y) = absurd (n m)
withdraw_reply-only files word r s g h (no_such_word n e x) (cited at by m st c v i y) = absurd (n m)
withdraw_reply-only files word r s g h (no_such_word n e x) (withdrawn m w i) = absurd (n m)
withdraw_reply-only files word r s g h (unknown_name n u e x) (no_such_word m i y) = absurd (m n)
withdraw_reply-only files word r s g h (unknown_name n u e x) (unknown_name m v i y) = (e ∙ sym i, x ∙ sym y)
withdraw_reply-only files word r s g h (unknown_name n u e x) (cited at by m st c v i y) = absurd (unnamed files word u st)
withdraw_reply-only files word r s g h (unknown_name n u e x) (withdrawn m w i) = absurd (withdrawn-not files h word NoSuchName w u)
withdraw_reply-only files word r s g h (cited at by m st c v i y) (no_such_word n e x) = absurd (n m)
withdraw_reply-only files word r s g h (cited at by m st c v i y) (unknown_name n u e x) = absurd (unnamed files word u st)
withdraw_reply-only files word r s g h (cited at by m st c v i y) (cited bt cy n su d w e x) =
    let place : at ≡ bt = same_place (Verdict.one_withdrawal_refusal files word (Cited at) (Cited bt) (st, c) (su, d)) in
    let who : by ≡ cy = same_file (subst (λ (k : ℕ). slice_get files k ≡ Some by) place v) w in
    (i ∙ ap (λ (f : File). refused (codes "cited " ++ word ++ codes " by " ++ f.name)) who ∙ sym e, y ∙ sym x)
withdraw_reply-only files word r s g h (cited at by m st c v i y) (withdrawn n w e) = absurd (withdrawn-not files h word (Cited at) w (st, c))
withdraw_reply-only files word r s g h (withdrawn m w i) (no_such_word n e x) = absurd (n m)
withdraw_reply-only files word r s g h (withdrawn m w i) (unknown_name n u e x) = absurd (withdrawn-not files g word NoSuchName w u)
withdraw_reply-only files word r s g h (withdrawn n w e) (cited at by m st c v i y) = absurd (withdrawn-not files g word (Cited at) w (st, c))
withdraw_reply-only files word r s g h (withdrawn m w e) (withdrawn n v i) = (e ∙ sym i, w.gone ∙ sym v.gone)
