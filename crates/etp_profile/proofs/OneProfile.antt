-- A word has one reply.
use Rattle.std.proofs.Common.{◌≡◌, ℕ, ◌<◌, ◌≤◌, List, ◌++◌, sym, ◌∙◌, ap, subst, Option, None, Some, arith}
use Rattle.std.specs.Prelude.{codes, decimal}
use Rattle.etp_theory.specs.Trees.{Equation}
use Rattle.etp_table.specs.Tables.{Table}
use Rattle.etp_sweep.specs.Profiles.{IsProfile, greatest_size}
use Rattle.etp_sweep.proofs.OneProfile.{one_profile}
use Rattle.etp_items.specs.Bodies.{FileBody}
use Rattle.etp_ledger.specs.Files.{File, body_named}
use Rattle.etp_print.specs.Texts.{Reply, answered, refused}
use Rattle.etp_profile.specs.ProfileReplies.{ProfileReply, no_name, unknown_name, other_kind, too_large, profiled, table_in, profile_line}

none_some : {A : Type 0} (o : Option A) (a : A) → o ≡ None → o ≡ Some a → ⊥
none_some o a n s = let bad : None ≡ Some a = sym n ∙ s in absurd (cc)

same_body : (a b : FileBody) → Some a ≡ Some b → a ≡ b
same_body a b e = cc

same_table : (t u : Table) → Some t ≡ Some u → t ≡ u
same_table t u e = cc

-- the one file of a name has one table
one_table : (o : Option FileBody) (a b : FileBody) (t u : Table) → o ≡ Some a → table_in a ≡ Some t → o ≡ Some b → table_in b ≡ Some u → t ≡ u
one_table o a b t u h i j k = same_table t u (sym i ∙ ap table_in (same_body a b (sym h ∙ j)) ∙ k)

-- or it has none
no_table : (o : Option FileBody) (a b : FileBody) (t : Table) → o ≡ Some a → table_in a ≡ None → o ≡ Some b → table_in b ≡ Some t → ⊥
no_table o a b t h n j k = none_some (table_in b) t (ap table_in (same_body b a (sym j ∙ h)) ∙ n) k

-- a table that is too large isn't small enough
not_both : (order : ℕ) (t u : Table) → t ≡ u → greatest_size order < t.size → u.size ≤ greatest_size order → ⊥
not_both order t u e h k = let small : t.size ≤ greatest_size order = subst (λ (x : Table). x.size ≤ greatest_size order) (sym e) k in omega (arith, h, small)

pub profile_reply-only : (order : ℕ) (laws : List Equation) (files : List File) (word : List ℕ) (r s : Reply) → ProfileReply order laws files word r → ProfileReply order laws files word s → r ≡ s
profile_reply-only order laws files word r s (no_name pn pe) (no_name qn qe) = pe ∙ sym qe
profile_reply-only order laws files word r s (no_name pn pe) (unknown_name qm qu qe) = absurd (pn qm)
profile_reply-only order laws files word r s (no_name pn pe) (other_kind b qm qs qk qe) = absurd (pn qm)
profile_reply-only order laws files word r s (no_name pn pe) (too_large b u qm qs qk ql qe) = absurd (pn qm)
profile_reply-only order laws files word r s (no_name pn pe) (profiled b u ys qm qs qk ql qp qe) = absurd (pn qm)
profile_reply-only order laws files word r s (unknown_name pm pu pe) (no_name qn qe) = absurd (qn pm)
profile_reply-only order laws files word r s (unknown_name pm pu pe) (unknown_name qm qu qe) = pe ∙ sym qe
profile_reply-only order laws files word r s (unknown_name pm pu pe) (other_kind b qm qs qk qe) = absurd (none_some (body_named word files) b pu qs)
profile_reply-only order laws files word r s (unknown_name pm pu pe) (too_large b u qm qs qk ql qe) = absurd (none_some (body_named word files) b pu qs)
profile_reply-only order laws files word r s (unknown_name pm pu pe) (profiled b u ys qm qs qk ql qp qe) = absurd (none_some (body_named word files) b pu qs)
profile_reply-only order laws files word r s (other_kind a pm ps pk pe) (no_name qn qe) = absurd (qn pm)
profile_reply-only order laws files word r s (other_kind a pm ps pk pe) (unknown_name qm qu qe) = absurd (none_some (body_named word files) a qu ps)
profile_reply-only order laws files word r s (other_kind a pm ps pk pe) (other_kind b qm qs qk qe) = pe ∙ sym qe
profile_reply-only order laws files word r s (other_kind a pm ps pk pe) (too_large b u qm qs qk ql qe) = absurd (no_table (body_named word files) a b u ps pk qs qk)
profile_reply-only order laws files word r s (other_kind a pm ps pk pe) (profiled b u ys qm qs qk ql qp qe) = absurd (no_table (body_named word files) a b u ps pk qs qk)
profile_reply-only order laws files word r s (too_large a t pm ps pk pl pe) (no_name qn qe) = absurd (qn pm)
profile_reply-only order laws files word r s (too_large a t pm ps pk pl pe) (unknown_name qm qu qe) = absurd (none_some (body_named word files) a qu ps)
profile_reply-only order laws files word r s (too_large a t pm ps pk pl pe) (other_kind b qm qs qk qe) = absurd (no_table (body_named word files) b a t qs qk ps pk)
profile_reply-only order laws files word r s (too_large a t pm ps pk pl pe) (too_large b u qm qs qk ql qe) = pe ∙ ap (λ (x : Table). refused (codes "profile size " ++ decimal x.size)) (one_table (body_named word files) a b t u ps pk qs qk) ∙ sym qe
profile_reply-only order laws files word r s (too_large a t pm ps pk pl pe) (profiled b u ys qm qs qk ql qp qe) = absurd (not_both order t u (one_table (body_named word files) a b t u ps pk qs qk) pl ql)
profile_reply-only order laws files word r s (profiled a t xs pm ps pk pl pp pe) (no_name qn qe) = absurd (qn pm)
profile_reply-only order laws files word r s (profiled a t xs pm ps pk pl pp pe) (unknown_name qm qu qe) = absurd (none_some (body_named word files) a qu ps)
profile_reply-only order laws files word r s (profiled a t xs pm ps pk pl pp pe) (other_kind b qm qs qk qe) = absurd (no_table (body_named word files) b a t qs qk ps pk)
profile_reply-only order laws files word r s (profiled a t xs pm ps pk pl pp pe) (too_large b u qm qs qk ql qe) = absurd (not_both order u t (sym (one_table (body_named word files) a b t u ps pk qs qk)) ql pl)
profile_reply-only order laws files word r s (profiled a t xs pm ps pk pl pp pe) (profiled b u ys qm qs qk ql qp qe) =
    let same : t ≡ u = one_table (body_named word files) a b t u ps pk qs qk in
    pe ∙ ap (λ (ns : List ℕ). answered (profile_line word ns)) (one_profile laws t xs ys pp (subst (λ (x : Table). IsProfile laws x ys) (sym same) qp)) ∙ sym qe
