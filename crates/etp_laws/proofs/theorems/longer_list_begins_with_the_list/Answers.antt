use Rattle.std.proofs.Common.{◌+◌, ◌++◌, ◌∙◌, ap, sym}
use Rattle.etp_laws.specs.Enumeration.{laws_of}
use Rattle.etp_laws.proofs.Unique.{IsTheList-is, laws_upto_more}
use Rattle.etp_laws.proofs.theorems.longer_list_begins_with_the_list.Goals as goal

pub returns : goal.returns
returns c k xs ys h l = (laws_of (k + 1), IsTheList-is (k + 1) ys l ∙ laws_upto_more k ∙ ap (λ zs. zs ++ laws_of (k + 1)) (sym (IsTheList-is k xs h)))
