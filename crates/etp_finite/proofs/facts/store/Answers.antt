use Rattle.std.proofs.Common.{◌++◌, ◌∷◌, [], length, ap, sym, ◌∙◌, subst}
use Rattle.etp_closure.specs.Closures.{StandsFor}
use Rattle.etp_closure.specs.Facts.{fact_of}
use Rattle.indexmap.proofs.CallerLemmas.{insert_entry-new}
use Rattle.etp_finite.specs.Files.{facts_of}
use Rattle.etp_finite.specs.Naming.{HasLaws}
use Rattle.etp_finite.specs.Kept.{file_of, files_of}
use Rattle.etp_finite.specs.declared.kept.Kept.{Kept}
use Rattle.etp_finite.proofs.Lists.{map_more}
use Rattle.etp_finite.proofs.Naming.{unfound}
use Rattle.etp_finite.proofs.Storing.{popped, some_last, last_kept, facts_more}
use Rattle.etp_finite.proofs.facts.store.Goals as goal

pub reserve_for-requires : goal.reserve_for-requires
reserve_for-requires c =
    let all = c.in_ok-insert.ensures.entries ∙ insert_entry-new _ c.args.files.now c.args.key c.args.kept (unfound c.args.key.items c.args.files.now.entries c.requires.free) in
    let last = last_kept c.args.files.now.entries c.insert.new.self.entries c.args.key c.args.kept c.index.result.now c.len-last.result all c.len-last.ensures.len c.index.ensures in
    subst (λ (kept : Kept). HasLaws (length c.args.closure.now.duals) (fact_of kept.fact)) (sym last) c.requires.laws

pub returns-then-is_err-clause-err_files : goal.returns-then-is_err-clause-err_files
returns-then-is_err-clause-err_files c =
    let all = c.in_ok-insert.ensures.entries ∙ insert_entry-new _ c.args.files.now c.args.key c.args.kept (unfound c.args.key.items c.args.files.now.entries c.requires.free) in
    popped c.pop.new.self.entries c.args.files.now.entries c.insert.new.self.entries (c.args.key, c.args.kept) c.pop.result (c.pop.ensures.found.1 (some_last c.args.files.now.entries c.insert.new.self.entries (c.args.key, c.args.kept) all)) all c.pop.ensures.entries

pub returns-then-is_err-clause-stands : goal.returns-then-is_err-clause-stands
returns-then-is_err-clause-stands c =
    let all = c.in_ok-insert.ensures.entries ∙ insert_entry-new _ c.args.files.now c.args.key c.args.kept (unfound c.args.key.items c.args.files.now.entries c.requires.free) in
    let same = popped c.pop.new.self.entries c.args.files.now.entries c.insert.new.self.entries (c.args.key, c.args.kept) c.pop.result (c.pop.ensures.found.1 (some_last c.args.files.now.entries c.insert.new.self.entries (c.args.key, c.args.kept) all)) all c.pop.ensures.entries in
    subst (StandsFor c.reserve_for.new.closure) (ap (λ es. facts_of (files_of es)) (sym same)) (c.reserve_for.ensures.stands (facts_of (files_of c.args.files.now.entries)) c.requires.stands)

pub returns-clause-files : goal.returns-clause-files
returns-clause-files c =
    ap files_of (c.in_ok-insert.ensures.entries ∙ insert_entry-new _ c.args.files.now c.args.key c.args.kept (unfound c.args.key.items c.args.files.now.entries c.requires.free))
    ∙ map_more file_of c.args.files.now.entries (c.args.key, c.args.kept)

pub returns-clause-stands : goal.returns-clause-stands
returns-clause-stands c =
    let all = c.in_ok-insert.ensures.entries ∙ insert_entry-new _ c.args.files.now c.args.key c.args.kept (unfound c.args.key.items c.args.files.now.entries c.requires.free) in
    let last = last_kept c.args.files.now.entries c.insert.new.self.entries c.args.key c.args.kept c.index-2.result.now c.len-last.result all c.len-last.ensures.len c.index-2.ensures in
    let old = facts_of (files_of c.args.files.now.entries) in
    let added = c.add_fact.ensures.stands old (c.reserve_for.ensures.stands old c.requires.stands) in
    subst (StandsFor c.add_fact.new.closure) (ap (λ (kept : Kept). old ++ fact_of kept.fact ∷ []) last ∙ sym (facts_more c.args.files.now.entries c.insert.new.self.entries c.args.key c.args.kept all)) added
