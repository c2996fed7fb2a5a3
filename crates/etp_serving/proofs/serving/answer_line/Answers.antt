use Rattle.std.proofs.Common.{inl, inr, refl}
use Rattle.etp_reply.specs.Shelves.{known}
use Rattle.etp_print.proofs.GivenLemmas.{IfOk-then}
use Rattle.etp_serving.proofs.LoadAnswers.{loads-ready, replies-loaded}
use Rattle.etp_serving.proofs.serving.answer_line.Goals as goal

pub load-requires-clause-empty : goal.load-requires-clause-empty
load-requires-clause-empty g c =
    let s = known c.args.limit (g.H.Shelf.keeps c.args.shelf.now) in
    (loads-ready s _ _ _ _ _ _ _ (rw c.in-Ok-Loads.field-0-is at (c.in-Ok-Loads.ensures.gives s c.requires.sound.state c.requires.sound.stands))).0

pub load-requires-clause-loads : goal.load-requires-clause-loads
load-requires-clause-loads g c =
    let s = known c.args.limit (g.H.Shelf.keeps c.args.shelf.now) in
    (_, (loads-ready s _ _ _ _ _ _ _ (rw c.in-Ok-Loads.field-0-is at (c.in-Ok-Loads.ensures.gives s c.requires.sound.state c.requires.sound.stands))).1)

pub returns-in-Ok-Replied-clause-ok : goal.returns-in-Ok-Replied-clause-ok
returns-in-Ok-Replied-clause-ok g c state at =
    let s = known c.args.limit (g.H.Shelf.keeps c.args.shelf.now) in
    rw c.in-Ok-Replied.field-0-is at (c.in-Ok-Replied.ensures.gives s state at)

pub returns-in-Ok-Loads-clause-ok : goal.returns-in-Ok-Loads-clause-ok
returns-in-Ok-Loads-clause-ok g c =
    let s = known c.args.limit (g.H.Shelf.keeps c.args.shelf.now) in
    IfOk-then c.load.result _ _ (λ refused h state at.
    replies-loaded s _ _ _ _ _ c.load.new.text refused _ _ _ (rw c.in-Ok-Loads.field-0-is at (c.in-Ok-Loads.ensures.gives s state at)) h) c.load.ensures.ok

pub returns-in-Ok-Loads-clause-read : goal.returns-in-Ok-Loads-clause-read
returns-in-Ok-Loads-clause-read g c failed =
    let s = known c.args.limit (g.H.Shelf.keeps c.args.shelf.now) in
    let said = c.load.ensures.read failed in
    (said.0, λ state at. rw said.1 (loads-ready s _ _ _ _ _ _ _ (rw c.in-Ok-Loads.field-0-is at (c.in-Ok-Loads.ensures.gives s state at))).2)

pub returns-in-Ok-Loads-clause-too_much : goal.returns-in-Ok-Loads-clause-too_much
returns-in-Ok-Loads-clause-too_much g c long state at =
    let s = known c.args.limit (g.H.Shelf.keeps c.args.shelf.now) in
    let said = c.load.ensures.too_much long in
    record {
      name = c.in-Ok-Loads.name.now;
      reaches = (loads-ready s _ _ _ _ _ _ _ (rw c.in-Ok-Loads.field-0-is at (c.in-Ok-Loads.ensures.gives s state at))).2;
      long = said.0;
      risen = said.1;
    }

pub returns-in-Ok-Loads-clause-untouched : goal.returns-in-Ok-Loads-clause-untouched
returns-in-Ok-Loads-clause-untouched g c state at =
    let s = known c.args.limit (g.H.Shelf.keeps c.args.shelf.now) in
    inr (c.in-Ok-Loads.name.now, (loads-ready s _ _ _ _ _ _ _ (rw c.in-Ok-Loads.field-0-is at (c.in-Ok-Loads.ensures.gives s state at))).2)

pub returns-in-Ok-Replied-clause-untouched : goal.returns-in-Ok-Replied-clause-untouched
returns-in-Ok-Replied-clause-untouched g c state at = inl refl
