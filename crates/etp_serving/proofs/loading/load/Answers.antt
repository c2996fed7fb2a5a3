use Rattle.etp_reply.specs.Shelves.{known}
use Rattle.etp_serving.proofs.LoadAnswers.{loading-name, loading-lines, answers-loaded}
use Rattle.etp_serving.proofs.loading.load.Goals as goal

pub read_body-requires-clause-name : goal.read_body-requires-clause-name
read_body-requires-clause-name g c = loading-name _ _ _ _ _ c.requires.loads.1

pub respond_loaded-requires-clause-loads : goal.respond_loaded-requires-clause-loads
respond_loaded-requires-clause-loads g c =
    let h = c.in-Ok.ensures.ok in
    (c.requires.loads.0, c.args.name.now, h.lines, loading-lines _ c.args.desk.now c.requires.loads.0 c.args.name.now c.args.filing c.in-Ok.filing h c.requires.loads.1)

pub returns-in-Ok-respond_loaded-clause-ok : goal.returns-in-Ok-respond_loaded-clause-ok
returns-in-Ok-respond_loaded-clause-ok g c n =
    let s = known c.args.limit (g.H.Shelf.keeps c.args.shelf.now) in
    answers-loaded s c.args.desk.now n c.args.name.now c.args.filing c.in-Ok.filing c.respond_loaded.new.text _ _ c.in-Ok.ensures.ok (λ lines l there. c.in-Ok-respond_loaded.ensures.gives s n c.args.name.now lines l there)
