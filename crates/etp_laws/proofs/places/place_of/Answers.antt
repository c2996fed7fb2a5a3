use Rattle.std.proofs.Common.{◌++◌, ◌∙◌}
use Rattle.etp_term.specs.Terms.{tree_of}
use Rattle.etp_laws.specs.Occurrences.{by_occurrence}
use Rattle.etp_laws.specs.Places.{oriented}
use Rattle.etp_laws.proofs.PartLemmas.{less_place, greater_place, equal_place}
use Rattle.etp_laws.proofs.places.place_of.Goals as goal

pub returns-in-Less-clause-value : goal.returns-in-Less-clause-value
returns-in-Less-clause-value c =
    less_place (oriented c.args.orientation (tree_of c.args.left.now)) (oriented c.args.orientation (tree_of c.args.right.now)) c.shape_of-left_shape.result.ops c.shape_of-right_shape.result.ops c.shape_of-left_shape.result.place c.shape_of-right_shape.result.place c.letters_of-left_word.result c.letters_of-right_word.result
    (record { ops = c.shape_of-left_shape.ensures.ops; place = c.shape_of-left_shape.ensures.place; word = c.letters_of-left_word.ensures.word })
    (record { ops = c.shape_of-right_shape.ensures.ops; place = c.shape_of-right_shape.ensures.place; word = c.letters_of-right_word.ensures.word })
    c.as_slice-in-Less-2.result.now c.place_at.result c.order.result c.order.ensures c.in-Less.is
    (c.as_slice-in-Less-2.ensures.value ∙ c.by_occurrence-plain.ensures.value ∙ (λ d. by_occurrence (c.as_slice.ensures.value d ++ c.as_slice-in-Less.ensures.value d)))
    c.place_at.ensures.value

pub returns-in-Equal-clause-value : goal.returns-in-Equal-clause-value
returns-in-Equal-clause-value c =
    equal_place (oriented c.args.orientation (tree_of c.args.left.now)) (oriented c.args.orientation (tree_of c.args.right.now)) c.shape_of-left_shape.result.ops c.shape_of-right_shape.result.ops c.shape_of-left_shape.result.place c.shape_of-right_shape.result.place c.letters_of-left_word.result c.letters_of-right_word.result
    (record { ops = c.shape_of-left_shape.ensures.ops; place = c.shape_of-left_shape.ensures.place; word = c.letters_of-left_word.ensures.word })
    (record { ops = c.shape_of-right_shape.ensures.ops; place = c.shape_of-right_shape.ensures.place; word = c.letters_of-right_word.ensures.word })
    c.as_slice-in-Equal-5.result.now c.by_occurrence-plain-in-Equal.result c.by_occurrence-exchanged.result c.place_at-in-Equal.result c.order.result c.order.ensures c.in-Equal.is
    (c.by_occurrence-plain-in-Equal.ensures.value ∙ (λ d. by_occurrence (c.as_slice-in-Equal.ensures.value d ++ c.as_slice-in-Equal-2.ensures.value d)))
    (c.by_occurrence-exchanged.ensures.value ∙ (λ d. by_occurrence (c.as_slice-in-Equal-3.ensures.value d ++ c.as_slice-in-Equal-4.ensures.value d)))
    (c.as_slice-in-Equal-5.ensures.value ∙ c.lesser.ensures)
    c.place_at-in-Equal.ensures.value

pub returns-in-Greater-clause-value : goal.returns-in-Greater-clause-value
returns-in-Greater-clause-value c =
    greater_place (oriented c.args.orientation (tree_of c.args.left.now)) (oriented c.args.orientation (tree_of c.args.right.now)) c.shape_of-left_shape.result.ops c.shape_of-right_shape.result.ops c.shape_of-left_shape.result.place c.shape_of-right_shape.result.place c.letters_of-left_word.result c.letters_of-right_word.result
    (record { ops = c.shape_of-left_shape.ensures.ops; place = c.shape_of-left_shape.ensures.place; word = c.letters_of-left_word.ensures.word })
    (record { ops = c.shape_of-right_shape.ensures.ops; place = c.shape_of-right_shape.ensures.place; word = c.letters_of-right_word.ensures.word })
    c.as_slice-in-Greater-3.result.now c.place_at-in-Greater.result c.order.result c.order.ensures c.in-Greater.is
    (c.as_slice-in-Greater-3.ensures.value ∙ c.by_occurrence-exchanged-in-Greater.ensures.value ∙ (λ d. by_occurrence (c.as_slice-in-Greater.ensures.value d ++ c.as_slice-in-Greater-2.ensures.value d)))
    c.place_at-in-Greater.ensures.value
