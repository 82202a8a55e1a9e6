use Rattle.std.proofs.Common.{◌∙◌, ap}
use Rattle.lm_ots.specs.OneTime.{head_word, type_of_number}
use Rattle.lms_tree.specs.Tree.{tree_of_number}
use Rattle.lms_tree.proofs.KeyBytes.{key_found, mid_to_end, ots_refused, written_as_read}
use Rattle.lms_tree.proofs.keys.LmsPublic.read.Goals as goal

pub returns-in_default-of_number-clause-value : goal.returns-in_default-of_number-clause-value
returns-in_default-of_number-clause-value c =
    ots_refused c.args.b.now c.in-Some.lms_type c.head_word-found-2.result
    (c.in-Some.ensures ∙ ap tree_of_number c.head_word-found.ensures)
    (c.head_word-found-2.ensures ∙ ap head_word (mid_to_end c.args.b.now 4 52 c.told-b))
    c.in_default-of_number.ensures

pub returns-clause-value : goal.returns-clause-value
returns-clause-value c =
    key_found c.args.b.now _
    (c.in-Some.ensures ∙ ap tree_of_number c.head_word-found.ensures)
    (c.in-Some-of_number.ensures ∙ ap type_of_number (c.head_word-found-2.ensures ∙ ap head_word (mid_to_end c.args.b.now 4 52 c.told-b)))
    c.copy_from_slice.ensures.after
    (c.copy_from_slice-2.ensures.after ∙ mid_to_end c.args.b.now 24 32 c.told-b)

pub returns-clause-written : goal.returns-clause-written
returns-clause-written c =
    written_as_read c.args.b.now _ c.told-b c.fits-b
    (c.in-Some.ensures ∙ ap tree_of_number c.head_word-found.ensures)
    (c.in-Some-of_number.ensures ∙ ap type_of_number (c.head_word-found-2.ensures ∙ ap head_word (mid_to_end c.args.b.now 4 52 c.told-b)))
    c.copy_from_slice.ensures.after
    (c.copy_from_slice-2.ensures.after ∙ mid_to_end c.args.b.now 24 32 c.told-b)
