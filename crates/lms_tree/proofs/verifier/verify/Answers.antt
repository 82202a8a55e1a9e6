-- Each answer is what the check gives, and the check decides validity.
use Rattle.std.proofs.Common.{◌≡◌, arith, drop, length, rules}
use Rattle.std.proofs.lemmas.List.{length-drop, length-take-le}
use Rattle.lm_ots.specs.OneTime.{signature_bytes}
use Rattle.lms_tree.proofs.Validity.{decided, refused_by_kind}
use Rattle.lms_tree.proofs.verifier.verify.Goals as goal

pub returns-then-have-need-clause-answer : goal.returns-then-have-need-clause-answer
returns-then-have-need-clause-answer c = search rules

pub returns-then-have-need-clause-valid : goal.returns-then-have-need-clause-valid
returns-then-have-need-clause-valid c =
    decided c.args.key.now c.args.message.now c.args.sig.now _ (λ i. (c.type_inv.sig i).fits) (returns-then-have-need-clause-answer c)

pub returns-in-Err-clause-answer : goal.returns-in-Err-clause-answer
returns-in-Err-clause-answer c = search rules

pub returns-in-Err-clause-valid : goal.returns-in-Err-clause-valid
returns-in-Err-clause-valid c =
    decided c.args.key.now c.args.message.now c.args.sig.now _ (λ i. (c.type_inv.sig i).fits) (returns-in-Err-clause-answer c)

pub returns-in-Err-clause-ots_kind : goal.returns-in-Err-clause-ots_kind
returns-in-Err-clause-ots_kind c =
    let whole : length c.parts_of-parts.result.ots.now ≡ signature_bytes c.args.key.now.ots_type =
    rw (c.parts_of-parts.ensures.ots) (length-take-le (signature_bytes c.args.key.now.ots_type) (drop 4 c.args.sig.now)
    (omega (arith, length-drop 4 c.args.sig.now))) in
    refused_by_kind c.args.key.now.ots_type c.args.key.now.identifier c.parts_of-parts.result.q c.args.message.now
    c.parts_of-parts.result.ots.now c.in-Err.refusal whole c.in-Err.ensures

pub returns-then-parts-expected-clause-answer : goal.returns-then-parts-expected-clause-answer
returns-then-parts-expected-clause-answer c = search rules

pub returns-then-parts-expected-clause-valid : goal.returns-then-parts-expected-clause-valid
returns-then-parts-expected-clause-valid c =
    decided c.args.key.now c.args.message.now c.args.sig.now _ (λ i. (c.type_inv.sig i).fits) (returns-then-parts-expected-clause-answer c)

pub returns-then-not-is_leaf-clause-answer : goal.returns-then-not-is_leaf-clause-answer
returns-then-not-is_leaf-clause-answer c = search rules

pub returns-then-not-is_leaf-clause-valid : goal.returns-then-not-is_leaf-clause-valid
returns-then-not-is_leaf-clause-valid c =
    decided c.args.key.now c.args.message.now c.args.sig.now _ (λ i. (c.type_inv.sig i).fits) (returns-then-not-is_leaf-clause-answer c)

pub returns-then-not-is_root-clause-answer : goal.returns-then-not-is_root-clause-answer
returns-then-not-is_root-clause-answer c = search rules

pub returns-then-not-is_root-clause-valid : goal.returns-then-not-is_root-clause-valid
returns-then-not-is_root-clause-valid c =
    decided c.args.key.now c.args.message.now c.args.sig.now _ (λ i. (c.type_inv.sig i).fits) (returns-then-not-is_root-clause-answer c)

pub returns-clause-answer : goal.returns-clause-answer
returns-clause-answer c = search rules

pub returns-clause-valid : goal.returns-clause-valid
returns-clause-valid c =
    decided c.args.key.now c.args.message.now c.args.sig.now _ (λ i. (c.type_inv.sig i).fits) (returns-clause-answer c)
