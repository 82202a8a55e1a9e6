use Rattle.std.proofs.Common.{◌≡◌, ℕ, List, ◌+◌, ◌-◌, length, take, drop, ap, ◌∙◌, arith}
use Rattle.std.proofs.lemmas.List.{drop-drop, take_rest}
use Rattle.lm_ots.specs.OneTime.{signature_bytes}
use Rattle.lms_tree.proofs.verifier.parts_of.Goals as goal

-- what follows the one-time signature
after_ots : (c : goal.After-result-1) → c.split_at.result.1.now ≡ drop (4 + signature_bytes c.args.key.now.ots_type) c.args.sig.now
after_ots c =
    let back : c.split_at.result.1.now
    ≡ drop c.signature_length.result (take (length c.args.sig.now - 4) (drop 4 c.args.sig.now)) =
    c.split_at.ensures.back in
    rw (take_rest, drop-drop, c.signature_length.ensures) at back

pub returns-clause-kind : goal.returns-clause-kind
returns-clause-kind c = rw (← after_ots c) c.head_word-2.ensures

pub returns-clause-path : goal.returns-clause-path
returns-clause-path c =
    let far : 4 + signature_bytes c.args.key.now.ots_type + 4 ≡ 8 + signature_bytes c.args.key.now.ots_type = omega arith in
    take_rest c.split_at.result.1.now 4
    ∙ ap (λ (s : List ℕ). drop 4 s) (after_ots c)
    ∙ drop-drop 4 (4 + signature_bytes c.args.key.now.ots_type) c.args.sig.now
    ∙ ap (λ (n : ℕ). drop n c.args.sig.now) far
