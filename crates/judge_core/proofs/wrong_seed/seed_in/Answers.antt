use Rattle.std.proofs.Common.{◌≡◌, ℕ, ◌-◌, ◌≤◌, List, length, take, drop, sym, ap, ◌∙◌, arith, length-drop}
use Rattle.std.proofs.lemmas.List.{take_all}
use Rattle.wire_core.specs.Bytes.{IsBytes}
use Rattle.judge_core.proofs.SeedPlaces.{seed-laid}
use Rattle.judge_core.proofs.wrong_seed.seed_in.Goals as goal

pub overflow_sub-content : goal.overflow_sub-content
overflow_sub-content c =
    let fits : IsBytes c.args.content.now = λ i. omega (arith, c.type_inv.content i) in
    (seed-laid c.requires.0 c.args.content.now fits c.requires.1).most

-- all of the last 32 bytes
all-last : (bytes : List ℕ) → 32 ≤ length bytes → take (length bytes - (length bytes - 32)) (drop (length bytes - 32) bytes) ≡ drop
    (length bytes - 32) bytes
all-last bytes le = take_all (length bytes - (length bytes - 32)) (drop (length bytes - 32) bytes)
    (omega (arith, length-drop (length bytes - 32) bytes, le))

pub copy_from_slice-requires : goal.copy_from_slice-requires
copy_from_slice-requires c =
    let fits : IsBytes c.args.content.now = λ i. omega (arith, c.type_inv.content i) in
    let laid = seed-laid c.requires.0 c.args.content.now fits c.requires.1 in
    sym (ap (λ (l : List ℕ). length l) (all-last c.args.content.now laid.most ∙ laid.at) ∙ laid.long)

pub returns : goal.returns
returns c = λ shape reveals.
    let fits : IsBytes c.args.content.now = λ i. omega (arith, c.type_inv.content i) in
    let laid = seed-laid shape c.args.content.now fits reveals in
    c.copy_from_slice.ensures.after ∙ all-last c.args.content.now laid.most ∙ laid.at
