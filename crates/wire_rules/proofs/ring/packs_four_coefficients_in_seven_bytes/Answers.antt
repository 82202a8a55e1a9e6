use Rattle.std.proofs.Common.{ℕ, ◌<◌, List, set, replicate, arith}
use Rattle.std.proofs.lemmas.List.Elements.{All-set, All-replicate}
use Rattle.wire_rules.proofs.ring.packs_four_coefficients_in_seven_bytes.Goals as goal

pub of-requires : goal.of-requires
of-requires g c =
    let P : ℕ → Type 0 = λ x. x < 12289 in
    let none : List ℕ = replicate 1024 0 in
    All-set P (set (set none 0 12288) 2 1) 3 12288 (omega arith)
    (All-set P (set none 0 12288) 2 1 (omega arith) (All-set P none 0 12288 (omega arith) (All-replicate P 1024 0 (omega arith))))
