use Rattle.std.proofs.Common.{◌≡◌, ◌∙◌, ℕ, ◌+◌, ◌∷◌, [], ap, slice_index_or, refl, arith}
use Rattle.sha2.specs.Sha256.{sha256}
use Rattle.sha_lanes.proofs.Lanes.{lane-digest}
use Rattle.lm_ots.specs.Signing.{parts_of, seed_string}
use Rattle.lm_ots.proofs.Tables.{each_of_four}
use Rattle.lm_ots.proofs.one_time_keys.OtsKey.four_starts.Goals as goal

pub returns : goal.returns
returns c = λ k below.
    let key = parts_of c.args.self.now in
    lane-digest (c.seed_string.result ∷ c.seed_string-2.result ∷ c.seed_string-3.result ∷ c.seed_string-4.result ∷ [])
    c.four_digests.result refl c.four_digests.ensures k below
    ∙ ap sha256 (each_of_four (λ k. slice_index_or (c.seed_string.result ∷ c.seed_string-2.result ∷ c.seed_string-3.result ∷ c.seed_string-4.result ∷ []) k []
    ≡ seed_string key.identifier key.q (c.args.first + k) key.seed)
    (let none : c.args.first + 0 ≡ c.args.first = omega arith in rw none c.seed_string.ensures) c.seed_string-2.ensures c.seed_string-3.ensures c.seed_string-4.ensures k below)
