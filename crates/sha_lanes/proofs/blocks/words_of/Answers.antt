use Rattle.std.proofs.Common.{◌≡◌, ◌∙◌, length, arith, ap, inl, inr, slice_index}
use Rattle.std.proofs.lemmas.Bool.{cases_lt}
use Rattle.std.proofs.lemmas.List.{get_or-set_other, get_or-set_same, length-set}
use Rattle.sha2.proofs.Schedule256.{IsWindow_first}
use Rattle.sha_lanes.specs.Lanes.{lane}
use Rattle.sha_lanes.proofs.Schedules.{lane-set, length-lane}
use Rattle.sha_lanes.proofs.blocks.words_of.Goals as goal

pub words-preserved : goal.words-preserved
words-preserved c =
    let place = c.words.k in
    let word = c.words_at.result in (
      length-set c.words.words place word ∙ c.words.invariant.0,
      λ j k below written.
          let held = lane j c.words.words in
          let long : length held ≡ 16 = length-lane c.words.words j ∙ c.words.invariant.0 in
          ap (λ l. slice_index l k) (lane-set c.words.words j place word)
          ∙ elim (cases_lt k place) [
            | inl before ↦ get_or-set_other held place k (slice_index word j) 0 (omega arith) ∙ c.words.invariant.1 j k below before
            | inr here ↦
                let e : place ≡ k = omega arith in
                rw (← e) (get_or-set_same held place (slice_index word j) 0 (omega arith) ∙ c.words_at.ensures j below)
          ],
    )

pub returns : goal.returns
returns c j below =
    let words = c.words.words in
    IsWindow_first _ (lane j words) (length-lane words j ∙ c.words.invariant.0)
    (λ k lt. c.words.invariant.1 j k below (omega arith))
