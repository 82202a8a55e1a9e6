use Rattle.std.proofs.Common.{◌≡◌, ◌+◌, ◌%◌, refl, arith}
use Rattle.sha_lanes.proofs.Schedules.{slice_index-lane}
use Rattle.sha_lanes.proofs.rounds.next_word.Goals as goal

pub returns : goal.returns
returns c =
    let p = c.args.place in
    let w = slice_index-lane c.args.w.now in
    let at : p % 16 ≡ p = omega arith in
    record {
      value = λ j below.
          rw (
            w j ((p + 14) % 16),
            w j ((p + 9) % 16),
            w j ((p + 1) % 16),
            at,
            w j p,
            c.add-word.ensures j below,
            c.add.ensures j below,
            c.add-newer.ensures j below,
            c.small_sigma1.ensures j below,
            c.small_sigma0.ensures j below,
          ) refl;
      window = refl;
    }
