use Rattle.std.proofs.Common.{length, refl}
use Rattle.wire_core.proofs.Readings.{number_at-again_1, number_at-again_2, number_at-again_4, number_at-again_8, bytes_at-again}
use Rattle.wire_core.proofs.laws.reads_what_is_put.Goals as goal

pub returns : goal.returns
returns c = record {
  one = λ n place more small. number_at-again_1 n place more;
  two = λ n place more small. number_at-again_2 n place more small;
  four = λ n place more small. number_at-again_4 n place more small;
  eight = λ n place more small. number_at-again_8 n place more small;
  bytes = λ text place more. bytes_at-again (length text) text more place refl;
}
