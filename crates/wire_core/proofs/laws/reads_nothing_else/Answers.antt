use Rattle.wire_core.proofs.Readings.{number_at-takes_1, number_at-takes_2, number_at-takes_4, number_at-takes_8, bytes_at-takes}
use Rattle.wire_core.proofs.laws.reads_nothing_else.Goals as goal

pub returns : goal.returns
returns c = record {
  one = number_at-takes_1;
  two = number_at-takes_2;
  four = number_at-takes_4;
  eight = number_at-takes_8;
  bytes = bytes_at-takes;
}
