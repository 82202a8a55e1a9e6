use Rattle.pad_stream.proofs.StreamLemmas.{length-bytes_from}
use Rattle.pad_stream.proofs.draws.stream_laws.Goals as goal

pub returns : goal.returns
returns c = λ key count. length-bytes_from key 0 count
