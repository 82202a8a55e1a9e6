use Rattle.std.proofs.Common.{◌∙◌}
use Rattle.pad_stream.proofs.StreamLemmas.{sha256-pad}
use Rattle.pad_stream.proofs.pads.pad_hash.Goals as goal

pub returns : goal.returns
returns c =
    c.finalize.ensures _ (c.hash_stream.ensures _ (c.update-3.ensures _ (c.update-2.ensures _ (c.update.ensures _ c.new-hasher.ensures))))
    ∙ sha256-pad c.args.seed.now c.pad_key.result c.to_be_bytes.result c.number.result c.args.length c.number.ensures c.to_be_bytes.ensures
    c.pad_key.ensures
